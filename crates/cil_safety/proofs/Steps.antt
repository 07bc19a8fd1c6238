-- The step of an instruction of a body that passed: its entries settled, then its group, then the edges that it goes on by.
use Rattle.std.proofs.Common.{◌≡◌, ℕ, zero, suc, ◌<◌, List, [], ◌∷◌, length, true, false, Option, Some, None, refl, sym, ap, ◌∙◌, subst, arith}
use Rattle.std.proofs.lemmas.List.{reverse-reverse}
use Rattle.std.specs.Prelude.{reverse, is_some, option_map, option_and_then, slice_get}
use Rattle.type_tree.specs.declared.tree.TExpr.{TExpr}
use Rattle.type_tree.specs.declared.tree.Head.TheVariants as head
use Rattle.il_model.specs.declared.program.Program.{Program}
use Rattle.il_model.specs.declared.method.Body.{Body}
use Rattle.il_model.specs.declared.method.MethodDef.{MethodDef}
use Rattle.il_model.specs.declared.layout.MethodTree.{MethodTree}
use Rattle.il_model.specs.declared.op.Op.{Op}
use Rattle.il_model.specs.declared.op.Op.TheVariants as op
use Rattle.il_model.specs.declared.member.MRef.{MRef}
use Rattle.il_model.specs.declared.member.FRef.{FRef}
use Rattle.il_model.specs.Kinds.{is_reference}
use Rattle.il_model.specs.Ops.{operand_of}
use Rattle.il_model.specs.Library.{plain}
use Rattle.il_model.specs.Found.{method_at}
use Rattle.il_model.specs.Entries.{vector_of, entries_of}
use Rattle.interaction.specs.Process.{Naming}
use Rattle.store_object.specs.Store.{Store}
use Rattle.cil_flow.specs.Control.{control_at}
use Rattle.cil_flow.specs.Regions.{begins_handler}
use Rattle.cil_flow.specs.Flow.{first_fault}
use Rattle.cil_verify.specs.Places.{View, view_of, code_of, clauses_of}
use Rattle.cil_verify.specs.Members.{result_at}
use Rattle.cil_verify.specs.Rows.{plain_head, row_of}
use Rattle.cil_verify.specs.Admits.{Operands, left_by_row}
use Rattle.cil_verify.specs.States.{Stack, stack_at, states_of, first_refused}
use Rattle.cil_meaning.specs.Values as kind
use Rattle.cil_meaning.specs.Naming.{Mention, IsNaming, put_type}
use Rattle.cil_meaning.specs.Frames.{Frame, Places, Frames}
use Rattle.cil_meaning.specs.Site.{Site, op_at}
use Rattle.cil_meaning.specs.Pieces.{given}
use Rattle.cil_meaning.specs.Groups.{group_of}
use Rattle.cil_meaning.specs.Meaning.{does, begins, meaning_in, meaning}
use Rattle.cil_safety.proofs.Sorts.{Number32, Number64, Ref, sorts_of}
use Rattle.cil_safety.proofs.Fit.{Holds, WideSorts, ValuesFit, PlacesFit, GoesOn, IsInstance, TopFits, Tops, FramesFit}
use Rattle.cil_safety.proofs.Pieces.{HasHandlers, Settled, Sits, Runs, where_given, settles_fits}
use Rattle.cil_safety.proofs.PlaceForms.{PlacesAlike, FitsPlaces}
use Rattle.cil_safety.proofs.CallPieces.{FitsTypes, ret_fits}
use Rattle.cil_safety.proofs.Pointers.{loads_through, stores_through, clears_through}
use Rattle.cil_safety.proofs.Straight.{HasFaults}
use Rattle.cil_safety.proofs.StraightForms.{is_straight, LiteralFits, HasStrings, straight_fits}
use Rattle.cil_safety.proofs.Edges.{WidensWell, IsAdmitted, Follows, next, wide_reverse, sorts-reverse, admitted, edge_fits}
use Rattle.cil_safety.proofs.ObjectForms.{HasExceptions, HasCasts, throws_row, castclass_row, isinst_row}
use Rattle.cil_safety.proofs.BoxForms.{IsBoxed, HasTexts, box_row, unbox_row, prints_int32, prints_int64, prints_text, joins_row}
use Rattle.cil_safety.proofs.CallForms.{arguments_written, IsCallee, IsConstructor, call_row, new_row}
use Rattle.cil_safety.proofs.MemberForms.{IsField, IsStatic, ldfld_row, stfld_row, ldflda_row, ldsfld_row, stsfld_row, ldsflda_row}
use Rattle.cil_safety.proofs.Laws.{BeginsMain, laws_from, start_from, never_stuck_from}
use Rattle.cil_safety.specs.NeverStuck.{NeverStuck}
use Rattle.cil_safety.proofs.VectorForms.{IsVector, ldelem_row}
use Rattle.cil_safety.proofs.NewVectors.{MeasuresWell, IsNewVector, ldlen_row, newarr_row, nameof_row}
use Rattle.cil_safety.proofs.SlotForms.{IsSlotted, callvirt_row}
use Rattle.cil_safety.proofs.StoredElements.{HasOwnElements, stelem_row}
use Rattle.cil_safety.proofs.Numbers.{summed_int32, summed_int64}
use Rattle.cil_safety.proofs.SwapForms.{int32_swapped, int64_swapped, object_swapped, exchange_row, compare_row, add_row}
use Rattle.cil_safety.proofs.Flows.{keeps_borders, IsEdge, edge_is}

-- ---- lists and options

get_at : {A : Type 0} (xs : List A) (k : ℕ) → k < length xs → (x : A) × (slice_get xs k ≡ Some x)
get_at [] k lt = absurd (omega (arith, lt))
get_at (x ∷ xs) zero lt = (x, refl)
get_at (x ∷ xs) (suc k) lt = get_at xs k (omega (arith, lt))

-- what an option holds that a map of it gives
record Mapped {A B : Type 0} (f : A → B) (o : Option A) (b : B) : Type 0 where
  from : A
  is : o ≡ Some from
  gives : f from ≡ b

mapped : {A B : Type 0} (f : A → B) (o : Option A) (b : B) → option_map f o ≡ Some b → Mapped f o b
mapped f None b e = absurd (cc e)
mapped f (Some a) b e = record { from = a; is = refl; gives = cc e }

-- a body's instruction, as the verifier and as the meaning reads it
pub code_is : (o : Option Body) (at : ℕ) (i : Op) → option_and_then (λ (b : Body). slice_get b.code at) o ≡ Some i → slice_get (code_of o) at ≡ Some i
code_is None at i e = absurd (cc e)
code_is (Some b) at i e = e

-- a method with an instruction has a body
pub body_of : (o : Option Body) (at : ℕ) (i : Op) → option_and_then (λ (b : Body). slice_get b.code at) o ≡ Some i → (b : Body) × (o ≡ Some b)
body_of None at i e = absurd (cc e)
body_of (Some b) at i e = (b, refl)

op_is : (o : Option Body) (at : ℕ) (i : Op) → slice_get (code_of o) at ≡ Some i → option_and_then (λ (b : Body). slice_get b.code at) o ≡ Some i
op_is None at i e = absurd (cc e)
op_is (Some b) at i e = e

-- What is known of a body that passed, at one instantiation.
pub record BodyPasses (p : Program) (m : MethodTree) (d : MethodDef) : Type 0 where
  pub body : Body
  pub has : d.body ≡ Some body
  pub flows : first_fault (is_some d.result) body ≡ None
  pub passed : first_refused (view_of p d) ≡ None
  pub alike : PlacesAlike p d m
  pub places : FitsPlaces p d m
  pub types : FitsTypes p d m
  pub widens : WidensWell p d m
  pub literals : (at : ℕ) (i : Op) → op_at d at ≡ Some i → LiteralFits p (operand_of i)

-- the field, or the static field, that an instruction names
pub data NamesField : Op → FRef → Type 0 where
  by_ldfld : {f : FRef} → NamesField (op.Ldfld f) f
  by_stfld : {f : FRef} → NamesField (op.Stfld f) f
  by_ldflda : {f : FRef} → NamesField (op.Ldflda f) f

pub data NamesStatic : Op → FRef → Type 0 where
  by_ldsfld : {f : FRef} → NamesStatic (op.Ldsfld f) f
  by_stsfld : {f : FRef} → NamesStatic (op.Stsfld f) f
  by_ldsflda : {f : FRef} → NamesStatic (op.Ldsflda f) f

-- the type whose values an instruction puts into boxes or takes from them
pub data NamesBox : Op → TExpr → Type 0 where
  by_box : {t : TExpr} → NamesBox (op.Box t) t
  by_unbox : {t : TExpr} → NamesBox (op.UnboxAny t) t

-- what is known of the members and types that the instruction of a frame names, and of the vectors that it may measure
pub record NamesWell (p : Program) (n : Naming Mention TExpr) (s : Site) : Type 0 where
  pub callee : (r : MRef) → op_at s.definition s.frame.at ≡ Some (op.Call r) → IsCallee p n s r (arguments_written (view_of p s.definition) r) (result_at r)
  pub slotted : (r : MRef) → op_at s.definition s.frame.at ≡ Some (op.Callvirt r) → IsSlotted p n s r
  pub maker : (r : MRef) → op_at s.definition s.frame.at ≡ Some (op.Newobj r) → IsConstructor p n s r
  pub field : (i : Op) (f : FRef) → op_at s.definition s.frame.at ≡ Some i → NamesField i f → IsField p s f
  pub static : (i : Op) (f : FRef) → op_at s.definition s.frame.at ≡ Some i → NamesStatic i f → IsStatic p s f
  pub boxed : (i : Op) (t : TExpr) → op_at s.definition s.frame.at ≡ Some i → NamesBox i t → is_reference p (put_type s.frame.method t) ≡ false → IsBoxed p (put_type s.frame.method t)
  pub new_vector : (t : TExpr) → op_at s.definition s.frame.at ≡ Some (op.Newarr t) → IsNewVector p (put_type s.frame.method (vector_of t)) (put_type s.frame.method t)
  pub vector : (t : TExpr) → op_at s.definition s.frame.at ≡ Some (op.Ldelem t) → IsVector p (put_type s.frame.method (vector_of t)) (put_type s.frame.method t)
  pub stored : (t : TExpr) → op_at s.definition s.frame.at ≡ Some (op.Stelem t) → IsVector p (put_type s.frame.method (vector_of t)) (put_type s.frame.method t) × HasOwnElements p (put_type s.frame.method (vector_of t)) (put_type s.frame.method t)
  pub measures : MeasuresWell p s

-- What is known of a program's classes of the library, and of its casts.
pub record HasLibrary (p : Program) : Type 0 where
  pub faults : HasFaults p
  pub objects : is_reference p (plain 0) ≡ true
  pub strings : HasStrings p
  pub exceptions : HasExceptions p
  pub casts : HasCasts p
  pub texts : HasTexts p

-- the instructions whose step is proved; no `leave`, `constrained.` or start is among them
pub data IsCovered : Op → Type 0 where
  straight : {i : Op} → is_straight (group_of i) ≡ true → keeps_borders (control_at i) ≡ true → IsCovered i
  ret : IsCovered op.Ret
  ldobj : {t : TExpr} → IsCovered (op.Ldobj t)
  stobj : {t : TExpr} → IsCovered (op.Stobj t)
  initobj : {t : TExpr} → IsCovered (op.Initobj t)
  throw : IsCovered op.Throw
  castclass : {t : TExpr} → IsCovered (op.Castclass t)
  isinst : {t : TExpr} → IsCovered (op.Isinst t)
  box : {t : TExpr} → IsCovered (op.Box t)
  unbox : {t : TExpr} → IsCovered (op.UnboxAny t)
  call : {r : MRef} → IsCovered (op.Call r)
  newobj : {r : MRef} → IsCovered (op.Newobj r)
  ldfld : {f : FRef} → IsCovered (op.Ldfld f)
  stfld : {f : FRef} → IsCovered (op.Stfld f)
  ldflda : {f : FRef} → IsCovered (op.Ldflda f)
  ldsfld : {f : FRef} → IsCovered (op.Ldsfld f)
  stsfld : {f : FRef} → IsCovered (op.Stsfld f)
  ldsflda : {f : FRef} → IsCovered (op.Ldsflda f)
  print_int32 : IsCovered op.WriteLineInt32
  print_int64 : IsCovered op.WriteLineInt64
  print_text : IsCovered op.WriteLineString
  join : IsCovered op.Join
  nameof : {t : TExpr} → IsCovered (op.NameOf t)
  newarr : {t : TExpr} → IsCovered (op.Newarr t)
  ldlen : IsCovered op.Ldlen
  ldelem : {t : TExpr} → IsCovered (op.Ldelem t)
  stelem : {t : TExpr} → IsCovered (op.Stelem t)
  callvirt : {r : MRef} → IsCovered (op.Callvirt r)
  exchange_int32 : IsCovered op.ExchangeInt32
  exchange_int64 : IsCovered op.ExchangeInt64
  exchange_object : IsCovered op.ExchangeObject
  compare_int32 : IsCovered op.CompareExchangeInt32
  compare_int64 : IsCovered op.CompareExchangeInt64
  compare_object : IsCovered op.CompareExchangeObject
  add_int32 : IsCovered op.AddInt32
  add_int64 : IsCovered op.AddInt64

module _ (p : Program) (n : Naming Mention TExpr) (names : IsNaming n) (handlers : HasHandlers p n) (library : HasLibrary p) where
  -- ---- edges, as the steps take them

  module _ (m : MethodTree) (d : MethodDef) (b : BodyPasses p m d) where
    abbrev pub view : View
    view = view_of p d

    abbrev pub states : List Stack
    states = states_of (view_of p d)

    in_body : (at : ℕ) (i : Op) → slice_get (code_of d.body) at ≡ Some i → slice_get b.body.code at ≡ Some i
    in_body at i e = subst (λ o. slice_get (code_of o) at ≡ Some i) b.has e

    -- what an instruction leaves, from its top down, goes on by each edge
    goes_by : (at : ℕ) (i : Op) (a : IsAdmitted p d m b.widens at i) (out : Operands) → slice_get (code_of d.body) at ≡ Some i → keeps_borders (control_at i) ≡ true → reverse out ≡ a.left → (to : ℕ) → Follows i at to → GoesOn p n m d to (sorts_of p m out)
    goes_by at i a out is keeps left to f =
        let e : IsEdge b.body at to = edge_is (is_some d.result) b.body b.flows at i (in_body at i is) keeps to f in
        let inside : to < length (code_of d.body) = subst (λ o. to < length (code_of o)) (sym b.has) e.inside in
        let plain : at < to → begins_handler (clauses_of d.body) to ≡ false = subst (λ o. at < to → begins_handler (clauses_of o) to ≡ false) (sym b.has) e.plain in
        let there = get_at (code_of d.body) to inside in
        let wider : WideSorts p (sorts_of p m a.left) (sorts_of p m (stack_at states to)) = edge_fits p d m b.widens at i a is to f inside plain in
        let wider' : WideSorts p (sorts_of p m (reverse out)) (sorts_of p m (stack_at states to)) = subst (λ z. WideSorts p (sorts_of p m z) (sorts_of p m (stack_at states to))) (sym left) wider in
        let turned : WideSorts p (reverse (sorts_of p m (reverse out))) (reverse (sorts_of p m (stack_at states to))) = wide_reverse p (sorts_of p m (reverse out)) (sorts_of p m (stack_at states to)) wider' in
        let first : reverse (sorts_of p m (reverse out)) ≡ sorts_of p m out = sym (sorts-reverse p m (reverse out)) ∙ ap (sorts_of p m) (reverse-reverse out) in
        let second : reverse (sorts_of p m (stack_at states to)) ≡ sorts_of p m (reverse (stack_at states to)) = sym (sorts-reverse p m (stack_at states to)) in
        record {
          op = there.0;
          code = op_is d.body to there.0 there.1;
          wide = subst (λ z. WideSorts p z (sorts_of p m (reverse (stack_at states to)))) first (subst (λ z. WideSorts p (reverse (sorts_of p m (reverse out))) z) second turned);
        }

  -- ---- one instruction of a frame

  module _ (u : ℕ) (x : Store) (s : Site) (h : Holds) (hs : List Holds) (c : Sits p n names x s h hs) (b : BodyPasses p s.frame.method s.definition) (w : NamesWell p n s) where
    abbrev pub entering : Operands
    entering = reverse (stack_at (states_of (view_of p s.definition)) s.frame.at)

    -- what an instruction does that the forward pass admits
    does_fit : (i : Op) → op_at s.definition s.frame.at ≡ Some i → IsCovered i → (a : IsAdmitted p s.definition s.frame.method b.widens s.frame.at i) (out : Operands) → left_by_row (view_of p s.definition) (row_of i) entering ≡ Some out → reverse out ≡ a.left →
        ValuesFit p n x (h ∷ hs) (sorts_of p s.frame.method entering) s.frame.stack → (numbers : List ℕ) → Settled p n names s.frame.method (entries_of p i) numbers → Runs p n names u x (does p s numbers s.frame.stack (group_of i))
    does_fit i code (straight ok keeps) a out row left fit numbers sets =
        straight_fits p n names handlers library.faults library.strings u x s h hs c b.alike b.places numbers i out s.frame.stack entering (b.literals s.frame.at i code) ok row fit
        (λ to f. goes_by s.frame.method s.definition b s.frame.at i a out (code_is s.definition.body s.frame.at i code) keeps left to f)
    does_fit op.Ret code ret a out row left fit numbers sets = ret_fits p n names u x s h hs c b.types entering out s.frame.stack row fit
    does_fit (op.Ldobj t) code ldobj a out row left fit numbers sets =
        loads_through p n names handlers library.faults u x s h hs c numbers t entering out s.frame.stack row fit
        (goes_by s.frame.method s.definition b s.frame.at (op.Ldobj t) a out (code_is s.definition.body s.frame.at (op.Ldobj t) code) refl left (suc s.frame.at) (next refl refl))
    does_fit (op.Stobj t) code stobj a out row left fit numbers sets =
        stores_through p n names handlers library.faults u x s h hs c numbers b.types t entering out s.frame.stack row fit
        (goes_by s.frame.method s.definition b s.frame.at (op.Stobj t) a out (code_is s.definition.body s.frame.at (op.Stobj t) code) refl left (suc s.frame.at) (next refl refl))
    does_fit (op.Initobj t) code initobj a out row left fit numbers sets =
        clears_through p n names handlers library.faults u x s h hs c numbers t entering out s.frame.stack row fit
        (goes_by s.frame.method s.definition b s.frame.at (op.Initobj t) a out (code_is s.definition.body s.frame.at (op.Initobj t) code) refl left (suc s.frame.at) (next refl refl))
    does_fit op.Throw code throw a out row left fit numbers sets = throws_row p n names handlers library.faults u x s h hs c library.exceptions b.types entering out s.frame.stack row fit
    does_fit (op.Castclass t) code castclass a out row left fit numbers sets = castclass_row p n names handlers library.faults u x s h hs c library.casts numbers t entering out s.frame.stack row fit (goes_by s.frame.method s.definition b s.frame.at (op.Castclass t) a out (code_is s.definition.body s.frame.at (op.Castclass t) code) refl left (suc s.frame.at) (next refl refl))
    does_fit (op.Isinst t) code isinst a out row left fit numbers sets = isinst_row p n names handlers library.faults u x s h hs c library.casts numbers t entering out s.frame.stack row fit (goes_by s.frame.method s.definition b s.frame.at (op.Isinst t) a out (code_is s.definition.body s.frame.at (op.Isinst t) code) refl left (suc s.frame.at) (next refl refl))
    does_fit (op.Box t) code box a out row left fit numbers sets = box_row p n names handlers library.faults u x s h hs c numbers b.types t (w.boxed (op.Box t) t code by_box) sets entering out s.frame.stack row fit (goes_by s.frame.method s.definition b s.frame.at (op.Box t) a out (code_is s.definition.body s.frame.at (op.Box t) code) refl left (suc s.frame.at) (next refl refl))
    does_fit (op.UnboxAny t) code unbox a out row left fit numbers sets = unbox_row p n names handlers library.faults u x s h hs c numbers library.casts t (w.boxed (op.UnboxAny t) t code by_unbox) sets entering out s.frame.stack row fit (goes_by s.frame.method s.definition b s.frame.at (op.UnboxAny t) a out (code_is s.definition.body s.frame.at (op.UnboxAny t) code) refl left (suc s.frame.at) (next refl refl))
    does_fit (op.Call r) code call a out row left fit numbers sets = call_row p n names u x s h hs c b.places numbers r (w.callee r code) entering out s.frame.stack row fit (goes_by s.frame.method s.definition b s.frame.at (op.Call r) a out (code_is s.definition.body s.frame.at (op.Call r) code) refl left (suc s.frame.at) (next refl refl))
    does_fit (op.Newobj r) code newobj a out row left fit numbers sets = new_row p n names u x s h hs c b.places numbers r (w.maker r code) sets entering out s.frame.stack row fit (goes_by s.frame.method s.definition b s.frame.at (op.Newobj r) a out (code_is s.definition.body s.frame.at (op.Newobj r) code) refl left (suc s.frame.at) (next refl refl))
    does_fit (op.Ldfld f) code ldfld a out row left fit numbers sets = ldfld_row p n names handlers library.faults u x s h hs c b.types numbers f (w.field (op.Ldfld f) f code by_ldfld) entering out s.frame.stack row fit (goes_by s.frame.method s.definition b s.frame.at (op.Ldfld f) a out (code_is s.definition.body s.frame.at (op.Ldfld f) code) refl left (suc s.frame.at) (next refl refl))
    does_fit (op.Stfld f) code stfld a out row left fit numbers sets = stfld_row p n names handlers library.faults u x s h hs c b.types numbers f (w.field (op.Stfld f) f code by_stfld) entering out s.frame.stack row fit (goes_by s.frame.method s.definition b s.frame.at (op.Stfld f) a out (code_is s.definition.body s.frame.at (op.Stfld f) code) refl left (suc s.frame.at) (next refl refl))
    does_fit (op.Ldflda f) code ldflda a out row left fit numbers sets = ldflda_row p n names handlers library.faults u x s h hs c b.types numbers f (w.field (op.Ldflda f) f code by_ldflda) entering out s.frame.stack row fit (goes_by s.frame.method s.definition b s.frame.at (op.Ldflda f) a out (code_is s.definition.body s.frame.at (op.Ldflda f) code) refl left (suc s.frame.at) (next refl refl))
    does_fit (op.Ldsfld f) code ldsfld a out row left fit numbers sets = ldsfld_row p n names handlers library.faults u x s h hs c b.types numbers f (w.static (op.Ldsfld f) f code by_ldsfld) sets entering out s.frame.stack row fit (goes_by s.frame.method s.definition b s.frame.at (op.Ldsfld f) a out (code_is s.definition.body s.frame.at (op.Ldsfld f) code) refl left (suc s.frame.at) (next refl refl))
    does_fit (op.Stsfld f) code stsfld a out row left fit numbers sets = stsfld_row p n names handlers library.faults u x s h hs c b.types numbers f (w.static (op.Stsfld f) f code by_stsfld) sets entering out s.frame.stack row fit (goes_by s.frame.method s.definition b s.frame.at (op.Stsfld f) a out (code_is s.definition.body s.frame.at (op.Stsfld f) code) refl left (suc s.frame.at) (next refl refl))
    does_fit (op.Ldsflda f) code ldsflda a out row left fit numbers sets = ldsflda_row p n names handlers library.faults u x s h hs c b.types numbers f (w.static (op.Ldsflda f) f code by_ldsflda) sets entering out s.frame.stack row fit (goes_by s.frame.method s.definition b s.frame.at (op.Ldsflda f) a out (code_is s.definition.body s.frame.at (op.Ldsflda f) code) refl left (suc s.frame.at) (next refl refl))
    does_fit op.WriteLineInt32 code print_int32 a out row left fit numbers sets = prints_int32 p n names handlers library.faults u x s h hs c numbers b.types entering out s.frame.stack row fit (goes_by s.frame.method s.definition b s.frame.at op.WriteLineInt32 a out (code_is s.definition.body s.frame.at op.WriteLineInt32 code) refl left (suc s.frame.at) (next refl refl))
    does_fit op.WriteLineInt64 code print_int64 a out row left fit numbers sets = prints_int64 p n names handlers library.faults u x s h hs c numbers b.types entering out s.frame.stack row fit (goes_by s.frame.method s.definition b s.frame.at op.WriteLineInt64 a out (code_is s.definition.body s.frame.at op.WriteLineInt64 code) refl left (suc s.frame.at) (next refl refl))
    does_fit op.WriteLineString code print_text a out row left fit numbers sets = prints_text p n names handlers library.faults u x s h hs c numbers library.texts b.types entering out s.frame.stack row fit (goes_by s.frame.method s.definition b s.frame.at op.WriteLineString a out (code_is s.definition.body s.frame.at op.WriteLineString code) refl left (suc s.frame.at) (next refl refl))
    does_fit op.Join code join a out row left fit numbers sets = joins_row p n names handlers library.faults u x s h hs c numbers (record { env = h ∷ hs; tops = record { definition = s.definition; frame = c.frame; fresh = c.fresh; op = op.Join; code = code; stack = fit; waits = c.waits }; places = c.places }) entering out s.frame.stack row fit (goes_by s.frame.method s.definition b s.frame.at op.Join a out (code_is s.definition.body s.frame.at op.Join code) refl left (suc s.frame.at) (next refl refl))
    does_fit (op.NameOf t) code nameof a out row left fit numbers sets = nameof_row p n names handlers library.faults u x s h hs c numbers library.strings t sets entering out s.frame.stack row fit (goes_by s.frame.method s.definition b s.frame.at (op.NameOf t) a out (code_is s.definition.body s.frame.at (op.NameOf t) code) refl left (suc s.frame.at) (next refl refl))
    does_fit (op.Newarr t) code newarr a out row left fit numbers sets = newarr_row p n names handlers library.faults u x s h hs c numbers t (w.new_vector t code) sets entering out s.frame.stack row fit (goes_by s.frame.method s.definition b s.frame.at (op.Newarr t) a out (code_is s.definition.body s.frame.at (op.Newarr t) code) refl left (suc s.frame.at) (next refl refl))
    does_fit op.Ldlen code ldlen a out row left fit numbers sets = ldlen_row p n names handlers library.faults u x s h hs c numbers w.measures entering out s.frame.stack row fit (goes_by s.frame.method s.definition b s.frame.at op.Ldlen a out (code_is s.definition.body s.frame.at op.Ldlen code) refl left (suc s.frame.at) (next refl refl))
    does_fit (op.Ldelem t) code ldelem a out row left fit numbers sets = ldelem_row p n names handlers library.faults u x s h hs c numbers b.types t (w.vector t code) entering out s.frame.stack row fit (goes_by s.frame.method s.definition b s.frame.at (op.Ldelem t) a out (code_is s.definition.body s.frame.at (op.Ldelem t) code) refl left (suc s.frame.at) (next refl refl))
    does_fit (op.Callvirt r) code callvirt a out row left fit numbers sets = callvirt_row p n names handlers library.faults u x s h hs c b.places numbers r (w.slotted r code) entering out s.frame.stack row fit (goes_by s.frame.method s.definition b s.frame.at (op.Callvirt r) a out (code_is s.definition.body s.frame.at (op.Callvirt r) code) refl left (suc s.frame.at) (next refl refl))
    does_fit (op.Stelem t) code stelem a out row left fit numbers sets = stelem_row p n names handlers library.faults u x s h hs c numbers b.types t (w.stored t code).0 (w.stored t code).1 entering out s.frame.stack row fit (goes_by s.frame.method s.definition b s.frame.at (op.Stelem t) a out (code_is s.definition.body s.frame.at (op.Stelem t) code) refl left (suc s.frame.at) (next refl refl))
    does_fit op.ExchangeInt32 code exchange_int32 a out row left fit numbers sets = exchange_row p n names handlers library.faults u x s h hs c numbers (plain_head head.Int32) kind.Int32 Number32 (int32_swapped p n names handlers library.faults u x s h hs c numbers b.types) entering out s.frame.stack row fit (goes_by s.frame.method s.definition b s.frame.at op.ExchangeInt32 a out (code_is s.definition.body s.frame.at op.ExchangeInt32 code) refl left (suc s.frame.at) (next refl refl))
    does_fit op.ExchangeInt64 code exchange_int64 a out row left fit numbers sets = exchange_row p n names handlers library.faults u x s h hs c numbers (plain_head head.Int64) kind.Int64 Number64 (int64_swapped p n names handlers library.faults u x s h hs c numbers b.types) entering out s.frame.stack row fit (goes_by s.frame.method s.definition b s.frame.at op.ExchangeInt64 a out (code_is s.definition.body s.frame.at op.ExchangeInt64 code) refl left (suc s.frame.at) (next refl refl))
    does_fit op.ExchangeObject code exchange_object a out row left fit numbers sets = exchange_row p n names handlers library.faults u x s h hs c numbers (plain 0) kind.Reference (Ref (plain 0)) (object_swapped p n names handlers library.faults u x s h hs c numbers library.objects b.types) entering out s.frame.stack row fit (goes_by s.frame.method s.definition b s.frame.at op.ExchangeObject a out (code_is s.definition.body s.frame.at op.ExchangeObject code) refl left (suc s.frame.at) (next refl refl))
    does_fit op.CompareExchangeInt32 code compare_int32 a out row left fit numbers sets = compare_row p n names handlers library.faults u x s h hs c numbers (plain_head head.Int32) kind.Int32 Number32 (int32_swapped p n names handlers library.faults u x s h hs c numbers b.types) entering out s.frame.stack row fit (goes_by s.frame.method s.definition b s.frame.at op.CompareExchangeInt32 a out (code_is s.definition.body s.frame.at op.CompareExchangeInt32 code) refl left (suc s.frame.at) (next refl refl))
    does_fit op.CompareExchangeInt64 code compare_int64 a out row left fit numbers sets = compare_row p n names handlers library.faults u x s h hs c numbers (plain_head head.Int64) kind.Int64 Number64 (int64_swapped p n names handlers library.faults u x s h hs c numbers b.types) entering out s.frame.stack row fit (goes_by s.frame.method s.definition b s.frame.at op.CompareExchangeInt64 a out (code_is s.definition.body s.frame.at op.CompareExchangeInt64 code) refl left (suc s.frame.at) (next refl refl))
    does_fit op.CompareExchangeObject code compare_object a out row left fit numbers sets = compare_row p n names handlers library.faults u x s h hs c numbers (plain 0) kind.Reference (Ref (plain 0)) (object_swapped p n names handlers library.faults u x s h hs c numbers library.objects b.types) entering out s.frame.stack row fit (goes_by s.frame.method s.definition b s.frame.at op.CompareExchangeObject a out (code_is s.definition.body s.frame.at op.CompareExchangeObject code) refl left (suc s.frame.at) (next refl refl))
    does_fit op.AddInt32 code add_int32 a out row left fit numbers sets = add_row p n names handlers library.faults u x s h hs c numbers (plain_head head.Int32) kind.Int32 Number32 (int32_swapped p n names handlers library.faults u x s h hs c numbers b.types) (λ y old r. summed_int32 old r) entering out s.frame.stack row fit (goes_by s.frame.method s.definition b s.frame.at op.AddInt32 a out (code_is s.definition.body s.frame.at op.AddInt32 code) refl left (suc s.frame.at) (next refl refl))
    does_fit op.AddInt64 code add_int64 a out row left fit numbers sets = add_row p n names handlers library.faults u x s h hs c numbers (plain_head head.Int64) kind.Int64 Number64 (int64_swapped p n names handlers library.faults u x s h hs c numbers b.types) (λ y old r. summed_int64 old r) entering out s.frame.stack row fit (goes_by s.frame.method s.definition b s.frame.at op.AddInt64 a out (code_is s.definition.body s.frame.at op.AddInt64 code) refl left (suc s.frame.at) (next refl refl))

    begins_fit : (i : Op) → op_at s.definition s.frame.at ≡ Some i → IsCovered i → ValuesFit p n x (h ∷ hs) (sorts_of p s.frame.method entering) s.frame.stack → Runs p n names u x (begins p s i)
    begins_fit i code covered fit =
        let a : IsAdmitted p s.definition s.frame.method b.widens s.frame.at i = admitted p s.definition s.frame.method b.widens b.passed s.frame.at i (code_is s.definition.body s.frame.at i code) in
        let o : Mapped reverse (left_by_row (view_of p s.definition) (row_of i) entering) a.left = mapped reverse (left_by_row (view_of p s.definition) (row_of i) entering) a.left a.leaves in
        settles_fits p n names u x s.frame.method (entries_of p i) (λ numbers. does p s numbers s.frame.stack (group_of i)) (λ numbers sets. does_fit i code covered a o.from o.is o.gives fit numbers sets)

  -- ---- the step of frames that fit

  module _ (bodies : (m : MethodTree) (d : MethodDef) (b : Body) → IsInstance p n m d → d.body ≡ Some b → BodyPasses p m d) (named : (s : Site) → IsInstance p n s.frame.method s.definition → NamesWell p n s) where
    top_fits : (u : ℕ) (x : Store) (f : Frame) (fs : List Frame) (pl : List Places) (h : Holds) (hs : List Holds) (t : TopFits p n x f fs h hs) → IsCovered t.op → PlacesFit p n x (h ∷ hs) pl → Runs p n names u x (meaning_in p (f ∷ fs) pl)
    top_fits u x f fs pl h hs t covered places =
        where_given p n names u x (method_at p f.method.method) t.definition (λ d. given (op_at d f.at) (λ o. begins p (record { frame = f; definition = d; around = fs; places = pl }) o)) t.frame.instance.is
        (where_given p n names u x (op_at t.definition f.at) t.op (λ o. begins p (record { frame = f; definition = t.definition; around = fs; places = pl }) o) t.code
        (begins_fit u x (record { frame = f; definition = t.definition; around = fs; places = pl }) h hs (record { frame = t.frame; fresh = t.fresh; waits = t.waits; places = places }) (bodies f.method t.definition (body_of t.definition.body f.at t.op t.code).0 t.frame.instance (body_of t.definition.body f.at t.op t.code).1) (named (record { frame = f; definition = t.definition; around = fs; places = pl }) t.frame.instance) t.op t.code covered t.stack))

    -- the instruction at which the innermost frame stands is one of those that are proved
    abbrev pub TopCovered : (x : Store) (fs : List Frame) (hs : List Holds) → Tops p n x fs hs → Type 0
    TopCovered x [] hs t = ⊥
    TopCovered x (f ∷ fs) [] t = ⊥
    TopCovered x (f ∷ fs) (h ∷ hs) t = IsCovered t.op

    tops_fit : (u : ℕ) (x : Store) (fs : List Frame) (pl : List Places) (hs : List Holds) (t : Tops p n x fs hs) → TopCovered x fs hs t → PlacesFit p n x hs pl → Runs p n names u x (meaning_in p fs pl)
    tops_fit u x [] pl hs t covered places = absurd covered
    tops_fit u x (f ∷ fs) pl [] t covered places = absurd covered
    tops_fit u x (f ∷ fs) pl (h ∷ hs) t covered places = top_fits u x f fs pl h hs t covered places

    -- each instruction that is covered is safe, in frames that fit
    pub step_fits : (u : ℕ) (x : Store) (s : Frames) (f : FramesFit p n x s) → TopCovered x s.frames f.env f.tops → Runs p n names u x (meaning p s)
    step_fits u x s f covered = tops_fit u x s.frames s.places f.env f.tops covered f.places

    -- where each instruction of each body is one of these, every step is
    module _ (covered : (m : MethodTree) (d : MethodDef) → IsInstance p n m d → (at : ℕ) (i : Op) → op_at d at ≡ Some i → IsCovered i) where
      all_covered : (x : Store) (fs : List Frame) (hs : List Holds) (t : Tops p n x fs hs) → TopCovered x fs hs t
      all_covered x [] hs t = t
      all_covered x (f ∷ fs) [] t = t
      all_covered x (f ∷ fs) (h ∷ hs) t = covered f.method t.definition t.frame.instance f.at t.op t.code

      pub all_steps_fit : (u : ℕ) (x : Store) (s : Frames) → FramesFit p n x s → Runs p n names u x (meaning p s)
      all_steps_fit u x s f = step_fits u x s f (all_covered x s.frames f.env f.tops)

-- What is known of a program under each naming, and that each of its instructions is one of those.
pub record IsKnown (p : Program) (n : Naming Mention TExpr) : Type 0 where
  pub handlers : HasHandlers p n
  pub begins : BeginsMain p n
  pub bodies : (m : MethodTree) (d : MethodDef) (b : Body) → IsInstance p n m d → d.body ≡ Some b → BodyPasses p m d
  pub named : (s : Site) → IsInstance p n s.frame.method s.definition → NamesWell p n s
  pub covered : (m : MethodTree) (d : MethodDef) → IsInstance p n m d → (at : ℕ) (i : Op) → op_at d at ≡ Some i → IsCovered i

-- such a program is never stuck
pub never_stuck_where_known : (p : Program) → HasLibrary p → ((n : Naming Mention TExpr) → IsNaming n → IsKnown p n) → NeverStuck p
never_stuck_where_known p library known = never_stuck_from p (λ n names.
    let k = known n names in
    (laws_from p n names (all_steps_fit p n names k.handlers library k.bodies k.named k.covered), start_from p n k.begins))

-- What an instruction that is not refused names: members that are found, and types with as many arguments as variables.
use Rattle.std.proofs.Common.{◌≡◌, ℕ, zero, suc, ◌<◌, ◌≤◌, Bool, true, false, not, ◌&&◌, List, ◌∷◌, length, slice_get, is_some, reverse, ⊎_elim, Option, Some, None, option_map, option_and_then, if◌then◌else◌, refl, sym, ap, ◌∙◌, subst, arith}
use Rattle.std.specs.List.{list_all, AllByRecursion}
use Rattle.std.specs.Option.{option_or}
use Rattle.std.proofs.lemmas.Bool.{cases_lt}
use Rattle.il_model.specs.declared.op.Op.{Op}
use Rattle.il_model.specs.declared.op.Op.TheVariants as op
use Rattle.il_model.specs.declared.class.FieldDef.{FieldDef}
use Rattle.il_model.specs.declared.method.MethodDef.{MethodDef}
use Rattle.il_model.specs.declared.method.Shape.{Shape}
use Rattle.il_model.specs.declared.program.Program.{Program}
use Rattle.type_tree.specs.declared.tree.TExpr.{TExpr}
use Rattle.il_model.specs.Ops.{Operand, operand_of}
use Rattle.il_model.specs.Ops as operand
use Rattle.il_model.specs.Entries.{mention_of, has_slot}
use Rattle.il_model.specs.Find.{takes_object, class_of}
use Rattle.il_model.specs.Assignable.{Bounded}
use Rattle.il_model.specs.Trees.{trees_in}
use Rattle.il_model.specs.Admission.{has_count}
use Rattle.il_model.specs.ClassRules.{meets_own_bounds, meets_bounds}
use Rattle.cil_verify.specs.declared.fault.VerifyCause.{VerifyCause}
use Rattle.cil_verify.specs.declared.fault.VerifyCause.TheVariants as cause
use Rattle.cil_verify.specs.Places.{View, scope_in, code_of}
use Rattle.cil_verify.specs.Rows.{Row, admits_none, row_of}
use Rattle.cil_verify.specs.Members.{called, field_named, is_shape_of, may_be_called, is_constructor, is_abstract_class, is_static_field, is_instance_field, types_in, names_well_in, names_well, method_meets_bounds, method_in, meets_all_bounds}
use Rattle.cil_verify.specs.Admits.{left_by_row, left_by}
use Rattle.cil_verify.specs.States.{Stack, stack_at, cause_of_merge, cause_of_instr, refusal_if, refused_before, states_of, first_refused}
use Rattle.rgctx_fill.proofs.WholeLists.{all_weaker, both_of, all_of_test, test_of_all}
use Rattle.rgctx_fill.proofs.WholeTypes.{IsCounted}

-- ---- no instruction is refused

or_none : {A : Type 0} (a b : Option A) → option_or a b ≡ None → (a ≡ None) × (b ≡ None)
or_none None b h = (refl, h)
or_none (Some x) b h = cc

refusal_none : (at : ℕ) (c : Option VerifyCause) → refusal_if at c ≡ None → c ≡ None
refusal_none at None h = refl
refusal_none at (Some c) h = cc

module _ (v : View) (states : List Stack) where
  cause_at : ℕ → Option VerifyCause
  cause_at n = option_and_then (cause_of_instr v states n) (slice_get (code_of v.method.body) n)

  -- where none of so many is refused, none of them has a cause
  no_cause : (n at : ℕ) → refused_before v states n ≡ None → at < n → cause_at at ≡ None
  unfolding cause_at
  no_cause zero at none low = absurd (omega arith)
  no_cause (suc n) at none low =
      let p : (refused_before v states n ≡ None) × (refusal_if n (cause_at n) ≡ None) = or_none (refused_before v states n) (refusal_if n (cause_at n)) none in
      ⊎_elim
      (λ (l : at < n). no_cause n at p.0 l)
      (λ (l : n ≤ at). let same : n ≡ at = omega arith in subst (λ k. cause_at k ≡ None) same (refusal_none n (cause_at n) p.1))
      (cases_lt at n)

  no_cause_of : (n at : ℕ) (i : Op) → refused_before v states n ≡ None → at < n → slice_get (code_of v.method.body) at ≡ Some i → cause_of_instr v states at i ≡ None
  unfolding cause_at
  no_cause_of n at i none low is = sym (ap (option_and_then (cause_of_instr v states at)) is) ∙ no_cause n at none low

-- what is known of an instruction without a cause
pub record IsJudged (v : View) (i : Op) : Type 0 where
  pub names : names_well v i ≡ true
  pub bounds : meets_all_bounds v i ≡ true
  pub left : Stack
  pub before : Stack
  pub leaves : left_by v i before ≡ Some left

judged_if : (v : View) (states : List Stack) (at : ℕ) (i : Op) (a b : Bool) (o : Option Stack) → names_well v i ≡ a → meets_all_bounds v i ≡ b → left_by v i (stack_at states at) ≡ o
    → (if not a then Some cause.BadMember else (if not b then Some cause.BadConstraint else cause_of_merge v states at i o)) ≡ None → IsJudged v i
judged_if v states at i false b o names bounds left none = cc
judged_if v states at i true false o names bounds left none = cc
judged_if v states at i true true None names bounds left none = cc
judged_if v states at i true true (Some s) names bounds left none = record { names = names; bounds = bounds; left = s; before = stack_at states at; leaves = left }

pub judged : (v : View) (at : ℕ) (i : Op) → first_refused v ≡ None → at < length (code_of v.method.body) → slice_get (code_of v.method.body) at ≡ Some i → IsJudged v i
judged v at i none low is =
    judged_if v (states_of v) at i (names_well v i) (meets_all_bounds v i) (left_by v i (stack_at (states_of v) at)) refl refl refl
    (no_cause_of v (states_of v) (length (code_of v.method.body)) at i none low is)

-- ---- what it names

shape_some : (test : Shape → Bool) (o : Option MethodDef) → is_shape_of test o ≡ true → is_some o ≡ true
shape_some test None h = cc
shape_some test (Some m) h = refl

made_some : (o : Option MethodDef) (b : Bool) → (is_constructor o && b) ≡ true → is_some o ≡ true
made_some None b h = cc
made_some (Some m) b h = refl

instance_some : (o : Option FieldDef) → is_instance_field o ≡ true → is_some o ≡ true
instance_some None h = cc
instance_some (Some f) h = refl

static_some : (o : Option FieldDef) → is_static_field o ≡ true → is_some o ≡ true
static_some None h = cc
static_some (Some f) h = refl

module _ (program : Program) where
  -- a type that meets its bounds has its numbers of arguments
  pub bounds-counts : (scope : Bounded) (t : TExpr) → meets_bounds program scope t ≡ true → IsCounted program t
  bounds-counts scope t h =
      test_of_all (has_count program) (trees_in t)
      (all_weaker (λ (u : TExpr). meets_own_bounds program scope u ≡ true) (λ u. has_count program u ≡ true) (λ u k. (both_of (has_count program u) _ k).0) (trees_in t)
      (all_of_test (meets_own_bounds program scope) (trees_in t) h))

  -- members are found, and the types besides those of their definitions have their numbers of arguments
  abbrev pub IsNamed : Operand → Type 0
  IsNamed operand.nothing = Unit {0}
  IsNamed (operand.int32 n) = Unit {0}
  IsNamed (operand.int64 n) = Unit {0}
  IsNamed (operand.literal n) = Unit {0}
  IsNamed (operand.place n) = Unit {0}
  IsNamed (operand.target n) = Unit {0}
  IsNamed (operand.targets ns) = Unit {0}
  IsNamed (operand.type t) = IsCounted program t
  IsNamed (operand.method m) = (is_some (called program m) ≡ true) × AllByRecursion (IsCounted program) (m.class ∷ m.args)
  IsNamed (operand.field f) = (is_some (field_named program f) ≡ true) × IsCounted program f.class
  IsNamed (operand.constrained t m) = (is_some (called program m) ≡ true) × AllByRecursion (IsCounted program) (t ∷ m.class ∷ m.args)

  -- some stack is admitted
  abbrev Admits : Row → Type 0
  Admits r = ¬ (r ≡ admits_none)

  named_of : (i : Op) → names_well_in program (row_of i) ≡ true → AllByRecursion (IsCounted program) (types_in (mention_of i)) → Admits (row_of i) → IsNamed (operand_of i)
  named_of op.Nop names counts admits = tt
  named_of op.Dup names counts admits = tt
  named_of op.Pop names counts admits = tt
  named_of (op.LdcI4 n) names counts admits = tt
  named_of (op.LdcI8 n) names counts admits = tt
  named_of op.Ldnull names counts admits = tt
  named_of (op.Ldstr n) names counts admits = tt
  named_of (op.Ldarg n) names counts admits = tt
  named_of (op.Ldloc n) names counts admits = tt
  named_of (op.Ldarga n) names counts admits = tt
  named_of (op.Ldloca n) names counts admits = tt
  named_of (op.Starg n) names counts admits = tt
  named_of (op.Stloc n) names counts admits = tt
  named_of op.Add names counts admits = tt
  named_of op.Sub names counts admits = tt
  named_of op.Mul names counts admits = tt
  named_of op.And names counts admits = tt
  named_of op.Or names counts admits = tt
  named_of op.Xor names counts admits = tt
  named_of op.AddOvf names counts admits = tt
  named_of op.SubOvf names counts admits = tt
  named_of op.MulOvf names counts admits = tt
  named_of op.AddOvfUn names counts admits = tt
  named_of op.SubOvfUn names counts admits = tt
  named_of op.MulOvfUn names counts admits = tt
  named_of op.Div names counts admits = tt
  named_of op.Rem names counts admits = tt
  named_of op.DivUn names counts admits = tt
  named_of op.RemUn names counts admits = tt
  named_of op.Shl names counts admits = tt
  named_of op.Shr names counts admits = tt
  named_of op.ShrUn names counts admits = tt
  named_of op.Neg names counts admits = tt
  named_of op.Not names counts admits = tt
  named_of op.ConvI4 names counts admits = tt
  named_of op.ConvI8 names counts admits = tt
  named_of op.ConvU8 names counts admits = tt
  named_of op.ConvOvfI4 names counts admits = tt
  named_of op.Ceq names counts admits = tt
  named_of op.Cgt names counts admits = tt
  named_of op.CgtUn names counts admits = tt
  named_of op.Clt names counts admits = tt
  named_of op.CltUn names counts admits = tt
  named_of (op.Br to) names counts admits = tt
  named_of (op.Brtrue to) names counts admits = tt
  named_of (op.Brfalse to) names counts admits = tt
  named_of (op.Beq to) names counts admits = tt
  named_of (op.BneUn to) names counts admits = tt
  named_of (op.Bge to) names counts admits = tt
  named_of (op.Bgt to) names counts admits = tt
  named_of (op.Ble to) names counts admits = tt
  named_of (op.Blt to) names counts admits = tt
  named_of (op.BgeUn to) names counts admits = tt
  named_of (op.BgtUn to) names counts admits = tt
  named_of (op.BleUn to) names counts admits = tt
  named_of (op.BltUn to) names counts admits = tt
  named_of (op.Switch to) names counts admits = tt
  named_of (op.Leave to) names counts admits = tt
  named_of (op.Call m) names counts admits = (shape_some may_be_called (called program m) names, counts)
  named_of (op.Callvirt m) names counts admits = (shape_some takes_object (called program m) names, counts)
  named_of (op.Constrained t m) names counts admits = (shape_some has_slot (called program m) names, counts)
  named_of (op.Newobj m) names counts admits = (made_some (called program m) (not (is_abstract_class (class_of program m.class))) names, counts)
  named_of op.Ret names counts admits = tt
  named_of (op.Ldfld f) names counts admits = (instance_some (field_named program f) names, counts.0)
  named_of (op.Stfld f) names counts admits = (instance_some (field_named program f) names, counts.0)
  named_of (op.Ldflda f) names counts admits = (instance_some (field_named program f) names, counts.0)
  named_of (op.Ldsfld f) names counts admits = (static_some (field_named program f) names, counts.0)
  named_of (op.Stsfld f) names counts admits = (static_some (field_named program f) names, counts.0)
  named_of (op.Ldsflda f) names counts admits = (static_some (field_named program f) names, counts.0)
  named_of (op.Ldobj t) names counts admits = counts.0
  named_of (op.Stobj t) names counts admits = counts.0
  named_of (op.Initobj t) names counts admits = counts.0
  named_of (op.Newarr t) names counts admits = counts.0
  named_of op.Ldlen names counts admits = tt
  named_of (op.Ldelem t) names counts admits = counts.0
  named_of (op.Stelem t) names counts admits = counts.0
  named_of (op.Box t) names counts admits = counts.0
  named_of (op.UnboxAny t) names counts admits = counts.0
  named_of (op.Castclass t) names counts admits = counts.0
  named_of (op.Isinst t) names counts admits = counts.0
  named_of op.Throw names counts admits = tt
  named_of op.WriteLineInt32 names counts admits = tt
  named_of op.WriteLineInt64 names counts admits = tt
  named_of op.WriteLineString names counts admits = tt
  named_of op.CompareExchangeInt32 names counts admits = tt
  named_of op.CompareExchangeInt64 names counts admits = tt
  named_of op.CompareExchangeObject names counts admits = tt
  named_of op.ExchangeInt32 names counts admits = tt
  named_of op.ExchangeInt64 names counts admits = tt
  named_of op.ExchangeObject names counts admits = tt
  named_of op.AddInt32 names counts admits = tt
  named_of op.AddInt64 names counts admits = tt
  named_of (op.NameOf t) names counts admits = counts.0
  named_of op.Start names counts admits = tt
  named_of op.Join names counts admits = tt
  named_of op.Endfinally names counts admits = absurd (admits refl)
  named_of op.Rethrow names counts admits = absurd (admits refl)
  named_of (op.Ldftn m) names counts admits = absurd (admits refl)
  named_of (op.Ldvirtftn m) names counts admits = absurd (admits refl)

  admits_some : (v : View) (i : Op) (before left : Stack) → left_by v i before ≡ Some left → Admits (row_of i)
  admits_some v i before left leaves none = no (row_of i) none leaves
    where
      no : (r : Row) → r ≡ admits_none → option_map reverse (left_by_row v r (reverse before)) ≡ Some left → ⊥
      no r is e = let never : None ≡ Some left = sym (ap (λ x. option_map reverse (left_by_row v x (reverse before))) is) ∙ e in cc

-- what a judged instruction names
pub judged-names : (v : View) (i : Op) → IsJudged v i → IsNamed v.program (operand_of i)
judged-names v i j =
    named_of v.program i j.names
    (all_weaker (λ (t : TExpr). meets_bounds v.program (scope_in v) t ≡ true) (IsCounted v.program) (λ t h. bounds-counts v.program (scope_in v) t h) (types_in (mention_of i))
    (all_of_test (meets_bounds v.program (scope_in v)) (types_in (mention_of i)) (both_of (list_all (meets_bounds v.program (scope_in v)) (types_in (mention_of i))) (method_meets_bounds v (method_in (mention_of i))) j.bounds).0))
    (admits_some v.program v i j.before j.left j.leaves)

-- What is known of an accepted program under each naming: of the members and types that each instruction names, and of all the rest.
use Rattle.std.proofs.Common.{◌≡◌, Bool, true, false, not, List, [], ◌∷◌, Option, Some, None, refl, sym, ap, ◌∙◌, subst}
use Rattle.std.specs.Prelude.{slice_get, reverse, option_map, if◌then◌else◌}
use Rattle.std.specs.List.{list_all}
use Rattle.std.proofs.lemmas.Bool.{and_parts}
use Rattle.type_tree.specs.declared.tree.TExpr.{TExpr}
use Rattle.il_model.specs.declared.program.Program.{Program}
use Rattle.il_model.specs.declared.method.Shape.{Shape}
use Rattle.il_model.specs.declared.method.MethodDef.{MethodDef}
use Rattle.il_model.specs.declared.member.MRef.{MRef}
use Rattle.il_model.specs.declared.member.FRef.{FRef}
use Rattle.il_model.specs.declared.op.Op.{Op}
use Rattle.il_model.specs.declared.op.Op.TheVariants as op
use Rattle.il_model.specs.declared.method.PType.{PType}
use Rattle.il_model.specs.Accepted.{IsOfText}
use Rattle.il_model.specs.Find.{class_of, takes_object}
use Rattle.il_model.specs.Kinds.{is_reference}
use Rattle.il_model.specs.Entries.{vector_of, mention_of}
use Rattle.il_model.specs.ClassRules.{has_counts, meets_bounds}
use Rattle.interaction.specs.Process.{Naming}
use Rattle.cil_verify.specs.Places.{View, view_of, code_of, scope_in}
use Rattle.cil_verify.specs.States.{stack_at, states_of}
use Rattle.cil_verify.specs.WellTyped.{IsWellTyped}
use Rattle.cil_verify.specs.Forms.{first_unbuilt}
use Rattle.cil_verify.specs.Fits.{fits, fits_place, is_struct}
use Rattle.cil_verify.specs.Rows.{calls_on, row_of}
use Rattle.cil_verify.specs.Admits.{Operands, take_one, take_places, push_all, is_called_on, left_by_row}
use Rattle.cil_verify.specs.Members.{called, is_shape_of, may_be_called, is_abstract_class, is_constructor, types_in, method_in, method_meets_bounds, names_well_in, params_at, result_at}
use Rattle.cil_meaning.specs.Naming.{Mention, put_type}
use Rattle.cil_meaning.specs.Site.{Site, op_at}
use Rattle.cil_safety.proofs.Fit.{IsInstance}
use Rattle.cil_safety.proofs.Edges.{IsAdmitted, admitted}
use Rattle.cil_safety.proofs.CallForms.{arguments_written, IsCallee, IsConstructor}
use Rattle.cil_safety.proofs.MemberForms.{IsField, IsStatic}
use Rattle.cil_safety.proofs.SlotForms.{IsSlotted}
use Rattle.cil_safety.proofs.BoxForms.{IsBoxed}
use Rattle.cil_safety.proofs.VectorForms.{IsVector}
use Rattle.cil_safety.proofs.NewVectors.{IsNewVector}
use Rattle.cil_safety.proofs.StoredElements.{HasOwnElements}
use Rattle.cil_safety.proofs.Steps.{code_is, body_of, BodyPasses, NamesField, by_ldfld, by_stfld, by_ldflda, NamesStatic, by_ldsfld, by_stsfld, by_ldsflda, NamesBox, by_box, by_unbox, NamesWell, IsKnown, never_stuck_where_known}
use Rattle.cil_safety.proofs.PlainTypes.{IsPlainType, bounds_plain}
use Rattle.cil_safety.proofs.Built.{IsBuiltInstr, method_named, field_is_named, type_named}
use Rattle.cil_safety.proofs.Instances.{IsAccepted, accepted, handlers_well, put_any, begins_main}
use Rattle.cil_safety.proofs.NamesMembers.{method_there, call_named}
use Rattle.cil_safety.proofs.NamesClasses.{constructor_named}
use Rattle.cil_safety.proofs.NamesSlots.{slotted_named}
use Rattle.cil_safety.proofs.NamesTypes.{vector_named, own_elements, new_vector_named, boxed_named, measures_well}
use Rattle.cil_safety.proofs.NamesFields.{field_named_well, static_named_well}
use Rattle.cil_safety.proofs.LibraryFacts.{has_library}
use Rattle.cil_safety.proofs.BodiesPass.{body_passes, all_covered}
use Rattle.cil_safety.specs.NeverStuck.{NeverStuck}

-- ---- what a row takes

-- places that are taken leave some operands, with which it goes on
places_taken : (v : View) (ps : List PType) (go : Operands → Option Operands) (os out : Operands) → take_places v ps go os ≡ Some out → (rest : Operands) × (go rest ≡ Some out)
places_taken v [] go os out e = (os, e)
places_taken v (q ∷ ps) go [] out e = absurd (cc e)
places_taken v (q ∷ ps) go (a ∷ os) out e = by_test (λ e'. places_taken v ps go os out e') (fits_place v q a) e
  where
    by_test : (take_places v ps go os ≡ Some out → (rest : Operands) × (go rest ≡ Some out)) → (b : Bool) → (if b then take_places v ps go os else None) ≡ Some out → (rest : Operands) × (go rest ≡ Some out)
    by_test more true e' = more e'
    by_test more false e' = absurd (cc e')

-- a `callvirt` is admitted of no struct
no_struct_called : (v : View) (r : MRef) (os out : Operands) → left_by_row v (calls_on r) os ≡ Some out → is_struct v r.class ≡ false
no_struct_called v r os out e = by_test (is_struct v r.class) refl
  where
    none_taken : (go : Operands → Option Operands) (rest : Operands) → is_struct v r.class ≡ true → take_one (is_called_on v r) go rest ≡ Some out → ⊥
    none_taken go [] t e' = cc e'
    none_taken go (a ∷ rest) t e' =
        let none : (if is_called_on v r a then go rest else None) ≡ None = ap (λ b. if (if b then false else fits v r.class a) then go rest else None) t in
        cc (none, e')

    by_test : (b : Bool) → is_struct v r.class ≡ b → b ≡ false
    by_test false t = refl
    by_test true t = let rest = places_taken v (reverse (params_at r)) (take_one (is_called_on v r) (push_all (result_at r))) os out e in absurd (none_taken (push_all (result_at r)) rest.0 t rest.1)

-- a definition that passes a test of its shape is there
shape_there : (test : Shape → Bool) (o : Option MethodDef) → is_shape_of test o ≡ true → (d : MethodDef) × (o ≡ Some d) × (test d.shape ≡ true)
shape_there test None e = absurd (cc e)
shape_there test (Some d) e = (d, refl, e)

constructor_there : (o : Option MethodDef) → is_constructor o ≡ true → (d : MethodDef) × (o ≡ Some d)
constructor_there None e = absurd (cc e)
constructor_there (Some d) e = (d, refl)

some_mapped : {A B : Type 0} (f : A → B) (o : Option A) (b : B) → option_map f o ≡ Some b → (a : A) × (o ≡ Some a)
some_mapped f None b e = absurd (cc e)
some_mapped f (Some a) b e = (a, refl)

module _ (p : Program) (ok : IsAccepted p) (n : Naming Mention TExpr) where
  module _ (s : Site) (i : IsInstance p n s.frame.method s.definition) where
    put_here : (t : TExpr) → put_type s.frame.method t ≡ t
    put_here t = put_any p ok n s.frame.method s.definition i t

    module _ (o : Op) (there : op_at s.definition s.frame.at ≡ Some o) where
      passes : BodyPasses p s.frame.method s.definition
      passes = let has = body_of s.definition.body s.frame.at o there in body_passes p ok ok.classes n s.frame.method s.definition i has.0 has.1

      code : slice_get (code_of s.definition.body) s.frame.at ≡ Some o
      code = code_is s.definition.body s.frame.at o there

      built : IsBuiltInstr o
      built = ok.built.code s.frame.method.method s.definition s.frame.at o i.is code

      abbrev view : View
      view = view_of p s.definition

      -- what the forward pass asked of the instruction
      record IsJudged : Type 0 where
        names : names_well_in p (row_of o) ≡ true
        bounds : list_all (meets_bounds p (scope_in (view_of p s.definition))) (types_in (mention_of o)) ≡ true
        operands : Operands
        left : Operands
        leaves : left_by_row (view_of p s.definition) (row_of o) operands ≡ Some left

      judged : IsJudged
      judged =
          let a : IsAdmitted p s.definition s.frame.method passes.widens s.frame.at o = admitted p s.definition s.frame.method passes.widens passes.passed s.frame.at o code in
          let entering : Operands = reverse (stack_at (states_of (view_of p s.definition)) s.frame.at) in
          let l = some_mapped reverse (left_by_row (view_of p s.definition) (row_of o) entering) a.left a.leaves in
          record {
            names = a.names;
            bounds = (and_parts (list_all (meets_bounds p (scope_in (view_of p s.definition))) (types_in (mention_of o))) (method_meets_bounds (view_of p s.definition) (method_in (mention_of o))) a.bounds).0;
            operands = entering;
            left = l.0;
            leaves = l.1;
          }

      -- the one type that it writes has its numbers of arguments
      counts : (t : TExpr) → IsPlainType t → (rest : List TExpr) → types_in (mention_of o) ≡ t ∷ rest → has_counts p t ≡ true
      counts t plain_t rest e =
          let all : list_all (meets_bounds p (scope_in (view_of p s.definition))) (t ∷ rest) ≡ true = ap (list_all (meets_bounds p (scope_in (view_of p s.definition)))) (sym e) ∙ judged.bounds in
          sym (bounds_plain p (scope_in (view_of p s.definition)) t plain_t) ∙ (and_parts (meets_bounds p (scope_in (view_of p s.definition)) t) (list_all (meets_bounds p (scope_in (view_of p s.definition))) rest) all).0

    -- ---- methods

    callee_well : (r : MRef) → op_at s.definition s.frame.at ≡ Some (op.Call r) → IsCallee p n s r (arguments_written (view_of p s.definition) r) (result_at r)
    callee_well r there =
        let c = shape_there may_be_called (called p r) (judged (op.Call r) there).names in
        call_named p ok r c.0 (method_there p ok r c.0 c.1) (method_named (op.Call r) r (built (op.Call r) there) refl) n s i c.2

    slotted_well : (r : MRef) → op_at s.definition s.frame.at ≡ Some (op.Callvirt r) → IsSlotted p n s r
    slotted_well r there =
        let j = judged (op.Callvirt r) there in
        let c = shape_there takes_object (called p r) j.names in
        slotted_named p ok r c.0 (method_there p ok r c.0 c.1) (method_named (op.Callvirt r) r (built (op.Callvirt r) there) refl) n s i c.2 (no_struct_called (view_of p s.definition) r j.operands j.left j.leaves)

    maker_well : (r : MRef) → op_at s.definition s.frame.at ≡ Some (op.Newobj r) → IsConstructor p n s r
    maker_well r there =
        let j = judged (op.Newobj r) there in
        let c = constructor_there (called p r) (and_parts (is_constructor (called p r)) (not (is_abstract_class (class_of p r.class))) j.names).0 in
        let met = (and_parts (meets_bounds p (scope_in (view_of p s.definition)) r.class) (list_all (meets_bounds p (scope_in (view_of p s.definition))) r.args) j.bounds).0 in
        constructor_named p ok r c.0 (method_there p ok r c.0 c.1) (method_named (op.Newobj r) r (built (op.Newobj r) there) refl) n s i c.1 j.names met

    -- ---- types

    boxed_well : (o : Op) (t : TExpr) → op_at s.definition s.frame.at ≡ Some o → NamesBox o t → is_reference p (put_type s.frame.method t) ≡ false → IsBoxed p (put_type s.frame.method t)
    boxed_well o t there by_box no' =
        let plain_t = type_named (op.Box t) t (built (op.Box t) there) refl in
        subst (λ z. IsBoxed p z) (sym (put_here t)) (boxed_named p ok ok.classes t plain_t (counts (op.Box t) there t plain_t [] refl) (subst (λ z. is_reference p z ≡ false) (put_here t) no'))
    boxed_well o t there by_unbox no' =
        let plain_t = type_named (op.UnboxAny t) t (built (op.UnboxAny t) there) refl in
        subst (λ z. IsBoxed p z) (sym (put_here t)) (boxed_named p ok ok.classes t plain_t (counts (op.UnboxAny t) there t plain_t [] refl) (subst (λ z. is_reference p z ≡ false) (put_here t) no'))

    new_vector_well : (t : TExpr) → op_at s.definition s.frame.at ≡ Some (op.Newarr t) → IsNewVector p (put_type s.frame.method (vector_of t)) (put_type s.frame.method t)
    new_vector_well t there =
        let plain_t = type_named (op.Newarr t) t (built (op.Newarr t) there) refl in
        subst (λ z. IsNewVector p z (put_type s.frame.method t)) (sym (put_here (vector_of t))) (subst (λ z. IsNewVector p (vector_of t) z) (sym (put_here t)) (new_vector_named p ok.classes t plain_t (counts (op.Newarr t) there t plain_t [] refl)))

    vector_well : (t : TExpr) → IsVector p (put_type s.frame.method (vector_of t)) (put_type s.frame.method t)
    vector_well t = subst (λ z. IsVector p z (put_type s.frame.method t)) (sym (put_here (vector_of t))) (subst (λ z. IsVector p (vector_of t) z) (sym (put_here t)) (vector_named p ok.classes t))

    elements_well : (t : TExpr) → HasOwnElements p (put_type s.frame.method (vector_of t)) (put_type s.frame.method t)
    elements_well t = subst (λ z. HasOwnElements p z (put_type s.frame.method t)) (sym (put_here (vector_of t))) (subst (λ z. HasOwnElements p (vector_of t) z) (sym (put_here t)) (own_elements p ok.classes t))

    -- ---- fields

    field_well : (o : Op) (f : FRef) → op_at s.definition s.frame.at ≡ Some o → NamesField o f → IsField p s f
    field_well o f there by_ldfld = field_named_well p ok ok.classes n s i f (field_is_named (op.Ldfld f) f (built (op.Ldfld f) there) refl) (judged (op.Ldfld f) there).names
    field_well o f there by_stfld = field_named_well p ok ok.classes n s i f (field_is_named (op.Stfld f) f (built (op.Stfld f) there) refl) (judged (op.Stfld f) there).names
    field_well o f there by_ldflda = field_named_well p ok ok.classes n s i f (field_is_named (op.Ldflda f) f (built (op.Ldflda f) there) refl) (judged (op.Ldflda f) there).names

    static_well : (o : Op) (f : FRef) → op_at s.definition s.frame.at ≡ Some o → NamesStatic o f → IsStatic p s f
    static_well o f there by_ldsfld = static_named_well p ok ok.classes n s i f (field_is_named (op.Ldsfld f) f (built (op.Ldsfld f) there) refl) (judged (op.Ldsfld f) there).names
    static_well o f there by_stsfld = static_named_well p ok ok.classes n s i f (field_is_named (op.Stsfld f) f (built (op.Stsfld f) there) refl) (judged (op.Stsfld f) there).names
    static_well o f there by_ldsflda = static_named_well p ok ok.classes n s i f (field_is_named (op.Ldsflda f) f (built (op.Ldsflda f) there) refl) (judged (op.Ldsflda f) there).names

    -- all that an instruction names is well
    pub names_are_well : NamesWell p n s
    names_are_well = record {
      callee = callee_well;
      slotted = slotted_well;
      maker = maker_well;
      field = field_well;
      static = static_well;
      boxed = boxed_well;
      new_vector = new_vector_well;
      vector = λ t there. vector_well t;
      stored = λ t there. (vector_well t, elements_well t);
      measures = measures_well p ok ok.classes n s i;
    }

  -- all that is asked of the program under this naming
  pub is_known : IsKnown p n
  is_known = record {
    handlers = handlers_well p ok n;
    begins = begins_main p ok n;
    bodies = λ m d b i has. body_passes p ok ok.classes n m d i b has;
    named = λ s i. names_are_well s i;
    covered = λ m d i at o is. all_covered p ok ok.classes n m d i at o is;
  }

-- a program of an accepted text that passed the verifier is never stuck
pub never_stuck_accepted : (p : Program) → IsOfText p → first_unbuilt p ≡ None → IsWellTyped p → NeverStuck p
never_stuck_accepted p of none typed =
    let ok : IsAccepted p = accepted p of none typed in
    never_stuck_where_known p (has_library p of ok.classes) (λ n names. is_known p ok n)

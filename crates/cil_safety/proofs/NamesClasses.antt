-- The classes that instructions name: of which objects may be, and what a constructor makes.
use Rattle.std.proofs.Common.{◌≡◌, ℕ, ◌==◌, ◌&&◌, ◌||◌, Bool, true, false, not, [], ◌∷◌, length, Some, None, refl, sym, ap, ◌∙◌, subst, eqb-true}
use Rattle.std.specs.Prelude.{slice_get, is_none, bytes_eq, codes}
use Rattle.std.proofs.lemmas.Bool.{and_parts}
use Rattle.type_tree.specs.declared.tree.TExpr.{TExpr}
use Rattle.type_tree.specs.declared.tree.TNode.TheVariants.{Node}
use Rattle.type_tree.specs.declared.tree.Head.TheVariants as head
use Rattle.type_tree.proofs.TreeLemmas.{top_of-tree_of}
use Rattle.il_model.specs.declared.program.Program.{Program}
use Rattle.il_model.specs.declared.class.ClassKind.{ClassKind}
use Rattle.il_model.specs.declared.class.ClassKind.TheVariants as kind
use Rattle.il_model.specs.declared.class.ClassDef.{ClassDef}
use Rattle.il_model.specs.declared.method.Shape.{Shape}
use Rattle.il_model.specs.declared.method.Shape.TheVariants as shape
use Rattle.il_model.specs.declared.method.MethodDef.{MethodDef}
use Rattle.il_model.specs.declared.member.MRef.{MRef}
use Rattle.il_model.specs.Find.{class_of, takes_object}
use Rattle.il_model.specs.Found.{own_method}
use Rattle.il_model.specs.Kinds.{is_reference_kind, is_reference_class, is_reference_top, is_reference, is_struct_kind, is_struct_class, is_value}
use Rattle.il_model.specs.Library.{plain, library_class}
use Rattle.il_model.specs.Slots.{is_interface_kind, is_interface_class}
use Rattle.il_model.specs.Assignable.{Bounded, element_in_top, element_of}
use Rattle.il_model.specs.ClassRules.{is_abstract_shape, is_delegate_kind, has_objects, HasHierarchy, HasLayout, meets_bounds}
use Rattle.interaction.specs.Process.{Naming}
use Rattle.cil_verify.specs.Places.{view_of, scope_in}
use Rattle.cil_verify.specs.Members.{is_instance, is_abstract_kind, is_abstract_class, is_constructor, called, may_be_made, params_at}
use Rattle.cil_meaning.specs.Values as value
use Rattle.cil_meaning.specs.Naming.{Mention, put_type}
use Rattle.cil_meaning.specs.Site.{Site}
use Rattle.cil_meaning.specs.Types.{object_place, arguments_with, kind_of_class, kind_of_top, kind_of}
use Rattle.cil_safety.proofs.Fit.{has_objects_in, may_be_exact_top, IsExact, IsInstance}
use Rattle.cil_safety.proofs.CallForms.{IsConstructor}
use Rattle.cil_safety.proofs.Passing.{passes_self}
use Rattle.cil_safety.proofs.PlainTypes.{IsPlainType, plain_is, plain_closed, class_of_plain, bounds_plain}
use Rattle.cil_safety.proofs.Built.{IsPlainMethodRef}
use Rattle.cil_safety.proofs.Instances.{IsAccepted, value_plain, good, HasCode, code_there}
use Rattle.cil_safety.proofs.NamesMembers.{IsFoundMethod, class_is_plain, put_here, put_places_here, params_at_same, callee_begins, callee_places}

-- ---- kinds

pub reference_kind : (k : ClassKind) → is_struct_kind k ≡ false → is_reference_kind k ≡ true
reference_kind kind.Plain e = refl
reference_kind kind.Abstract e = refl
reference_kind kind.Interface e = refl
reference_kind kind.Struct e = absurd (cc e)
reference_kind kind.Delegate e = refl

objects_kind : (k : ClassKind) → is_struct_kind k ≡ false → is_abstract_kind k ≡ false → is_interface_kind k ≡ false → is_delegate_kind k ≡ false → has_objects k ≡ true
objects_kind kind.Plain e f g h = refl
objects_kind kind.Abstract e f g h = absurd (cc f)
objects_kind kind.Interface e f g h = absurd (cc g)
objects_kind kind.Struct e f g h = refl
objects_kind kind.Delegate e f g h = absurd (cc h)

instance_shape : (s : Shape) → is_instance s ≡ true → s ≡ shape.Instance
instance_shape shape.Fixed e = absurd (cc e)
instance_shape shape.Instance e = refl
instance_shape shape.Virtual e = absurd (cc e)
instance_shape shape.NewSlot e = absurd (cc e)
instance_shape shape.Abstract e = absurd (cc e)

module _ (p : Program) (ok : IsAccepted p) where
  pub hierarchy : (number : ℕ) (c : ClassDef) → slice_get p.classes number ≡ Some c → HasHierarchy p number c
  hierarchy number c is = (ok.typed.first.each number c is).0

  pub layout : (number : ℕ) (c : ClassDef) → slice_get p.classes number ≡ Some c → HasLayout p number c
  layout number c is = (ok.typed.first.each number c is).1.0

  -- bounds that are met in one scope are met without variables
  pub bounds_alone : (scope : Bounded) (t : TExpr) → IsPlainType t → meets_bounds p scope t ≡ true → meets_bounds p (record { of_class = []; of_method = [] }) t ≡ true
  bounds_alone scope t plain_t met = bounds_plain p (record { of_class = []; of_method = [] }) t plain_t ∙ sym (bounds_plain p scope t plain_t) ∙ met

  -- `string` has no methods
  pub no_method_of_string : (r : MRef) (number k : ℕ) (c : ClassDef) → slice_get p.classes k ≡ Some c → own_method p r c ≡ Some number → (k == 1) ≡ false
  no_method_of_string r number k c is own = by_test (k == 1) refl
    where
      by_test : (b : Bool) → (k == 1) ≡ b → b ≡ false
      by_test false e = refl
      by_test true e =
          let one : k ≡ 1 = eqb-true k 1 e in
          let there : slice_get p.classes 1 ≡ Some (library_class (codes "string") kind.Plain (Some (plain 0)) []) = ap (λ cs. slice_get cs 1) ok.leaves.classes in
          let same : c ≡ library_class (codes "string") kind.Plain (Some (plain 0)) [] = cc (subst (λ z. slice_get p.classes z ≡ Some c) one is, there) in
          let none : own_method p r c ≡ None = ap (own_method p r) same in
          absurd (cc (none, own))

  -- ---- constructors

  module _ (r : MRef) (d : MethodDef) (f : IsFoundMethod p ok r d) (named : IsPlainMethodRef r) (n : Naming Mention TExpr) (s : Site) (i : IsInstance p n s.frame.method s.definition) where
    class_found : class_of p (plain d.owner) ≡ Some f.class
    class_found = class_of_plain p d.owner ∙ f.class_is

    class_here : put_type s.frame.method r.class ≡ plain d.owner
    class_here = put_here p ok r d f named n s i r.class ∙ class_is_plain p ok r d f named

    value_is : is_value p (plain d.owner) ≡ is_struct_kind f.class.kind
    value_is = value_plain p ok d.owner ∙ ap is_struct_class f.class_is

    reference_plain : is_struct_kind f.class.kind ≡ false → is_reference p (plain d.owner) ≡ true
    reference_plain e = ap (is_reference_top p (plain d.owner)) (top_of-tree_of (Node (head.Class d.owner) [])) ∙ ap is_reference_class class_found ∙ reference_kind f.class.kind e

    kind_plain : is_value p (plain d.owner) ≡ true → kind_of p (plain d.owner) ≡ value.Struct
    kind_plain e = ap (kind_of_top p (plain d.owner)) (top_of-tree_of (Node (head.Class d.owner) [])) ∙ ap kind_of_class e

    -- a method that is not abstract is of no interface
    no_interface : is_abstract_shape d.shape ≡ false → is_interface_kind f.class.kind ≡ false
    no_interface no' = by_kind (is_interface_kind f.class.kind) refl (subst (λ b. (not (is_interface_class (slice_get p.classes d.owner)) || b) ≡ true) no' (good p ok f.number d f.there).head.0.suits)
      where
        by_kind : (b : Bool) → is_interface_kind f.class.kind ≡ b → (not (is_interface_class (slice_get p.classes d.owner)) || false) ≡ true → b ≡ false
        by_kind false e e' = refl
        by_kind true e e' =
            let q : is_interface_class (slice_get p.classes d.owner) ≡ true = ap is_interface_class f.class_is ∙ e in
            let z : (not (is_interface_class (slice_get p.classes d.owner)) || false) ≡ false = rw q refl in
            absurd (cc (z, e'))

    exact_class : is_abstract_shape d.shape ≡ false → is_abstract_kind f.class.kind ≡ false → is_struct_kind f.class.kind ≡ false → meets_bounds p (record { of_class = []; of_method = [] }) (plain d.owner) ≡ true → IsExact p (plain d.owner)
    exact_class no_abstract no_abstract_class no_struct met = record {
      objects =
          let o : has_objects_in p (class_of p (plain d.owner)) ≡ true = ap (has_objects_in p) class_found ∙ objects_kind f.class.kind no_struct no_abstract_class (no_interface no_abstract) (hierarchy d.owner f.class f.class_is).no_delegate in
          let t : (d.owner == 1) ≡ false = no_method_of_string r f.number d.owner f.class f.class_is f.listed in
          ap (may_be_exact_top p (plain d.owner)) (top_of-tree_of (Node (head.Class d.owner) [])) ∙ rw (o, t) refl;
      closed = plain_closed (plain d.owner) (plain_is d.owner);
      bounds = met;
    }

    -- `newobj`
    pub constructor_named : called p r ≡ Some d → may_be_made p r ≡ true → meets_bounds p (scope_in (view_of p s.definition)) r.class ≡ true → IsConstructor p n s r
    constructor_named call may met =
        let a = and_parts (is_constructor (called p r)) (not (is_abstract_class (class_of p r.class))) may in
        let b : is_constructor (Some d) ≡ true = subst (λ o. is_constructor o ≡ true) call a.0 in
        let c = and_parts (is_instance d.shape && bytes_eq d.name (codes ".ctor")) (is_none d.result) b in
        let e = and_parts (is_instance d.shape) (bytes_eq d.name (codes ".ctor")) c.0 in
        let shaped : d.shape ≡ shape.Instance = instance_shape d.shape e.0 in
        let no_abstract : is_abstract_shape d.shape ≡ false = ap is_abstract_shape shaped in
        let code : HasCode p ok d = code_there p ok f.number d f.there no_abstract in
        let class_of_is : class_of p r.class ≡ Some f.class = ap (class_of p) (class_is_plain p ok r d f named) ∙ class_found in
        let no_abstract_class : is_abstract_kind f.class.kind ≡ false = not_not (is_abstract_kind f.class.kind) (subst (λ o. not (is_abstract_class o) ≡ true) class_of_is a.1) in
        let met' : meets_bounds p (record { of_class = []; of_method = [] }) (plain d.owner) ≡ true = subst (λ z. meets_bounds p (record { of_class = []; of_method = [] }) z ≡ true) (class_is_plain p ok r d f named) (bounds_alone (scope_in (view_of p s.definition)) r.class named.class met) in
        record {
          number = f.number;
          definition = d;
          body = code.body;
          found = f.found;
          there = f.there;
          has = code.has;
          begins = callee_begins p ok r d f named n s i code;
          count = ap length (f.params ∙ sym (params_at_same p ok r d f named));
          places_are = callee_places p ok r d f named n s i code ∙ ap (λ z. arguments_with z (object_place p r.class) r.params) (takes shaped)
              ∙ ap (λ z. object_place p z ∷ r.params) (sym (put_here p ok r d f named n s i r.class))
              ∙ ap (λ zs. object_place p (put_type s.frame.method r.class) ∷ zs) (sym (put_places_here p ok r d f named n s i (params_at r) ∙ params_at_same p ok r d f named));
          struct_is = λ v. subst (λ z. kind_of p z ≡ value.Struct) (sym class_here) (kind_plain (subst (λ z. is_value p z ≡ true) class_here v));
          reference_is = λ v. subst (λ z. is_reference p z ≡ true) (sym class_here) (reference_plain (sym value_is ∙ subst (λ z. is_value p z ≡ false) class_here v));
          exact = λ v. subst (λ z. IsExact p z) (sym class_here) (exact_class no_abstract no_abstract_class (sym value_is ∙ subst (λ z. is_value p z ≡ false) class_here v) met');
          no_vector = ap element_of class_here ∙ ap element_in_top (top_of-tree_of (Node (head.Class d.owner) []));
          self = passes_self p ok.classes (put_type s.frame.method r.class);
        }
      where
        not_not : (b : Bool) → not b ≡ true → b ≡ false
        not_not true e = absurd (cc e)
        not_not false e = refl

        takes : d.shape ≡ shape.Instance → takes_object d.shape ≡ true
        takes e = ap takes_object e

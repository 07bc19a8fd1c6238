-- An operand that fits a type, as the verifier judges it, goes into a place of the type; assignable stack types are wider, and so is what two join to.
use Rattle.std.proofs.Common.{◌≡◌, ◌⊎◌, inl, inr, Bool, true, false, not, ◌&&◌, ◌||◌, List, [], ◌∷◌, Option, Some, None, refl, sym, ap, ◌∙◌, subst}
use Rattle.std.specs.Prelude.{◌==◌, if◌then◌else◌, find, unwrap_or, slice_get}
use Rattle.type_tree.specs.declared.tree.TExpr.{TExpr}
use Rattle.type_tree.specs.declared.tree.TNode.{TNode}
use Rattle.type_tree.specs.declared.tree.TNode.TheVariants.{Node, ClassVar, MethodVar}
use Rattle.type_tree.specs.declared.tree.Head.TheVariants as head
use Rattle.type_tree.specs.Tree.{top_of}
use Rattle.type_tree.proofs.SameLemmas.{is_same-Decides}
use Rattle.il_model.specs.declared.program.Program.{Program}
use Rattle.il_model.specs.declared.class.ClassKind.{ClassKind}
use Rattle.il_model.specs.declared.class.ClassKind.TheVariants as class_kind
use Rattle.il_model.specs.declared.class.ClassDef.{ClassDef}
use Rattle.il_model.specs.declared.class.VarDef.{VarDef}
use Rattle.il_model.specs.declared.method.MethodDef.{MethodDef}
use Rattle.il_model.specs.declared.layout.MethodTree.{MethodTree}
use Rattle.il_model.specs.Kinds.{is_struct_kind, is_reference_top, is_value_top, is_reference, is_value, is_reference_kind, is_reference_class, is_struct_class, is_struct_kind, is_reference_top, is_value_top}
use Rattle.il_model.specs.Find.{class_of}
use Rattle.il_model.specs.Slots.{is_interface_kind}
use Rattle.il_model.specs.Library.{plain}
use Rattle.il_model.specs.Trees.{is_among}
use Rattle.il_model.specs.Bases.{bases_of}
use Rattle.il_model.specs.Interfaces.{interfaces_of}
use Rattle.il_model.specs.Assignable.{is_object as is_object_type, is_assignable, is_box_assignable, bounds_in, bounds_of_top, bounds_of, Bounded}
use Rattle.il_model.specs.ClassRules.{vars_in}
use Rattle.type_inst.proofs.ListLemmas.{Has, first_of_two, second_of_two, true_of_two, among_of_has}
use Rattle.cil_flow.specs.declared.state.StackType.{StackType}
use Rattle.cil_flow.specs.declared.state.StackType.TheVariants as stack
use Rattle.cil_verify.specs.Places.{view_of, scope_of, stack_in_top}
use Rattle.cil_verify.specs.Fits.{is_int32, is_int64, is_null, is_object, stands_as, refers_to, fits}
use Rattle.cil_verify.specs.Joins.{is_native, is_of_kind, is_box_of, same_type, widens_to, is_assignable_type, class_type, is_class_def, common_base, wider, join_classes, join_references, joined}
use Rattle.cil_meaning.specs.Values as kind
use Rattle.cil_meaning.specs.Naming.{put_type}
use Rattle.cil_meaning.specs.Types.{passes_as, is_bool_top}
use Rattle.cil_safety.proofs.Sorts.{Number32, Number64, Ref, BoxOf, Nil, Words, value_sort, boxed_scalar, sort_of}
use Rattle.cil_safety.proofs.Fit.{may_be_exact_top, has_objects_in, IsExact, Wide, refs, boxes, nil_ref, nil_box, WideSort}
use Rattle.cil_safety.proofs.Types.{wide_self, wide_is, reference_sort, int32_sort, int64_sort}
use Rattle.cil_safety.proofs.Pieces.{IntoType, as_is, low}
use Rattle.cil_safety.proofs.CallPieces.{FitsTypes}
use Rattle.cil_safety.proofs.Straight.{int32_is, int64_is}
use Rattle.cil_safety.proofs.MemberForms.{pointer_is}
use Rattle.cil_safety.proofs.Edges.{WidensWell}
use Rattle.cil_safety.proofs.Uppers.{PlainClasses, Met, base_class, base_may_be, Based, itself, upward, to_base, to_object, to_interface, based_of, met_of, assignable_of}
use Rattle.cil_safety.proofs.Passing.{base_reference, above_base, passes_on, passes_as_of, reference_class, object_reference, reference_object}

module _ (p : Program) (classes : PlainClasses p) where
  -- ---- exact types

  -- objects may be of a value type, or of a reference type
  pub exact_value : (e : TExpr) → IsExact p e → is_reference p e ≡ false → is_value p e ≡ true
  exact_value e x no' = by_top (top_of e) refl x.objects no'
    where
      by_kind : (k : ClassKind) → is_reference_kind k ≡ false → is_struct_kind k ≡ true
      by_kind class_kind.Plain f = absurd (cc f)
      by_kind class_kind.Abstract f = absurd (cc f)
      by_kind class_kind.Interface f = absurd (cc f)
      by_kind class_kind.Struct f = refl
      by_kind class_kind.Delegate f = absurd (cc f)

      by_class : (o : Option ClassDef) → has_objects_in p o ≡ true → is_reference_class o ≡ false → is_struct_class o ≡ true
      by_class None f g = absurd (cc f)
      by_class (Some c) f g = by_kind c.kind g

      by_top : (top : TNode TExpr) → top_of e ≡ top → may_be_exact_top p e top ≡ true → is_reference_top p e top ≡ false → is_value_top p e top ≡ true
      by_top (Node head.Int32 parts) is f g = refl
      by_top (Node head.Int64 parts) is f g = refl
      by_top (Node head.Bool parts) is f g = refl
      by_top (Node head.Vector parts) is f g = absurd (cc g)
      by_top (Node (head.Class number) parts) is f g = by_class (class_of p e) (first_of_two (has_objects_in p (class_of p e)) (not (number == 1)) f) g
      by_top (ClassVar k) is f g = absurd (cc f)
      by_top (MethodVar k) is f g = absurd (cc f)

  -- a base of a reference type is one
  above_reference : {t u : TExpr} → is_reference p t ≡ true → Based p t u → is_reference p u ≡ true
  above_reference r itself = r
  above_reference {t} {u} r (upward {b = b} is h) =
      let c = base_class p classes u (above_base p classes (base_may_be p classes t b is) h) in
      reference_class p u c.0 c.1 ∙ base_reference p c.0.kind c.2

  -- ---- references

  pub assigned_refs : (u t : TExpr) → is_assignable p u t ≡ true → Wide p (Ref u) (Ref t)
  assigned_refs u t e = refs (λ x exact f. passes_on p classes x u t f e) (λ f. passes_on p classes (plain 1) u t f e)

  pub no_bounds : (scope : Bounded) → scope.of_class ≡ [] → scope.of_method ≡ [] → (t : TExpr) → bounds_of scope t ≡ []
  no_bounds scope a b t = by_top (top_of t)
    where
      by_top : (top : TNode TExpr) → bounds_of_top scope top ≡ []
      by_top (Node h parts) = refl
      by_top (ClassVar k) = ap (λ (vs : List VarDef). bounds_in (slice_get vs k)) a
      by_top (MethodVar k) = ap (λ (vs : List VarDef). bounds_in (slice_get vs k)) b

  module _ (d : MethodDef) (m : MethodTree) (put : (t : TExpr) → put_type m t ≡ t) (class_vars : vars_in (slice_get p.classes d.owner) ≡ []) (method_vars : d.vars ≡ []) where
    -- a box passes as `object` or as an interface
    box_assigns : (u t : TExpr) → is_box_assignable p (scope_of p d) u t ≡ true → (t ≡ plain 0) ⊎ Met p u t
    box_assigns u t e =
        elim (true_of_two (is_object_type t) (is_among (interfaces_of p u) t || is_among (bounds_of (scope_of p d) u) t) e) [
          | inl object ↦ inl ((is_same-Decides t (plain 0)).0 object)
          | inr rest ↦ elim (true_of_two (is_among (interfaces_of p u) t) (is_among (bounds_of (scope_of p d) u) t) rest) [
            | inl met ↦ inr (met_of p u t met)
            | inr bound ↦ (let none : is_among (bounds_of (scope_of p d) u) t ≡ false = ap (λ bs. is_among bs t) (no_bounds (scope_of p d) class_vars method_vars u) in absurd (cc (none, bound)))
          ]
        ]

    boxed_wide : (u t : TExpr) → is_box_assignable p (scope_of p d) u t ≡ true → Wide p (boxed_scalar p u) (Ref t)
    boxed_wide u t e = by_test (is_reference p u) refl
      where
        assigns : is_reference p u ≡ true → is_assignable p u t ≡ true
        assigns r = assignable_of p classes (elim (box_assigns u t e) [ inl o ↦ to_object r o | inr met ↦ to_interface met ])

        passes : IsExact p u → is_reference p u ≡ false → passes_as p u t ≡ true
        passes x no' = passes_as_of p classes u t (elim (box_assigns u t e) [ inl o ↦ inr (exact_value u x no', o) | inr met ↦ inl (to_interface met) ])

        by_test : (b : Bool) → is_reference p u ≡ b → Wide p (if b then Ref u else BoxOf u) (Ref t)
        by_test true is = assigned_refs u t (assigns is)
        by_test false is = boxes (λ x. passes x is)

    kind_sort : (u : TExpr) → is_reference p u ≡ true → sort_of p m (stack.Kind u) ≡ Words kind.Reference (Ref u ∷ [])
    kind_sort u r = ap (value_sort p) (put u) ∙ reference_sort p u r

    boxed_sort : (u : TExpr) → sort_of p m (stack.Boxed u) ≡ Words kind.Reference (boxed_scalar p u ∷ [])
    boxed_sort u = ap (λ z. Words kind.Reference (boxed_scalar p z ∷ [])) (put u)

    refers_wide : (t : TExpr) (a : StackType) → refers_to (view_of p d) t a ≡ true → WideSort p (sort_of p m a) (Words kind.Reference (Ref t ∷ []))
    refers_wide t stack.Int32 e = absurd (cc e)
    refers_wide t stack.Int64 e = absurd (cc e)
    refers_wide t stack.Native e = absurd (cc e)
    refers_wide t stack.Null e = (refl, (nil_ref, tt))
    refers_wide t (stack.Kind u) e =
        subst (λ z. WideSort p z (Words kind.Reference (Ref t ∷ []))) (sym (kind_sort u (first_of_two (is_reference p u) (is_assignable p u t) e)))
        (refl, (assigned_refs u t (second_of_two (is_reference p u) (is_assignable p u t) e), tt))
    refers_wide t (stack.Boxed u) e = subst (λ z. WideSort p z (Words kind.Reference (Ref t ∷ []))) (sym (boxed_sort u)) (refl, (boxed_wide u t e, tt))
    refers_wide t (stack.Pointer u) e = absurd (cc e)

    -- ---- operands

    stands_into : (t : TExpr) (a : StackType) → stands_as t a ≡ true → IntoType p (sort_of p m a) t
    stands_into t stack.Int32 e = by_top (top_of t) refl e
      where
        by_top : (top : TNode TExpr) → top_of t ≡ top → is_int32 (stack_in_top t top) ≡ true → IntoType p (Words kind.Int32 (Number32 ∷ [])) t
        by_top (Node head.Int32 parts) is e' = as_is (wide_is p (Words kind.Int32 (Number32 ∷ [])) (value_sort p t) (sym (int32_sort p t parts is)))
        by_top (Node head.Int64 parts) is e' = absurd (cc e')
        by_top (Node head.Bool parts) is e' = low (ap is_bool_top is) refl
        by_top (Node head.Vector parts) is e' = absurd (cc e')
        by_top (Node (head.Class number) parts) is e' = absurd (cc e')
        by_top (ClassVar k) is e' = absurd (cc e')
        by_top (MethodVar k) is e' = absurd (cc e')
    stands_into t stack.Int64 e = by_top (top_of t) refl e
      where
        by_top : (top : TNode TExpr) → top_of t ≡ top → is_int64 (stack_in_top t top) ≡ true → IntoType p (Words kind.Int64 (Number64 ∷ [])) t
        by_top (Node head.Int32 parts) is e' = absurd (cc e')
        by_top (Node head.Int64 parts) is e' = as_is (wide_is p (Words kind.Int64 (Number64 ∷ [])) (value_sort p t) (sym (int64_sort p t parts is)))
        by_top (Node head.Bool parts) is e' = absurd (cc e')
        by_top (Node head.Vector parts) is e' = absurd (cc e')
        by_top (Node (head.Class number) parts) is e' = absurd (cc e')
        by_top (ClassVar k) is e' = absurd (cc e')
        by_top (MethodVar k) is e' = absurd (cc e')
    stands_into t stack.Native e = absurd (cc e)
    stands_into t stack.Null e = absurd (cc e)
    stands_into t (stack.Kind u) e =
        let same : u ≡ t = (is_same-Decides u t).0 e in
        as_is (wide_is p (value_sort p (put_type m u)) (value_sort p t) (ap (value_sort p) (put u ∙ same)))
    stands_into t (stack.Boxed u) e = absurd (cc e)
    stands_into t (stack.Pointer u) e = absurd (cc e)

    fits_into : (t : TExpr) (a : StackType) → fits (view_of p d) t a ≡ true → IntoType p (sort_of p m a) t
    fits_into t a e = by_test (is_reference p t) refl e
      where
        by_test : (b : Bool) → is_reference p t ≡ b → (if b then refers_to (view_of p d) t a else stands_as t a) ≡ true → IntoType p (sort_of p m a) t
        by_test true is e' = as_is (subst (λ z. WideSort p (sort_of p m a) z) (sym (reference_sort p t is)) (refers_wide t a e'))
        by_test false is e' = stands_into t a e'

    pub fits_types : FitsTypes p d m
    fits_types = record { into = λ t a e. subst (λ z. IntoType p (sort_of p m a) z) (sym (put t)) (fits_into t a e) }

    -- ---- equal stack types

    native_is : (b : StackType) → is_native b ≡ true → stack.Native ≡ b
    native_is stack.Int32 e = absurd (cc e)
    native_is stack.Int64 e = absurd (cc e)
    native_is stack.Native e = refl
    native_is stack.Null e = absurd (cc e)
    native_is (stack.Kind t) e = absurd (cc e)
    native_is (stack.Boxed t) e = absurd (cc e)
    native_is (stack.Pointer t) e = absurd (cc e)

    null_is : (b : StackType) → is_null b ≡ true → stack.Null ≡ b
    null_is stack.Int32 e = absurd (cc e)
    null_is stack.Int64 e = absurd (cc e)
    null_is stack.Native e = absurd (cc e)
    null_is stack.Null e = refl
    null_is (stack.Kind t) e = absurd (cc e)
    null_is (stack.Boxed t) e = absurd (cc e)
    null_is (stack.Pointer t) e = absurd (cc e)

    kind_is : (t : TExpr) (b : StackType) → is_of_kind t b ≡ true → stack.Kind t ≡ b
    kind_is t stack.Int32 e = absurd (cc e)
    kind_is t stack.Int64 e = absurd (cc e)
    kind_is t stack.Native e = absurd (cc e)
    kind_is t stack.Null e = absurd (cc e)
    kind_is t (stack.Kind u) e = ap stack.Kind (sym ((is_same-Decides u t).0 e))
    kind_is t (stack.Boxed u) e = absurd (cc e)
    kind_is t (stack.Pointer u) e = absurd (cc e)

    box_is : (t : TExpr) (b : StackType) → is_box_of t b ≡ true → stack.Boxed t ≡ b
    box_is t stack.Int32 e = absurd (cc e)
    box_is t stack.Int64 e = absurd (cc e)
    box_is t stack.Native e = absurd (cc e)
    box_is t stack.Null e = absurd (cc e)
    box_is t (stack.Kind u) e = absurd (cc e)
    box_is t (stack.Boxed u) e = ap stack.Boxed (sym ((is_same-Decides u t).0 e))
    box_is t (stack.Pointer u) e = absurd (cc e)

    same_is : (a b : StackType) → same_type a b ≡ true → a ≡ b
    same_is stack.Int32 b e = sym (int32_is b e)
    same_is stack.Int64 b e = sym (int64_is b e)
    same_is stack.Native b e = native_is b e
    same_is stack.Null b e = null_is b e
    same_is (stack.Kind t) b e = kind_is t b e
    same_is (stack.Boxed t) b e = box_is t b e
    same_is (stack.Pointer t) b e = sym (pointer_is t b e)

    -- ---- assignable stack types

    abbrev WideStack : StackType → StackType → Type 0
    WideStack a b = WideSort p (sort_of p m a) (sort_of p m b)

    nil_boxed : (t : TExpr) → Wide p Nil (boxed_scalar p t)
    nil_boxed t = by_test (is_reference p t)
      where
        by_test : (b : Bool) → Wide p Nil (if b then Ref t else BoxOf t)
        by_test true = nil_ref
        by_test false = nil_box

    same_wide : (a b : StackType) → a ≡ b → WideStack a b
    same_wide a b e = subst (λ z. WideStack a z) e (wide_self p (sort_of p m a))

    widened : (a b : StackType) → widens_to (view_of p d) a b ≡ true → WideStack a b
    widened a stack.Int32 e = absurd (cc e)
    widened a stack.Int64 e = absurd (cc e)
    widened a stack.Native e = absurd (cc e)
    widened a stack.Null e = absurd (cc e)
    widened a (stack.Kind t) e =
        subst (λ z. WideSort p (sort_of p m a) z) (sym (kind_sort t (first_of_two (is_reference p t) (refers_to (view_of p d) t a) e)))
        (refers_wide t a (second_of_two (is_reference p t) (refers_to (view_of p d) t a) e))
    widened a (stack.Boxed t) e = subst (λ z. WideStack z (stack.Boxed t)) (null_is a e) (refl, (nil_boxed (put_type m t), tt))
    widened a (stack.Pointer t) e = absurd (cc e)

    assigned : (a b : StackType) → is_assignable_type (view_of p d) a b ≡ true → WideStack a b
    assigned a b e = elim (true_of_two (same_type a b) (widens_to (view_of p d) a b) e) [ inl same ↦ same_wide a b (same_is a b same) | inr w ↦ widened a b w ]

    -- ---- joins

    object_stack : sort_of p m (stack.Kind (plain 0)) ≡ Words kind.Reference (Ref (plain 0) ∷ [])
    object_stack = kind_sort (plain 0) (object_reference p classes)

    object_wide : (a : StackType) → is_object p a ≡ true → WideStack a (stack.Kind (plain 0))
    object_wide a e = subst (λ z. WideSort p (sort_of p m a) z) (sym object_stack) (by_type a e)
      where
        by_type : (a : StackType) → is_object p a ≡ true → WideSort p (sort_of p m a) (Words kind.Reference (Ref (plain 0) ∷ []))
        by_type stack.Int32 e' = absurd (cc e')
        by_type stack.Int64 e' = absurd (cc e')
        by_type stack.Native e' = absurd (cc e')
        by_type stack.Null e' = (refl, (nil_ref, tt))
        by_type (stack.Kind t) e' = subst (λ z. WideSort p z (Words kind.Reference (Ref (plain 0) ∷ []))) (sym (kind_sort t e')) (refl, (assigned_refs t (plain 0) (reference_object p classes t e'), tt))
        by_type (stack.Boxed t) e' =
            subst (λ z. WideSort p z (Words kind.Reference (Ref (plain 0) ∷ []))) (sym (boxed_sort t))
            (refl, (boxed_wide t (plain 0) (ap (λ b. b || (is_among (interfaces_of p t) (plain 0) || is_among (bounds_of (scope_of p d) t) (plain 0))) ((is_same-Decides (plain 0) (plain 0)).1 refl)), tt))
        by_type (stack.Pointer t) e' = absurd (cc e')

    abbrev Joins : StackType → StackType → StackType → Type 0
    Joins a b c = WideStack a c × WideStack b c

    wider_joins : (a b : StackType) → is_object p a ≡ true → is_object p b ≡ true → Joins a b (wider (view_of p d) a b)
    wider_joins a b ea eb = by_first (is_assignable_type (view_of p d) a b) refl
      where
        by_second : (x : Bool) → is_assignable_type (view_of p d) b a ≡ x → Joins a b (if x then a else stack.Kind (plain 0))
        by_second true is = (wide_self p (sort_of p m a), assigned b a is)
        by_second false is = (object_wide a ea, object_wide b eb)

        by_first : (x : Bool) → is_assignable_type (view_of p d) a b ≡ x → Joins a b (if x then b else (if is_assignable_type (view_of p d) b a then a else stack.Kind (plain 0)))
        by_first true is = (assigned a b is, wide_self p (sort_of p m b))
        by_first false is = by_second (is_assignable_type (view_of p d) b a) refl

    found_is : (test : TExpr → Bool) (xs : List TExpr) (x : TExpr) → find test xs ≡ Some x → (test x ≡ true) × Has xs x
    found_is test [] x e = absurd (cc e)
    found_is test (y ∷ ys) x e = by_test (λ e'. found_is test ys x e') (test y) refl e
      where
        by_test : (find test ys ≡ Some x → (test x ≡ true) × Has ys x) → (b : Bool) → test y ≡ b → (if b then Some y else find test ys) ≡ Some x → (test x ≡ true) × Has (y ∷ ys) x
        by_test go true is e' = let q : y ≡ x = cc e' in (subst (λ z. test z ≡ true) q is, inl q)
        by_test go false is e' = let r = go e' in (r.0, inr r.1)

    -- a type that both are assignable to
    record AboveBoth (t u x : TExpr) : Type 0 where
      first : is_assignable p t x ≡ true
      second : is_assignable p u x ≡ true
      reference : is_reference p x ≡ true

    common_above : (t u : TExpr) → is_reference p t ≡ true → is_reference p u ≡ true → AboveBoth t u (common_base p t u)
    common_above t u rt ru = by_found (find (is_among (bases_of p t)) (bases_of p u)) refl
      where
        by_found : (o : Option TExpr) → find (is_among (bases_of p t)) (bases_of p u) ≡ o → AboveBoth t u (unwrap_or o (plain 0))
        by_found None is = record { first = reference_object p classes t rt; second = reference_object p classes u ru; reference = object_reference p classes }
        by_found (Some x) is =
            let f = found_is (is_among (bases_of p t)) (bases_of p u) x is in
            let one : Based p t x = based_of p t x f.0 in
            let two : Based p u x = based_of p u x (among_of_has (bases_of p u) x f.1) in
            record { first = assignable_of p classes (to_base one); second = assignable_of p classes (to_base two); reference = above_reference rt one }

    class_reference : (o : Option ClassDef) → is_class_def o ≡ true → is_reference_class o ≡ true
    class_reference None e = absurd (cc e)
    class_reference (Some c) e = first_of_two (is_reference_kind c.kind) (not (is_interface_kind c.kind)) e

    class_type_is : (a : StackType) (t : TExpr) → class_type p a ≡ Some t → (a ≡ stack.Kind t) × (is_reference p t ≡ true)
    class_type_is stack.Int32 t e = absurd (cc e)
    class_type_is stack.Int64 t e = absurd (cc e)
    class_type_is stack.Native t e = absurd (cc e)
    class_type_is stack.Null t e = absurd (cc e)
    class_type_is (stack.Kind u) t e = by_test (is_class_def (class_of p u)) refl e
      where
        by_class : (o : Option ClassDef) → class_of p u ≡ o → is_class_def o ≡ true → is_reference p u ≡ true
        by_class None is f = absurd (cc f)
        by_class (Some c) is f = reference_class p u c is ∙ class_reference (Some c) f

        by_test : (b : Bool) → is_class_def (class_of p u) ≡ b → (if b then Some u else None) ≡ Some t → (stack.Kind u ≡ stack.Kind t) × (is_reference p t ≡ true)
        by_test true is e' = let q : u ≡ t = cc e' in (ap stack.Kind q, subst (λ z. is_reference p z ≡ true) q (by_class (class_of p u) refl is))
        by_test false is e' = absurd (cc e')
    class_type_is (stack.Boxed u) t e = absurd (cc e)
    class_type_is (stack.Pointer u) t e = absurd (cc e)

    kind_wide : (t x : TExpr) → is_reference p t ≡ true → is_reference p x ≡ true → is_assignable p t x ≡ true → WideStack (stack.Kind t) (stack.Kind x)
    kind_wide t x rt rx e =
        subst (λ z. WideSort p z (sort_of p m (stack.Kind x))) (sym (kind_sort t rt))
        (subst (λ z. WideSort p (Words kind.Reference (Ref t ∷ [])) z) (sym (kind_sort x rx)) (refl, (assigned_refs t x e, tt)))

    references_join : (a b : StackType) → is_object p a ≡ true → is_object p b ≡ true → Joins a b (join_references (view_of p d) a b)
    references_join a b ea eb = by_types (class_type p a) (class_type p b) refl refl
      where
        by_types : (s t : Option TExpr) → class_type p a ≡ s → class_type p b ≡ t → Joins a b (join_classes (view_of p d) a b s t)
        by_types None t sa tb = wider_joins a b ea eb
        by_types (Some s) None sa tb = wider_joins a b ea eb
        by_types (Some s) (Some t) sa tb =
            let x = class_type_is a s sa in
            let y = class_type_is b t tb in
            let c = common_above s t x.1 y.1 in (
              subst (λ z. WideStack z (stack.Kind (common_base p s t))) (sym x.0) (kind_wide s (common_base p s t) x.1 c.reference c.first),
              subst (λ z. WideStack z (stack.Kind (common_base p s t))) (sym y.0) (kind_wide t (common_base p s t) y.1 c.reference c.second),
            )

    joins : (a b c : StackType) → joined (view_of p d) a b ≡ Some c → Joins a b c
    joins a b c e = by_same (same_type a b) refl e
      where
        by_objects : (x : Bool) → (is_object p a && is_object p b) ≡ x → (if x then Some (join_references (view_of p d) a b) else None) ≡ Some c → Joins a b c
        by_objects true is e' =
            let q : join_references (view_of p d) a b ≡ c = cc e' in
            subst (λ z. Joins a b z) q (references_join a b (first_of_two (is_object p a) (is_object p b) is) (second_of_two (is_object p a) (is_object p b) is))
        by_objects false is e' = absurd (cc e')

        by_same : (x : Bool) → same_type a b ≡ x → (if x then Some a else (if is_object p a && is_object p b then Some (join_references (view_of p d) a b) else None)) ≡ Some c → Joins a b c
        by_same true is e' =
            let q : a ≡ c = cc e' in
            let r : a ≡ b = same_is a b is in
            (same_wide a c q, same_wide b c (sym r ∙ q))
        by_same false is e' = by_objects (is_object p a && is_object p b) refl e'

    pub widens_well : WidensWell p d m
    widens_well = record { assigned = assigned; joins = joins }

-- What passes as a type that is assignable to another passes as that; and what alone passes as some types.
use Rattle.std.proofs.Common.{◌≡◌, ◌⊎◌, inl, inr, ℕ, Bool, true, false, not, ◌&&◌, ◌||◌, [], ◌++◌, slice_get, Option, Some, None, option_and_then, refl, sym, ap, ◌∙◌, subst}
use Rattle.type_tree.specs.declared.tree.TExpr.{TExpr}
use Rattle.type_tree.specs.declared.tree.TNode.{TNode}
use Rattle.type_tree.specs.declared.tree.TNode.TheVariants.{Node, ClassVar, MethodVar}
use Rattle.type_tree.specs.declared.tree.Head.TheVariants as head
use Rattle.type_tree.specs.Tree.{top_of}
use Rattle.type_tree.proofs.TreeLemmas.{top_of-tree_of}
use Rattle.type_tree.proofs.SameLemmas.{is_same-Decides}
use Rattle.il_model.specs.declared.class.ClassKind.{ClassKind}
use Rattle.il_model.specs.declared.class.ClassKind.TheVariants as class_kind
use Rattle.il_model.specs.declared.class.ClassDef.{ClassDef}
use Rattle.il_model.specs.declared.program.Program.{Program}
use Rattle.il_model.specs.Kinds.{is_reference_kind, is_struct_kind, is_reference_class, is_struct_class, is_reference_top, is_value_top, is_reference, is_value}
use Rattle.il_model.specs.Find.{class_in_top, class_number_of, class_of}
use Rattle.il_model.specs.Library.{plain, library_classes}
use Rattle.il_model.specs.Slots.{is_interface_kind, is_interface}
use Rattle.il_model.specs.Bases.{base_of}
use Rattle.il_model.specs.Interfaces.{own_interfaces_of}
use Rattle.il_model.specs.Assignable.{is_object, element_in_top, element_of, is_assignable}
use Rattle.il_model.specs.ClassRules.{is_base_kind, may_be_base, is_number, is_base_class}
use Rattle.type_inst.proofs.ListLemmas.{Has, first_of_two, second_of_two, true_of_two, or_true}
use Rattle.cil_meaning.specs.Types.{passes_as}
use Rattle.cil_safety.proofs.Uppers.{is_baseless, PlainClasses, class_is, Based, itself, upward, Met, by_base, own, by_own, Assigns, to_base, to_object, to_interface, vectors, based_on, met_by_base, met_on, assigns_of, base_has, own_has, base_class, interface_class, base_may_be, own_interface, assignable_of}

module _ (p : Program) where
  -- ---- types that name a class of the program

  class_kinds : (t : TExpr) (c : ClassDef) → class_of p t ≡ Some c → (is_reference p t ≡ is_reference_kind c.kind) × (is_value p t ≡ is_struct_kind c.kind) × (element_of t ≡ None)
  class_kinds t c e = by_top (top_of t) refl e
    where
      by_top : (top : TNode TExpr) → top_of t ≡ top → option_and_then (λ k. slice_get p.classes k) (class_in_top top) ≡ Some c → (is_reference p t ≡ is_reference_kind c.kind) × (is_value p t ≡ is_struct_kind c.kind) × (element_of t ≡ None)
      by_top (Node head.Int32 parts) is e' = absurd (cc e')
      by_top (Node head.Int64 parts) is e' = absurd (cc e')
      by_top (Node head.Bool parts) is e' = absurd (cc e')
      by_top (Node head.Vector parts) is e' = absurd (cc e')
      by_top (Node (head.Class number) parts) is e' = (ap (is_reference_top p t) is ∙ ap is_reference_class e, ap (is_value_top p t) is ∙ ap is_struct_class e, ap element_in_top is)
      by_top (ClassVar n) is e' = absurd (cc e')
      by_top (MethodVar n) is e' = absurd (cc e')

  pub reference_class : (t : TExpr) (c : ClassDef) → class_of p t ≡ Some c → is_reference p t ≡ is_reference_kind c.kind
  reference_class t c e = (class_kinds t c e).0

  pub value_class : (t : TExpr) (c : ClassDef) → class_of p t ≡ Some c → is_value p t ≡ is_struct_kind c.kind
  value_class t c e = (class_kinds t c e).1

  pub element_class : (t : TExpr) (c : ClassDef) → class_of p t ≡ Some c → element_of t ≡ None
  element_class t c e = (class_kinds t c e).2

  -- a vector names no class, and is a reference type
  vector_kinds : (t a : TExpr) → element_of t ≡ Some a → (class_of p t ≡ None) × (is_reference p t ≡ true)
  vector_kinds t a e = by_top (top_of t) refl e
    where
      by_top : (top : TNode TExpr) → top_of t ≡ top → element_in_top top ≡ Some a → (class_of p t ≡ None) × (is_reference p t ≡ true)
      by_top (Node head.Int32 parts) is e' = absurd (cc e')
      by_top (Node head.Int64 parts) is e' = absurd (cc e')
      by_top (Node head.Bool parts) is e' = absurd (cc e')
      by_top (Node head.Vector parts) is e' = (ap (λ top. option_and_then (λ k. slice_get p.classes k) (class_in_top top)) is, ap (is_reference_top p t) is)
      by_top (Node (head.Class number) parts) is e' = absurd (cc e')
      by_top (ClassVar n) is e' = absurd (cc e')
      by_top (MethodVar n) is e' = absurd (cc e')

  pub vector_class : (t a : TExpr) → element_of t ≡ Some a → class_of p t ≡ None
  vector_class t a e = (vector_kinds t a e).0

  pub vector_reference : (t a : TExpr) → element_of t ≡ Some a → is_reference p t ≡ true
  vector_reference t a e = (vector_kinds t a e).1

  pub struct_or_not : (k : ClassKind) → (is_struct_kind k ≡ true) ⊎ (is_reference_kind k ≡ true)
  struct_or_not class_kind.Plain = inr refl
  struct_or_not class_kind.Abstract = inr refl
  struct_or_not class_kind.Interface = inr refl
  struct_or_not class_kind.Struct = inl refl
  struct_or_not class_kind.Delegate = inr refl

  not_both_kinds : (k : ClassKind) → is_reference_kind k ≡ true → is_struct_kind k ≡ false
  not_both_kinds class_kind.Plain e = refl
  not_both_kinds class_kind.Abstract e = refl
  not_both_kinds class_kind.Interface e = refl
  not_both_kinds class_kind.Struct e = absurd (cc e)
  not_both_kinds class_kind.Delegate e = refl

  pub interface_reference : (k : ClassKind) → is_interface_kind k ≡ true → is_reference_kind k ≡ true
  interface_reference class_kind.Plain e = refl
  interface_reference class_kind.Abstract e = refl
  interface_reference class_kind.Interface e = refl
  interface_reference class_kind.Struct e = absurd (cc e)
  interface_reference class_kind.Delegate e = refl

  pub base_reference : (k : ClassKind) → is_base_kind k ≡ true → is_reference_kind k ≡ true
  base_reference class_kind.Plain e = refl
  base_reference class_kind.Abstract e = refl
  base_reference class_kind.Interface e = refl
  base_reference class_kind.Struct e = absurd (cc e)
  base_reference class_kind.Delegate e = refl

  baseless_interface : (k : ClassKind) → is_interface_kind k ≡ true → is_baseless k ≡ true
  baseless_interface k e = or_true (is_struct_kind k) (is_interface_kind k) e

  -- a reference type is no value type
  pub reference_no_value : (t : TExpr) → is_reference p t ≡ true → is_value p t ≡ false
  reference_no_value t e = by_top (top_of t) refl e
    where
      by_class : (o : Option ClassDef) → is_reference_class o ≡ true → is_struct_class o ≡ false
      by_class None e' = refl
      by_class (Some c) e' = not_both_kinds c.kind e'

      by_top : (top : TNode TExpr) → top_of t ≡ top → is_reference_top p t top ≡ true → is_value p t ≡ false
      by_top (Node head.Int32 parts) is e' = absurd (cc e')
      by_top (Node head.Int64 parts) is e' = absurd (cc e')
      by_top (Node head.Bool parts) is e' = absurd (cc e')
      by_top (Node head.Vector parts) is e' = ap (is_value_top p t) is
      by_top (Node (head.Class number) parts) is e' = ap (is_value_top p t) is ∙ by_class (class_of p t) e'
      by_top (ClassVar n) is e' = absurd (cc e')
      by_top (MethodVar n) is e' = absurd (cc e')

  pub class_in_library : (number : ℕ) → class_of p (plain number) ≡ slice_get p.classes number
  class_in_library number = ap (λ top. option_and_then (λ k. slice_get p.classes k) (class_in_top top)) (top_of-tree_of (Node (head.Class number) []))

  pub plain_number : (number : ℕ) → class_number_of (plain number) ≡ Some number
  plain_number number = ap class_in_top (top_of-tree_of (Node (head.Class number) []))

  module _ (classes : PlainClasses p) where
    pub in_library : (number : ℕ) (c : ClassDef) → slice_get (library_classes ++ classes.others) number ≡ Some c → class_of p (plain number) ≡ Some c
    in_library number c e = class_in_library number ∙ ap (λ cs. slice_get cs number) classes.library ∙ e

    -- ---- what is above a type of a class

    -- a type with a base is of a class that is a reference type
    has_base_reference : (t b : TExpr) → base_of p t ≡ Some b → (c : ClassDef) × (class_of p t ≡ Some c) × (is_baseless c.kind ≡ false)
    has_base_reference t b e =
        let h = base_has p classes t b e in
        (h.0, class_is p t h.0 h.1, by_test (is_baseless h.0.kind) refl (λ yes. let none : h.0.base ≡ None = classes.baseless h.1.number h.0 h.1.is yes in cc (none, h.2)))
      where
        by_test : (b : Bool) → {x : Bool} → x ≡ b → (x ≡ true → ⊥) → x ≡ false
        by_test true is no' = absurd (no' is)
        by_test false is no' = is

    pub based_reference : (t b : TExpr) → base_of p t ≡ Some b → is_reference p t ≡ true
    based_reference t b e = let h = has_base_reference t b e in reference_class t h.0 h.1 ∙ by_kind h.0.kind h.2
      where
        by_kind : (k : ClassKind) → is_baseless k ≡ false → is_reference_kind k ≡ true
        by_kind class_kind.Plain e' = refl
        by_kind class_kind.Abstract e' = refl
        by_kind class_kind.Interface e' = refl
        by_kind class_kind.Struct e' = absurd (cc e')
        by_kind class_kind.Delegate e' = refl

    -- what is above a base may be a base
    pub above_base : {b u : TExpr} → may_be_base p b ≡ true → Based p b u → may_be_base p u ≡ true
    above_base m itself = m
    above_base {b} m (upward {b = d} is h) = above_base (base_may_be p classes b d is) h

    pub met_interface : {t i : TExpr} → Met p t i → is_interface p i ≡ true
    met_interface (by_base is m) = met_interface m
    met_interface {t} {i} (own h) = own_interface p classes t i h
    met_interface (by_own h m) = met_interface m

    -- a type with an interface is of a class
    pub met_class : {t i : TExpr} → Met p t i → (c : ClassDef) × (class_of p t ≡ Some c)
    met_class {t} (by_base {b = b} is m) = let h = base_has p classes t b is in (h.0, class_is p t h.0 h.1)
    met_class {t} {i} (own h) = let c = own_has p classes t i h in (c.0, class_is p t c.0 c.1)
    met_class {t} (by_own {j = j} h m) = let c = own_has p classes t j h in (c.0, class_is p t c.0 c.1)

    -- an interface has no base
    interface_top : (i b : TExpr) → is_interface p i ≡ true → base_of p i ≡ Some b → ⊥
    interface_top i b e is =
        let c = interface_class p classes i e in
        let h = has_base_reference i b is in
        let same : c.0 ≡ h.0 = cc (c.1, h.1) in
        let yes : is_baseless c.0.kind ≡ true = baseless_interface c.0.kind c.2 in
        let no' : is_baseless c.0.kind ≡ false = subst (λ z. is_baseless z.kind ≡ false) (sym same) h.2 in
        cc (yes, no')

    -- ---- `object`

    pub object_class : (c : ClassDef) × (class_of p (plain 0) ≡ Some c) × (c.base ≡ None) × (c.interfaces ≡ []) × (c.kind ≡ class_kind.Plain)
    object_class = (_, in_library 0 _ refl, refl, refl, refl)

    pub object_reference : is_reference p (plain 0) ≡ true
    object_reference = reference_class (plain 0) object_class.0 object_class.1 ∙ ap is_reference_kind object_class.4

    pub object_no_base : (b : TExpr) → base_of p (plain 0) ≡ Some b → ⊥
    object_no_base b e =
        let h = base_has p classes (plain 0) b e in
        let at : class_of p (plain 0) ≡ Some h.0 = class_is p (plain 0) h.0 h.1 in
        let same : h.0 ≡ object_class.0 = cc (at, object_class.1) in
        let none : h.0.base ≡ None = ap (λ (c : ClassDef). c.base) same ∙ object_class.2 in
        cc (none, h.2)

    object_no_own : (i : TExpr) → Has (own_interfaces_of p (plain 0)) i → ⊥
    object_no_own i g =
        let h = own_has p classes (plain 0) i g in
        let at : class_of p (plain 0) ≡ Some h.0 = class_is p (plain 0) h.0 h.1 in
        let same : h.0 ≡ object_class.0 = cc (at, object_class.1) in
        let none : h.0.interfaces ≡ [] = ap (λ (c : ClassDef). c.interfaces) same ∙ object_class.3 in
        subst (λ xs. Has xs i) none h.2

    pub object_alone : {t u : TExpr} → t ≡ plain 0 → Assigns p t u → u ≡ plain 0
    object_alone e (to_base itself) = e
    object_alone e (to_base (upward {b = b} is h)) = absurd (object_no_base b (subst (λ z. base_of p z ≡ Some b) e is))
    object_alone e (to_object r f) = f
    object_alone e (to_interface (by_base {b = b} is m)) = absurd (object_no_base b (subst (λ z. base_of p z ≡ Some b) e is))
    object_alone e (to_interface (own {i = i} h)) = absurd (object_no_own i (subst (λ z. Has (own_interfaces_of p z) i) e h))
    object_alone e (to_interface (by_own {j = j} h m)) = absurd (object_no_own j (subst (λ z. Has (own_interfaces_of p z) j) e h))
    object_alone {t} e (vectors {a = a} ea eb ra rb h) =
        let none : element_of t ≡ None = element_class t object_class.0 (ap (class_of p) e ∙ object_class.1) in
        absurd (cc (none, ea))

    -- ---- one way up after another

    -- what an object of just this type passes as: what the type is assignable to, and a box passes as `object`
    abbrev pub Passes : TExpr → TExpr → Type 0
    Passes e t = Assigns p e t ⊎ ((is_value p e ≡ true) × (t ≡ plain 0))

    pub passes_of : (e t : TExpr) → passes_as p e t ≡ true → Passes e t
    passes_of e t f =
        elim (true_of_two (is_assignable p e t) (is_value p e && is_object t) f) [
          | inl a ↦ inl (assigns_of p e t a)
          | inr b ↦ inr (first_of_two (is_value p e) (is_object t) b, (is_same-Decides t (plain 0)).0 (second_of_two (is_value p e) (is_object t) b))
        ]

    pub passes_as_of : (e t : TExpr) → Passes e t → passes_as p e t ≡ true
    passes_as_of e t (inl a) = ap (λ b. b || (is_value p e && is_object t)) (assignable_of p classes a)
    passes_as_of e t (inr v) = or_true (is_assignable p e t) (is_value p e && is_object t) (ap (λ b. b && is_object t) v.0 ∙ (is_same-Decides t (plain 0)).1 v.1)

    on_base : (e b u t : TExpr) → base_of p e ≡ Some b → Based p b u → Assigns p u t → Passes e t
    on_base e b u t is h (to_base g) = inl (to_base (upward is (based_on p h g)))
    on_base e b u t is h (to_object r f) = inl (to_object (based_reference e b is) f)
    on_base e b u t is h (to_interface m) = inl (to_interface (by_base is (met_by_base p h m)))
    on_base e b u t is h (vectors {a = a} ea eb ra rb g) =
        let c = base_class p classes u (above_base (base_may_be p classes e b is) h) in
        let none : element_of u ≡ None = element_class u c.0 c.1 in
        absurd (cc (none, ea))

    on_interface : (e u t : TExpr) → Met p e u → Assigns p u t → Passes e t
    on_interface e u t m (to_base itself) = inl (to_interface m)
    on_interface e u t m (to_base (upward {b = b} is h)) = absurd (interface_top u b (met_interface m) is)
    on_interface e u t m (to_object r f) =
        let c = met_class m in
        elim (struct_or_not c.0.kind) [ inl s ↦ inr (value_class e c.0 c.1 ∙ s, f) | inr k ↦ inl (to_object (reference_class e c.0 c.1 ∙ k) f) ]
    on_interface e u t m (to_interface n) = inl (to_interface (met_on p m n))
    on_interface e u t m (vectors {a = a} ea eb ra rb g) =
        let c = interface_class p classes u (met_interface m) in
        let none : element_of u ≡ None = element_class u c.0 c.1 in
        absurd (cc (none, ea))

    on_vectors : (e u t a b : TExpr) → element_of e ≡ Some a → element_of u ≡ Some b → is_reference p a ≡ true → is_reference p b ≡ true → Assigns p a b → ((c : TExpr) → Assigns p b c → Passes a c) → Assigns p u t → Passes e t
    on_vectors e u t a b ea eb ra rb g deeper (to_base itself) = inl (vectors ea eb ra rb g)
    on_vectors e u t a b ea eb ra rb g deeper (to_base (upward {b = d} is h)) =
        let c = base_has p classes u d is in
        let at : class_of p u ≡ Some c.0 = class_is p u c.0 c.1 in
        let none : class_of p u ≡ None = vector_class u b eb in
        absurd (cc (at, none))
    on_vectors e u t a b ea eb ra rb g deeper (to_object r f) = inl (to_object (vector_reference e a ea) f)
    on_vectors e u t a b ea eb ra rb g deeper (to_interface m) =
        let c = met_class m in
        let none : class_of p u ≡ None = vector_class u b eb in
        absurd (cc (c.1, none))
    on_vectors e u t a b ea eb ra rb g deeper (vectors {a = b'} {b = c} eb' ec rb' rc h) =
        let same : b' ≡ b = cc (eb', eb) in
        elim (deeper c (subst (λ z. Assigns p z c) same h)) [
          | inl q ↦ inl (vectors ea ec ra rc q)
          | inr v ↦ (let no' : is_value p a ≡ false = reference_no_value a ra in absurd (cc (v.0, no')))
        ]

    on : {e u : TExpr} → Assigns p e u → (t : TExpr) → Assigns p u t → Passes e t
    on (to_base itself) t g = inl g
    on {e} {u} (to_base (upward {b = b} is h)) t g = on_base e b u t is h g
    on {e} {u} (to_object r f) t g = inl (to_object r (object_alone f g))
    on {e} {u} (to_interface m) t g = on_interface e u t m g
    on {e} {u} (vectors {a = a} {b = b} ea eb ra rb h) t g = on_vectors e u t a b ea eb ra rb h (λ c k. on h c k) g

    -- what passes as a type that is assignable to another passes as that
    pub passes_on : (e u t : TExpr) → passes_as p e u ≡ true → is_assignable p u t ≡ true → passes_as p e t ≡ true
    passes_on e u t f g =
        passes_as_of e t (elim (passes_of e u f) [ inl a ↦ on a t (assigns_of p u t g) | inr v ↦ inr (v.0, object_alone v.1 (assigns_of p u t g)) ])

    pub passes_self : (t : TExpr) → passes_as p t t ≡ true
    passes_self t = passes_as_of t t (inl (to_base itself))

    -- a reference type and a value type pass as `object`
    pub reference_object : (t : TExpr) → is_reference p t ≡ true → is_assignable p t (plain 0) ≡ true
    reference_object t e = assignable_of p classes (to_object e refl)

    -- only a type itself passes as it, where it is no reference type
    pub only_itself : (e t : TExpr) → is_reference p t ≡ false → passes_as p e t ≡ true → e ≡ t
    only_itself e t no' f = elim (passes_of e t f) [ inl a ↦ by_way e t no' a | inr v ↦ (let yes : is_reference p t ≡ true = ap (is_reference p) v.1 ∙ object_reference in absurd (cc (yes, no'))) ]
      where
        by_way : (e t : TExpr) → is_reference p t ≡ false → Assigns p e t → e ≡ t
        by_way e t no' (to_base itself) = refl
        by_way e t no' (to_base (upward {b = b} is h)) =
            let c = base_class p classes t (above_base (base_may_be p classes e b is) h) in
            let yes : is_reference p t ≡ true = reference_class t c.0 c.1 ∙ base_reference c.0.kind c.2 in
            absurd (cc (yes, no'))
        by_way e t no' (to_object r f) = let yes : is_reference p t ≡ true = ap (is_reference p) f ∙ object_reference in absurd (cc (yes, no'))
        by_way e t no' (to_interface m) =
            let c = interface_class p classes t (met_interface m) in
            let yes : is_reference p t ≡ true = reference_class t c.0 c.1 ∙ interface_reference c.0.kind c.2 in
            absurd (cc (yes, no'))
        by_way e t no' (vectors {b = b} ea eb ra rb g) = let yes : is_reference p t ≡ true = vector_reference t b eb in absurd (cc (yes, no'))

    -- ---- what passes as a vector, and as a class

    -- a vector that is assignable to another is it, or has elements that are assignable
    pub passes_vector : (e v b : TExpr) → element_of v ≡ Some b → passes_as p e v ≡ true → (e ≡ v) ⊎ ((a : TExpr) × (element_of e ≡ Some a) × (is_reference p a ≡ true) × (is_reference p b ≡ true) × (is_assignable p a b ≡ true))
    passes_vector e v b eb f = elim (passes_of e v f) [ inl a ↦ by_way e v b eb a | inr o ↦ (let none : element_of v ≡ None = element_class v object_class.0 (ap (class_of p) o.1 ∙ object_class.1) in absurd (cc (none, eb))) ]
      where
        by_way : (e v b : TExpr) → element_of v ≡ Some b → Assigns p e v → (e ≡ v) ⊎ ((a : TExpr) × (element_of e ≡ Some a) × (is_reference p a ≡ true) × (is_reference p b ≡ true) × (is_assignable p a b ≡ true))
        by_way e v b eb (to_base itself) = inl refl
        by_way e v b eb (to_base (upward {b = d} is h)) =
            let c = base_class p classes v (above_base (base_may_be p classes e d is) h) in
            let none : element_of v ≡ None = element_class v c.0 c.1 in
            absurd (cc (none, eb))
        by_way e v b eb (to_object r o) = let none : element_of v ≡ None = element_class v object_class.0 (ap (class_of p) o ∙ object_class.1) in absurd (cc (none, eb))
        by_way e v b eb (to_interface m) =
            let c = interface_class p classes v (met_interface m) in
            let none : element_of v ≡ None = element_class v c.0 c.1 in
            absurd (cc (none, eb))
        by_way e v b eb (vectors {a = a} {b = b'} ea eb' ra rb g) =
            let same : b' ≡ b = cc (eb', eb) in
            inr (a, ea, ra, subst (λ z. is_reference p z ≡ true) same rb, assignable_of p classes (subst (λ z. Assigns p a z) same g))

    -- what passes as a class that is no interface and not `object` has it as a base
    pub passes_class : (e t : TExpr) (c : ClassDef) → class_of p t ≡ Some c → is_interface_kind c.kind ≡ false → is_object t ≡ false → passes_as p e t ≡ true → Based p e t
    passes_class e t c at no' other f = elim (passes_of e t f) [ inl a ↦ by_way e t c at no' other a | inr o ↦ (let yes : is_object t ≡ true = (is_same-Decides t (plain 0)).1 o.1 in absurd (cc (yes, other))) ]
      where
        by_way : (e t : TExpr) (c : ClassDef) → class_of p t ≡ Some c → is_interface_kind c.kind ≡ false → is_object t ≡ false → Assigns p e t → Based p e t
        by_way e t c at no' other (to_base h) = h
        by_way e t c at no' other (to_object r o) = let yes : is_object t ≡ true = (is_same-Decides t (plain 0)).1 o in absurd (cc (yes, other))
        by_way e t c at no' other (to_interface m) =
            let i = interface_class p classes t (met_interface m) in
            let same : i.0 ≡ c = cc (i.1, at) in
            let yes : is_interface_kind c.kind ≡ true = subst (λ (z : ClassDef). is_interface_kind z.kind ≡ true) same i.2 in
            absurd (cc (yes, no'))
        by_way e t c at no' other (vectors {b = b} ea eb ra rb g) = let none : class_of p t ≡ None = vector_class t b eb in absurd (cc (none, at))

    -- ---- strings

    pub string_class : (c : ClassDef) × (class_of p (plain 1) ≡ Some c) × (c.base ≡ Some (plain 0)) × (c.interfaces ≡ []) × (c.kind ≡ class_kind.Plain)
    string_class = (_, in_library 1 _ refl, refl, refl, refl)

    pub string_reference : is_reference p (plain 1) ≡ true
    string_reference = reference_class (plain 1) string_class.0 string_class.1 ∙ ap is_reference_kind string_class.4

    string_base : (b : TExpr) → base_of p (plain 1) ≡ Some b → b ≡ plain 0
    string_base b e =
        let h = base_has p classes (plain 1) b e in
        let at : class_of p (plain 1) ≡ Some h.0 = class_is p (plain 1) h.0 h.1 in
        let same : h.0 ≡ string_class.0 = cc (at, string_class.1) in
        let is : h.0.base ≡ Some (plain 0) = ap (λ (c : ClassDef). c.base) same ∙ string_class.2 in
        cc (is, h.2)

    string_no_own : (i : TExpr) → Has (own_interfaces_of p (plain 1)) i → ⊥
    string_no_own i g =
        let h = own_has p classes (plain 1) i g in
        let at : class_of p (plain 1) ≡ Some h.0 = class_is p (plain 1) h.0 h.1 in
        let same : h.0 ≡ string_class.0 = cc (at, string_class.1) in
        let none : h.0.interfaces ≡ [] = ap (λ (c : ClassDef). c.interfaces) same ∙ string_class.3 in
        subst (λ xs. Has xs i) none h.2

    -- strings pass as `string` and as `object` alone
    pub string_passes : (t : TExpr) → passes_as p (plain 1) t ≡ true → (t ≡ plain 1) ⊎ (t ≡ plain 0)
    string_passes t f = elim (passes_of (plain 1) t f) [ inl a ↦ by_way (plain 1) t refl a | inr o ↦ inr o.1 ]
      where
        by_way : (s t : TExpr) → s ≡ plain 1 → Assigns p s t → (t ≡ plain 1) ⊎ (t ≡ plain 0)
        by_way s t e (to_base itself) = inl e
        by_way s t e (to_base (upward {b = b} is h)) = inr (object_alone (string_base b (subst (λ z. base_of p z ≡ Some b) e is)) (to_base h))
        by_way s t e (to_object r o) = inr o
        by_way s t e (to_interface (by_base {b = b} is m)) = inr (object_alone (string_base b (subst (λ z. base_of p z ≡ Some b) e is)) (to_interface m))
        by_way s t e (to_interface (own {i = i} h)) = absurd (string_no_own i (subst (λ z. Has (own_interfaces_of p z) i) e h))
        by_way s t e (to_interface (by_own {j = j} h m)) = absurd (string_no_own j (subst (λ z. Has (own_interfaces_of p z) j) e h))
        by_way s t e (vectors {a = a} ea eb ra rb g) = let none : element_of s ≡ None = element_class s string_class.0 (ap (class_of p) e ∙ string_class.1) in absurd (cc (none, ea))

    pub no_string : (t : TExpr) → (t ≡ plain 1 → ⊥) → (t ≡ plain 0 → ⊥) → passes_as p (plain 1) t ≡ false
    no_string t a b = by_test (passes_as p (plain 1) t) refl
      where
        by_test : (x : Bool) → passes_as p (plain 1) t ≡ x → passes_as p (plain 1) t ≡ false
        by_test true is = absurd (elim (string_passes t is) [ inl e ↦ a e | inr e ↦ b e ])
        by_test false is = is

    pub string_no_vector : (v b : TExpr) → element_of v ≡ Some b → passes_as p (plain 1) v ≡ false
    string_no_vector v b eb =
        no_string v
        (λ e. let none : element_of v ≡ None = element_class v string_class.0 (ap (class_of p) e ∙ string_class.1) in cc (none, eb))
        (λ e. let none : element_of v ≡ None = element_class v object_class.0 (ap (class_of p) e ∙ object_class.1) in cc (none, eb))

    no_true : false ≡ true → ⊥
    no_true e = cc e

    -- only a string passes as `string`
    pub only_string : (e : TExpr) → passes_as p e (plain 1) ≡ true → e ≡ plain 1
    only_string e f = elim (passes_of e (plain 1) f) [ inl a ↦ by_way e (plain 1) refl a | inr o ↦ absurd (one_or_other o.1) ]
      where
        one_or_other : plain 1 ≡ plain 0 → ⊥
        one_or_other e' =
            let a : class_number_of (plain 1) ≡ Some 0 = ap class_number_of e' ∙ plain_number 0 in
            let b : Some 1 ≡ Some 0 = sym (plain_number 1) ∙ a in
            cc b

        no_base : (t : TExpr) → t ≡ plain 1 → may_be_base p t ≡ true → ⊥
        no_base t e' m =
            let number : class_number_of t ≡ Some 1 = ap class_number_of e' ∙ plain_number 1 in
            let yes : not (is_number 1 (class_number_of t)) ≡ true = second_of_two (is_base_class (class_of p t)) (not (is_number 1 (class_number_of t))) m in
            let no' : not (is_number 1 (class_number_of t)) ≡ false = ap (λ o. not (is_number 1 o)) number in
            cc (yes, no')

        by_way : (e t : TExpr) → t ≡ plain 1 → Assigns p e t → e ≡ plain 1
        by_way e t s (to_base itself) = s
        by_way e t s (to_base (upward {b = b} is h)) = absurd (no_base t s (above_base (base_may_be p classes e b is) h))
        by_way e t s (to_object r o) = absurd (one_or_other (sym s ∙ o))
        by_way e t s (to_interface m) =
            let i = interface_class p classes t (met_interface m) in
            let at : class_of p t ≡ Some string_class.0 = ap (class_of p) s ∙ string_class.1 in
            let same : i.0 ≡ string_class.0 = cc (i.1, at) in
            let yes : is_interface_kind string_class.0.kind ≡ true = subst (λ (z : ClassDef). is_interface_kind z.kind ≡ true) same i.2 in
            let no' : is_interface_kind string_class.0.kind ≡ false = ap is_interface_kind string_class.4 in
            absurd (no_true (sym no' ∙ yes))
        by_way e t s (vectors {b = b} ea eb ra rb g) = let none : element_of t ≡ None = element_class t string_class.0 (ap (class_of p) s ∙ string_class.1) in absurd (cc (none, eb))

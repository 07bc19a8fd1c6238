-- The bases and the interfaces of types in a program whose classes have no variables, and which types are assignable to which, as relations.
use Rattle.std.proofs.Common.{◌≡◌, inl, inr, ℕ, zero, suc, ◌+◌, Bool, true, not, ◌&&◌, ◌||◌, List, [], ◌∷◌, ◌++◌, length, map, slice_get, Option, Some, None, option_map, option_and_then, option_to_list, refl, sym, ap, ◌∙◌, subst, arith, flat_map, filter_map}
use Rattle.std.specs.List.{list_all, cons_option}
use Rattle.type_tree.specs.declared.tree.TExpr.{TExpr}
use Rattle.type_tree.specs.Positions.{positions_of}
use Rattle.type_tree.proofs.SameLemmas.{is_same-Decides}
use Rattle.il_model.specs.declared.class.ClassKind.{ClassKind}
use Rattle.il_model.specs.declared.class.ClassDef.{ClassDef}
use Rattle.il_model.specs.declared.class.FieldDef.{FieldDef}
use Rattle.il_model.specs.declared.program.Program.{Program}
use Rattle.il_model.specs.Kinds.{is_struct_kind, is_reference}
use Rattle.il_model.specs.Slots.{is_interface_kind, is_interface, is_interface_class}
use Rattle.il_model.specs.Find.{class_of, class_number_of}
use Rattle.il_model.specs.Library.{plain, library_classes}
use Rattle.il_model.specs.Trees.{is_among}
use Rattle.il_model.specs.Bases.{with_args_of, base_of, upwards, bases_of}
use Rattle.il_model.specs.Interfaces.{own_interfaces_of, interfaces_in, interfaces_met, interfaces_of}
use Rattle.il_model.specs.Assignable.{element_of, pass_both, is_assignable_flat, assignable_within, is_assignable, is_object}
use Rattle.il_model.specs.ClassRules.{HasHierarchy, EachClass, may_be_base, ends_within, uppers_of, is_base_kind, uppers_in, is_base_class, is_number}
use Rattle.type_inst.proofs.ListLemmas.{Has, has_left, has_right, has_split, has_flat, from_flat, from_map, each_passes, all_pass, has_of_among, among_of_has, joined_has, joined_split, first_of_two, second_of_two, true_of_two, or_true}
use Rattle.type_inst.proofs.ListingLemmas.{tends}
use Rattle.type_inst.proofs.AssignableLemmas.{assignable-vectors}

-- whether a class of this kind has no base: a struct or an interface
abbrev pub is_baseless : ClassKind → Bool
is_baseless k = is_struct_kind k || is_interface_kind k

-- What is asked of a program's classes: the rule on hierarchies, no variables in the types that heads and fields write, no base of a
-- struct or an interface, and the library's classes first.
pub record PlainClasses (p : Program) : Type 0 where
  pub hierarchy : EachClass HasHierarchy p
  pub base_put : (k : ℕ) (c : ClassDef) → slice_get p.classes k ≡ Some c → (b t : TExpr) → c.base ≡ Some b → with_args_of t b ≡ b
  pub interface_put : (k : ℕ) (c : ClassDef) → slice_get p.classes k ≡ Some c → (i t : TExpr) → Has c.interfaces i → with_args_of t i ≡ i
  pub field_put : (k : ℕ) (c : ClassDef) → slice_get p.classes k ≡ Some c → (t : TExpr) (f : ℕ) (x : FieldDef) → slice_get c.fields f ≡ Some x → with_args_of t x.kind ≡ x.kind
  pub baseless : (k : ℕ) (c : ClassDef) → slice_get p.classes k ≡ Some c → is_baseless c.kind ≡ true → c.base ≡ None
  pub others : List ClassDef
  pub library : p.classes ≡ library_classes ++ others

-- a class that a type names, and where it stands
pub record IsOfClass (p : Program) (t : TExpr) (c : ClassDef) : Type 0 where
  pub number : ℕ
  pub named : class_number_of t ≡ Some number
  pub is : slice_get p.classes number ≡ Some c

module _ (p : Program) where
  pub of_class : (t : TExpr) (c : ClassDef) → class_of p t ≡ Some c → IsOfClass p t c
  of_class t c e = by_number (class_number_of t) refl e
    where
      by_number : (o : Option ℕ) → class_number_of t ≡ o → option_and_then (λ k. slice_get p.classes k) o ≡ Some c → IsOfClass p t c
      by_number None is e' = absurd (cc e')
      by_number (Some k) is e' = record { number = k; named = is; is = e' }

  pub class_is : (t : TExpr) (c : ClassDef) → IsOfClass p t c → class_of p t ≡ Some c
  class_is t c o = ap (option_and_then (λ k. slice_get p.classes k)) o.named ∙ o.is

  -- the type is the other one or has it as a base
  pub data Based : TExpr → TExpr → Type 0 where
    itself : {t : TExpr} → Based t t
    upward : {t b u : TExpr} → base_of p t ≡ Some b → Based b u → Based t u

  -- the other one is an interface of the type
  pub data Met : TExpr → TExpr → Type 0 where
    by_base : {t b i : TExpr} → base_of p t ≡ Some b → Met b i → Met t i
    own : {t i : TExpr} → Has (own_interfaces_of p t) i → Met t i
    by_own : {t j i : TExpr} → Has (own_interfaces_of p t) j → Met j i → Met t i

  -- the type is assignable to the other one
  pub data Assigns : TExpr → TExpr → Type 0 where
    to_base : {t u : TExpr} → Based t u → Assigns t u
    to_object : {t u : TExpr} → is_reference p t ≡ true → u ≡ plain 0 → Assigns t u
    to_interface : {t u : TExpr} → Met t u → Assigns t u
    vectors : {t u a b : TExpr} → element_of t ≡ Some a → element_of u ≡ Some b → is_reference p a ≡ true → is_reference p b ≡ true → Assigns a b → Assigns t u

  -- ---- what is above what is above

  pub based_on : {t b u : TExpr} → Based t b → Based b u → Based t u
  based_on itself g = g
  based_on (upward e h) g = upward e (based_on h g)

  pub met_by_base : {t b i : TExpr} → Based t b → Met b i → Met t i
  met_by_base itself m = m
  met_by_base (upward e h) m = by_base e (met_by_base h m)

  pub met_on : {t j i : TExpr} → Met t j → Met j i → Met t i
  met_on (by_base e h) m = by_base e (met_on h m)
  met_on (own h) m = by_own h m
  met_on (by_own h n) m = by_own h (met_on n m)

  -- ---- the lists have what the relations say

  optional : (o : Option TExpr) (b : TExpr) → Has (option_to_list o) b → o ≡ Some b
  optional None b h = absurd h
  optional (Some x) b h = elim h [ inl e ↦ ap Some e | inr none ↦ absurd none ]

  has_optional : (o : Option TExpr) (b : TExpr) → o ≡ Some b → Has (option_to_list o) b
  has_optional o b e = subst (λ z. Has (option_to_list z) b) (sym e) (inl refl)

  none_above : (n : ℕ) (u : TExpr) → Has (upwards p n None) u → ⊥
  none_above zero u h = h
  none_above (suc n) u h = h

  by_base_of : (n : ℕ) (t u : TExpr) → ((b : TExpr) → Has (upwards p n (Some b)) u → Based b u) → (o : Option TExpr) → base_of p t ≡ o → Has (upwards p n o) u → Based t u
  by_base_of n t u go None is h = absurd (none_above n u h)
  by_base_of n t u go (Some b) is h = upward is (go b h)

  based_of_has : (levels : ℕ) (o : Option TExpr) (t u : TExpr) → o ≡ Some t → Has (upwards p levels o) u → Based t u
  based_of_has zero o t u e h = absurd h
  based_of_has (suc levels) None t u e h = absurd (cc e)
  based_of_has (suc levels) (Some x) t u e h =
      let q : x ≡ t = cc e in
      elim h [ inl s ↦ subst (λ z. Based z u) q (subst (λ z. Based x z) s itself) | inr r ↦ subst (λ z. Based z u) q (by_base_of levels x u (λ b g. based_of_has levels (Some b) b u refl g) (base_of p x) refl r) ]

  pub based_of : (t u : TExpr) → is_among (bases_of p t) u ≡ true → Based t u
  based_of t u e = elim (has_of_among (bases_of p t) u e) [ inl s ↦ subst (λ z. Based t z) s itself | inr r ↦ by_base_of (length p.classes) t u (λ b g. based_of_has (length p.classes) (Some b) b u refl g) (base_of p t) refl r ]

  met_of_has : (levels : ℕ) (t i : TExpr) → Has (interfaces_met p levels t) i → Met t i
  met_of_has zero t i h = absurd h
  met_of_has (suc levels) t i h =
      elim (has_split (flat_map (λ b. interfaces_met p levels b) (option_to_list (base_of p t))) (flat_map (λ j. j ∷ interfaces_met p levels j) (own_interfaces_of p t)) i h) [
        | inl base ↦ from_flat (λ b. interfaces_met p levels b) (Met t i) (option_to_list (base_of p t)) i base (λ b is g. by_base (optional (base_of p t) b is) (met_of_has levels b i g))
        | inr each ↦ from_flat (λ j. j ∷ interfaces_met p levels j) (Met t i) (own_interfaces_of p t) i each (λ j is g. elim g [ inl e ↦ own (subst (λ z. Has (own_interfaces_of p t) z) e is) | inr r ↦ by_own is (met_of_has levels j i r) ])
      ]

  pub met_of : (t i : TExpr) → is_among (interfaces_of p t) i ≡ true → Met t i
  met_of t i e =
      elim (joined_split [] (interfaces_met p (length p.classes) t) i (has_of_among (interfaces_of p t) i e)) [
        | inl none ↦ absurd none
        | inr h ↦ met_of_has (length p.classes) t i h
      ]

  base_tends : (n : ℕ) (t b : TExpr) → tends p (suc n) t ≡ true → base_of p t ≡ Some b → tends p n b ≡ true
  base_tends n t b e is = each_passes (λ v. tends p n v) (option_to_list (base_of p t) ++ own_interfaces_of p t) e b (has_left (option_to_list (base_of p t)) (own_interfaces_of p t) b (has_optional (base_of p t) b is))

  own_tends : (n : ℕ) (t j : TExpr) → tends p (suc n) t ≡ true → Has (own_interfaces_of p t) j → tends p n j ≡ true
  own_tends n t j e h = each_passes (λ v. tends p n v) (option_to_list (base_of p t) ++ own_interfaces_of p t) e j (has_right (option_to_list (base_of p t)) (own_interfaces_of p t) j h)

  has_based : (n : ℕ) (t u : TExpr) → tends p n t ≡ true → Based t u → Has (upwards p n (Some t)) u
  has_based zero t u e b = absurd (cc e)
  has_based (suc n) t u e itself = inl refl
  has_based (suc n) t u e (upward {b = b} is h) = inr (subst (λ z. Has (upwards p n z) u) (sym is) (has_based n b u (base_tends n t b e is) h))

  has_met : (n : ℕ) (t i : TExpr) → tends p n t ≡ true → Met t i → Has (interfaces_met p n t) i
  has_met zero t i e m = absurd (cc e)
  has_met (suc n) t i e (by_base {b = b} is m) =
      has_left (flat_map (λ b. interfaces_met p n b) (option_to_list (base_of p t))) (flat_map (λ j. j ∷ interfaces_met p n j) (own_interfaces_of p t)) i
      (has_flat (λ b. interfaces_met p n b) (option_to_list (base_of p t)) b i (has_optional (base_of p t) b is) (has_met n b i (base_tends n t b e is) m))
  has_met (suc n) t i e (own h) =
      has_right (flat_map (λ b. interfaces_met p n b) (option_to_list (base_of p t))) (flat_map (λ j. j ∷ interfaces_met p n j) (own_interfaces_of p t)) i
      (has_flat (λ j. j ∷ interfaces_met p n j) (own_interfaces_of p t) i i h (inl refl))
  has_met (suc n) t i e (by_own {j = j} h m) =
      has_right (flat_map (λ b. interfaces_met p n b) (option_to_list (base_of p t))) (flat_map (λ j. j ∷ interfaces_met p n j) (own_interfaces_of p t)) i
      (has_flat (λ j. j ∷ interfaces_met p n j) (own_interfaces_of p t) j i h (inr (has_met n j i (own_tends n t j e h) m)))

  -- ---- assignability, as a relation

  flat_of : (t u : TExpr) → is_assignable_flat p t u ≡ true → Assigns t u
  flat_of t u e =
      elim (true_of_two (is_among (bases_of p t) u) ((is_object u && is_reference p t) || is_among (interfaces_of p t) u) e) [
        | inl base ↦ to_base (based_of t u base)
        | inr rest ↦ elim (true_of_two (is_object u && is_reference p t) (is_among (interfaces_of p t) u) rest) [
          | inl object ↦ to_object (second_of_two (is_object u) (is_reference p t) object) ((is_same-Decides u (plain 0)).0 (first_of_two (is_object u) (is_reference p t) object))
          | inr met ↦ to_interface (met_of t u met)
        ]
      ]

  assigns_within : (n : ℕ) (t u : TExpr) → assignable_within p n t u ≡ true → Assigns t u
  assigns_within zero t u e = flat_of t u e
  assigns_within (suc n) t u e =
      elim (true_of_two (is_assignable_flat p t u) (pass_both (λ a b. is_reference p a && (is_reference p b && assignable_within p n a b)) (element_of t) (element_of u)) e) [
        | inl flat ↦ flat_of t u flat
        | inr both ↦ by_elements (λ a b g. assigns_within n a b g) (element_of t) (element_of u) refl refl both
      ]
    where
      by_elements : ((a b : TExpr) → assignable_within p n a b ≡ true → Assigns a b) → (a b : Option TExpr) → element_of t ≡ a → element_of u ≡ b → pass_both (λ a b. is_reference p a && (is_reference p b && assignable_within p n a b)) a b ≡ true → Assigns t u
      by_elements go None b ea eb e' = absurd (cc e')
      by_elements go (Some a) None ea eb e' = absurd (cc e')
      by_elements go (Some a) (Some b) ea eb e' =
          let rest : (is_reference p b && assignable_within p n a b) ≡ true = second_of_two (is_reference p a) (is_reference p b && assignable_within p n a b) e' in
          vectors ea eb (first_of_two (is_reference p a) (is_reference p b && assignable_within p n a b) e') (first_of_two (is_reference p b) (assignable_within p n a b) rest) (go a b (second_of_two (is_reference p b) (assignable_within p n a b) rest))

  pub assigns_of : (t u : TExpr) → is_assignable p t u ≡ true → Assigns t u
  assigns_of t u e = assigns_within (positions_of t) t u e

  -- what is assignable flatly is assignable
  pub flat_assignable : (t u : TExpr) → is_assignable_flat p t u ≡ true → is_assignable p t u ≡ true
  flat_assignable t u e = by_levels (positions_of t)
    where
      by_levels : (n : ℕ) → assignable_within p n t u ≡ true
      by_levels zero = e
      by_levels (suc n) = ap (λ b. b || pass_both (λ a b. is_reference p a && (is_reference p b && assignable_within p n a b)) (element_of t) (element_of u)) e

  module _ (classes : PlainClasses p) where
    pub base_has : (t b : TExpr) → base_of p t ≡ Some b → (c : ClassDef) × IsOfClass p t c × (c.base ≡ Some b)
    base_has t b e = by_class (class_of p t) refl e
      where
        by_class : (o : Option ClassDef) → class_of p t ≡ o → option_and_then (λ (c : ClassDef). option_map (with_args_of t) c.base) o ≡ Some b → (c : ClassDef) × IsOfClass p t c × (c.base ≡ Some b)
        by_class None is e' = absurd (cc e')
        by_class (Some c) is e' = by_written c.base refl e'
          where
            by_written : (o : Option TExpr) → c.base ≡ o → option_map (with_args_of t) o ≡ Some b → (c : ClassDef) × IsOfClass p t c × (c.base ≡ Some b)
            by_written None w e'' = absurd (cc e'')
            by_written (Some x) w e'' =
                let at = of_class t c is in
                let put : with_args_of t x ≡ x = classes.base_put at.number c at.is x t w in
                let q : with_args_of t x ≡ b = cc e'' in
                (c, at, w ∙ ap Some (sym put ∙ q))

    pub own_has : (t i : TExpr) → Has (own_interfaces_of p t) i → (c : ClassDef) × IsOfClass p t c × Has c.interfaces i
    own_has t i h = by_class (class_of p t) refl h
      where
        by_class : (o : Option ClassDef) → class_of p t ≡ o → Has (map (with_args_of t) (interfaces_in o)) i → (c : ClassDef) × IsOfClass p t c × Has c.interfaces i
        by_class None is h' = absurd h'
        by_class (Some c) is h' =
            let at = of_class t c is in
            from_map (with_args_of t) ((c : ClassDef) × IsOfClass p t c × Has c.interfaces i) c.interfaces i h'
            (λ x in_xs e. (c, at, subst (λ z. Has c.interfaces z) (sym (classes.interface_put at.number c at.is x t in_xs) ∙ e) in_xs))

    -- ---- each way up ends

    abbrev Numbered : TExpr → Type 0
    Numbered t = (k : ℕ) × (class_number_of t ≡ Some k)

    class_numbered : (t : TExpr) (c : ClassDef) → class_of p t ≡ Some c → Numbered t
    class_numbered t c e = let o = of_class t c e in (o.number, o.named)

    pub base_class : (t : TExpr) → may_be_base p t ≡ true → (c : ClassDef) × (class_of p t ≡ Some c) × (is_base_kind c.kind ≡ true)
    base_class t e = by_class (class_of p t) refl (first_of_two (is_base_class (class_of p t)) (not (is_number 1 (class_number_of t))) e)
      where
        by_class : (o : Option ClassDef) → class_of p t ≡ o → is_base_class o ≡ true → (c : ClassDef) × (class_of p t ≡ Some c) × (is_base_kind c.kind ≡ true)
        by_class None is e' = absurd (cc e')
        by_class (Some c) is e' = (c, is, e')

    pub interface_class : (t : TExpr) → is_interface p t ≡ true → (c : ClassDef) × (class_of p t ≡ Some c) × (is_interface_kind c.kind ≡ true)
    interface_class t e = by_class (class_of p t) refl e
      where
        by_class : (o : Option ClassDef) → class_of p t ≡ o → is_interface_class o ≡ true → (c : ClassDef) × (class_of p t ≡ Some c) × (is_interface_kind c.kind ≡ true)
        by_class None is e' = absurd (cc e')
        by_class (Some c) is e' = (c, is, e')

    -- a base may be one, and an interface is one
    pub base_may_be : (t b : TExpr) → base_of p t ≡ Some b → may_be_base p b ≡ true
    base_may_be t b e =
        let h = base_has t b e in
        each_passes (may_be_base p) (option_to_list h.0.base) ((classes.hierarchy.each h.1.number h.0 h.1.is).base) b (has_optional h.0.base b h.2)

    pub own_interface : (t i : TExpr) → Has (own_interfaces_of p t) i → is_interface p i ≡ true
    own_interface t i e =
        let h = own_has t i e in
        each_passes (is_interface p) h.0.interfaces ((classes.hierarchy.each h.1.number h.0 h.1.is).interfaces) i h.2

    abbrev ends : ℕ → ℕ → Bool
    ends n number = ends_within p n number

    rest_ends : (n : ℕ) (o : Option ℕ) (rest : List ℕ) → list_all (λ upper. ends n upper) (cons_option o rest) ≡ true → list_all (λ upper. ends n upper) rest ≡ true
    rest_ends n None rest all = all
    rest_ends n (Some number) rest all = second_of_two (ends n number) (list_all (λ upper. ends n upper) rest) all

    upper_ends : (n number : ℕ) (ts : List TExpr) (t : TExpr) → list_all (λ upper. ends n upper) (filter_map class_number_of ts) ≡ true → Has ts t → class_number_of t ≡ Some number → ends n number ≡ true
    upper_ends n number [] t all h is = absurd h
    upper_ends n number (u ∷ ts) t all h is =
        elim h [
          | inl same ↦ first_of_two (ends n number) (list_all (λ upper. ends n upper) (filter_map class_number_of ts))
              (subst (λ (o : Option ℕ). list_all (λ upper. ends n upper) (cons_option o (filter_map class_number_of ts)) ≡ true) (ap class_number_of same ∙ is) all)
          | inr r ↦ upper_ends n number ts t (rest_ends n (class_number_of u) (filter_map class_number_of ts) all) r is
        ]

    -- what ends for a class ends for each type that the class writes as its base or as an interface
    written_ends : (n number : ℕ) (t u : TExpr) (c : ClassDef) → IsOfClass p t c → class_number_of t ≡ Some number → ends (suc n) number ≡ true → Has (option_to_list c.base ++ c.interfaces) u → (k : ℕ) → class_number_of u ≡ Some k → ends n k ≡ true
    written_ends n number t u c at named e h k is =
        let same : at.number ≡ number = cc (at.named, named) in
        let all : list_all (λ upper. ends n upper) (uppers_of p at.number) ≡ true = subst (λ z. ends (suc n) z ≡ true) (sym same) e in
        upper_ends n k (option_to_list c.base ++ c.interfaces) u (subst (λ (o : Option ClassDef). list_all (λ upper. ends n upper) (uppers_in o) ≡ true) at.is all) h is

    class_tends : (n number : ℕ) (t : TExpr) → class_number_of t ≡ Some number → ends n number ≡ true → tends p n t ≡ true
    class_tends zero number t named e = absurd (cc e)
    class_tends (suc n) number t named e =
        all_pass (λ v. tends p n v) (option_to_list (base_of p t) ++ own_interfaces_of p t) (λ u h.
        elim (has_split (option_to_list (base_of p t)) (own_interfaces_of p t) u h) [
          | inl base ↦
              let b = base_has t u (optional (base_of p t) u base) in
              let c = base_class u (base_may_be t u (optional (base_of p t) u base)) in
              let k = class_numbered u c.0 c.1 in
              class_tends n k.0 u k.1 (written_ends n number t u b.0 b.1 named e (has_left (option_to_list b.0.base) b.0.interfaces u (has_optional b.0.base u b.2)) k.0 k.1)
          | inr each ↦
              let b = own_has t u each in
              let c = interface_class u (own_interface t u each) in
              let k = class_numbered u c.0 c.1 in
              class_tends n k.0 u k.1 (written_ends n number t u b.0 b.1 named e (has_right (option_to_list b.0.base) b.0.interfaces u b.2) k.0 k.1)
        ])

    alone_tends : (n : ℕ) (t : TExpr) → class_of p t ≡ None → tends p (suc n) t ≡ true
    alone_tends n t is =
        subst (λ (o : Option ClassDef). list_all (λ v. tends p n v) (option_to_list (option_and_then (λ (c : ClassDef). option_map (with_args_of t) c.base) o) ++ map (with_args_of t) (interfaces_in o)) ≡ true) (sym is) refl

    count_is : length p.classes ≡ suc (12 + length classes.others)
    count_is = ap length classes.library ∙ thirteen (length classes.others)
      where
        thirteen : (n : ℕ) → suc (suc (suc (suc (suc (suc (suc (suc (suc (suc (suc (suc (suc n)))))))))))) ≡ suc (12 + n)
        thirteen n = omega arith

    pub tends_all : (t : TExpr) → tends p (length p.classes) t ≡ true
    tends_all t = by_class (class_of p t) refl
      where
        by_class : (o : Option ClassDef) → class_of p t ≡ o → tends p (length p.classes) t ≡ true
        by_class None is = subst (λ n. tends p n t ≡ true) (sym count_is) (alone_tends (12 + length classes.others) t is)
        by_class (Some c) is = let at = of_class t c is in class_tends (length p.classes) at.number t at.named ((classes.hierarchy.each at.number c at.is).ends)

    tends_past : (t : TExpr) → tends p (suc (length p.classes)) t ≡ true
    tends_past t = all_pass (λ v. tends p (length p.classes) v) (option_to_list (base_of p t) ++ own_interfaces_of p t) (λ u h. tends_all u)

    -- ---- and back from the relations

    pub has_base : (t u : TExpr) → Based t u → Has (bases_of p t) u
    has_base t u b = has_based (suc (length p.classes)) t u (tends_past t) b

    pub has_interface : (t i : TExpr) → Met t i → Has (interfaces_of p t) i
    has_interface t i m = joined_has [] (interfaces_met p (length p.classes) t) i (has_met (length p.classes) t i (tends_all t) m)

    base_flat : (t u : TExpr) → Based t u → is_assignable_flat p t u ≡ true
    base_flat t u b = ap (λ z. z || ((is_object u && is_reference p t) || is_among (interfaces_of p t) u)) (among_of_has (bases_of p t) u (has_base t u b))

    object_flat : (t u : TExpr) → is_reference p t ≡ true → u ≡ plain 0 → is_assignable_flat p t u ≡ true
    object_flat t u r e =
        or_true (is_among (bases_of p t) u) ((is_object u && is_reference p t) || is_among (interfaces_of p t) u)
        (ap (λ z. (z && is_reference p t) || is_among (interfaces_of p t) u) ((is_same-Decides u (plain 0)).1 e) ∙ ap (λ z. z || is_among (interfaces_of p t) u) r)

    interface_flat : (t u : TExpr) → Met t u → is_assignable_flat p t u ≡ true
    interface_flat t u m =
        or_true (is_among (bases_of p t) u) ((is_object u && is_reference p t) || is_among (interfaces_of p t) u)
        (or_true (is_object u && is_reference p t) (is_among (interfaces_of p t) u) (among_of_has (interfaces_of p t) u (has_interface t u m)))

    vectors_assignable : (t u a b : TExpr) → element_of t ≡ Some a → element_of u ≡ Some b → is_reference p a ≡ true → is_reference p b ≡ true → is_assignable p a b ≡ true → is_assignable p t u ≡ true
    vectors_assignable t u a b ea eb ra rb e =
        assignable-vectors p t u a b ea eb
        ∙ or_true (is_assignable_flat p t u) (is_reference p a && (is_reference p b && is_assignable p a b)) (ap (λ z. z && (is_reference p b && is_assignable p a b)) ra ∙ ap (λ z. z && is_assignable p a b) rb ∙ e)

    pub assignable_of : {t u : TExpr} → Assigns t u → is_assignable p t u ≡ true
    assignable_of {t} {u} (to_base b) = flat_assignable t u (base_flat t u b)
    assignable_of {t} {u} (to_object r e) = flat_assignable t u (object_flat t u r e)
    assignable_of {t} {u} (to_interface m) = flat_assignable t u (interface_flat t u m)
    assignable_of {t} {u} (vectors {a = a} {b = b} ea eb ra rb h) = vectors_assignable t u a b ea eb ra rb (assignable_of h)

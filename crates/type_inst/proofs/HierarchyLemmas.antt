-- Where the rule on hierarchies refuses nothing, each way up from a type ends.
use Rattle.std.proofs.Common.{◌≡◌, ℕ, zero, suc, Bool, true, false, not, ◌&&◌, inl, inr, List, [], ◌∷◌, ◌++◌, length, map, filter_map, slice_get, Option, Some, None, option_map, option_and_then, option_to_list, refl, sym, ap, ◌∙◌, subst}
use Rattle.std.specs.List.{list_all, cons_option}
use Rattle.il_model.specs.Trees.{without_repeats}
use Rattle.type_inst.specs.Listing.{listed}
use Rattle.type_tree.specs.declared.tree.Head.TheVariants as head
use Rattle.type_tree.specs.declared.tree.TExpr.{TExpr}
use Rattle.type_tree.specs.declared.tree.TNode.{TNode}
use Rattle.type_tree.specs.declared.tree.TNode.TheVariants.{Node, ClassVar, MethodVar}
use Rattle.type_tree.specs.Tree.{top_of, node}
use Rattle.type_tree.specs.Substitution.{substituted}
use Rattle.type_tree.proofs.TreeLemmas.{tree_of-is, top_of-tree_of}
use Rattle.type_tree.proofs.SubstitutionLemmas.{substituted-node}
use Rattle.il_model.specs.declared.class.ClassDef.{ClassDef}
use Rattle.il_model.specs.declared.program.Program.{Program}
use Rattle.il_model.specs.Find.{class_in_top, class_number_of, class_of}
use Rattle.il_model.specs.Entries.{arguments_of}
use Rattle.il_model.specs.Bases.{with_args_of}
use Rattle.il_model.specs.Interfaces.{interfaces_in, interfaces_met, interfaces_of}
use Rattle.il_model.specs.Slots.{is_interface_class, is_interface}
use Rattle.il_model.specs.ClassRules.{EachClass, HasHierarchy, is_base_class, is_number, may_be_base, uppers_in, ends_within}
use Rattle.type_inst.proofs.ListLemmas.{Has, has_left, has_right, has_split, from_map, first_of_two, second_of_two, each_passes, all_pass}
use Rattle.type_inst.proofs.ListingLemmas.{tends, listed_is}

-- a type that names a class
pub record Names (t : TExpr) (number : ℕ) : Type 0 where
  pub parts : List TExpr
  pub is : t ≡ node (head.Class number) parts

of_top : (t : TExpr) (number : ℕ) (top : TNode TExpr) → top_of t ≡ top → class_in_top top ≡ Some number → Names t number
of_top t number (Node (head.Class n) parts) is e =
    let same : n ≡ number = cc in record { parts = parts; is = tree_of-is t (Node (head.Class n) parts) is ∙ ap (λ k. node (head.Class k) parts) same }
of_top t number (Node head.Int32 parts) is e = cc
of_top t number (Node head.Int64 parts) is e = cc
of_top t number (Node head.Bool parts) is e = cc
of_top t number (Node head.Vector parts) is e = cc
of_top t number (ClassVar n) is e = cc
of_top t number (MethodVar n) is e = cc

-- arguments are put without a change of the class
pub number_kept : (t part : TExpr) (number : ℕ) → class_number_of part ≡ Some number → class_number_of (with_args_of t part) ≡ Some number
number_kept t part number e =
    let named : Names part number = of_top part number (top_of part) refl e in
    ap class_number_of (ap (with_args_of t) named.is ∙ substituted-node (arguments_of t) [] (head.Class number) named.parts)
    ∙ ap class_in_top (top_of-tree_of (Node (head.Class number) (map (substituted (arguments_of t) []) named.parts)))

pub record Numbered (t : TExpr) : Type 0 where
  pub number : ℕ
  pub is : class_number_of t ≡ Some number

numbered_if : (t : TExpr) (P : Option ℕ → Bool) → P None ≡ false → (o : Option ℕ) → class_number_of t ≡ o → P o ≡ true → Numbered t
numbered_if t P no_number None is holds = cc
numbered_if t P no_number (Some number) is holds = record { number = number; is = is }

module _ (program : Program) where
  pub interface_numbered : (t : TExpr) → is_interface program t ≡ true → Numbered t
  interface_numbered t holds =
      numbered_if t (λ o. is_interface_class (option_and_then (λ number. slice_get program.classes number) o)) refl (class_number_of t) refl holds

  base_numbered : (t : TExpr) → may_be_base program t ≡ true → Numbered t
  base_numbered t holds =
      numbered_if t (λ o. is_base_class (option_and_then (λ number. slice_get program.classes number) o) && not (is_number 1 o)) refl (class_number_of t) refl holds

  abbrev ends : ℕ → ℕ → Bool
  ends n number = ends_within program n number

  rest_ends : (n : ℕ) (o : Option ℕ) (rest : List ℕ) → list_all (λ upper. ends n upper) (cons_option o rest) ≡ true →
      list_all (λ upper. ends n upper) rest ≡ true
  rest_ends n None rest all = all
  rest_ends n (Some number) rest all = second_of_two (ends n number) (list_all (λ upper. ends n upper) rest) all

  upper_ends : (n number : ℕ) (ts : List TExpr) (t : TExpr) → list_all (λ upper. ends n upper) (filter_map class_number_of ts) ≡ true →
      Has ts t → class_number_of t ≡ Some number → ends n number ≡ true
  upper_ends n number [] t all h is = absurd h
  upper_ends n number (u ∷ ts) t all h is =
      elim h [
        | inl same ↦ first_of_two (ends n number) (list_all (λ upper. ends n upper) (filter_map class_number_of ts))
            (subst (λ (o : Option ℕ). list_all (λ upper. ends n upper) (cons_option o (filter_map class_number_of ts)) ≡ true) (ap class_number_of same ∙ is) all)
        | inr r ↦ upper_ends n number ts t (rest_ends n (class_number_of u) (filter_map class_number_of ts) all) r is
      ]

  -- the types one step up from a type, from the definition of its class
  abbrev ups_in : TExpr → Option ClassDef → List TExpr
  ups_in t d = option_to_list (option_and_then (λ c. option_map (with_args_of t) c.base) d) ++ map (with_args_of t) (interfaces_in d)

  abbrev Tends : ℕ → Type 0
  Tends n = (number : ℕ) (t : TExpr) → class_number_of t ≡ Some number → ends n number ≡ true → tends program n t ≡ true

  one_up : (n number : ℕ) (t part : TExpr) (c : ClassDef) → Tends n → slice_get program.classes number ≡ Some c → ends (suc n) number ≡ true →
      Has (option_to_list c.base ++ c.interfaces) part → Numbered part → tends program n (with_args_of t part) ≡ true
  one_up n number t part c lower is all h named =
      let uppers : list_all (λ upper. ends n upper) (filter_map class_number_of (option_to_list c.base ++ c.interfaces)) ≡ true =
      subst (λ (d : Option ClassDef). list_all (λ upper. ends n upper) (uppers_in d) ≡ true) is all in
      lower named.number (with_args_of t part) (number_kept t part named.number named.is)
      (upper_ends n named.number (option_to_list c.base ++ c.interfaces) part uppers h named.is)

  base_mapped : (t : TExpr) (base : Option TExpr) → option_to_list (option_map (with_args_of t) base) ≡ map (with_args_of t) (option_to_list base)
  base_mapped t None = refl
  base_mapped t (Some b) = refl

  all_up : (n number : ℕ) (t : TExpr) (d : Option ClassDef) → EachClass HasHierarchy program → Tends n → slice_get program.classes number ≡ d →
      ends (suc n) number ≡ true → list_all (λ u. tends program n u) (ups_in t d) ≡ true
  all_up n number t None rules lower is all = refl
  all_up n number t (Some c) rules lower is all =
      let rule = rules.each number c is in
      all_pass (λ u. tends program n u) (ups_in t (Some c))
      (λ u h. elim (has_split (option_to_list (option_map (with_args_of t) c.base)) (map (with_args_of t) c.interfaces) u h) [
        | inl base ↦ from_map (with_args_of t) (tends program n u ≡ true) (option_to_list c.base) u (subst (λ xs. Has xs u) (base_mapped t c.base) base) (λ x in_xs e. subst (λ v. tends program n v ≡ true) e
            (one_up n number t x c lower is all (has_left (option_to_list c.base) c.interfaces x in_xs) (base_numbered x (each_passes (may_be_base program) (option_to_list c.base) rule.base x in_xs))))
        | inr each ↦ from_map (with_args_of t) (tends program n u ≡ true) c.interfaces u each (λ x in_xs e. subst (λ v. tends program n v ≡ true) e
            (one_up n number t x c lower is all (has_right (option_to_list c.base) c.interfaces x in_xs) (interface_numbered x (each_passes (is_interface program) c.interfaces rule.interfaces x in_xs))))
      ])

  tends_by_class : EachClass HasHierarchy program → (n : ℕ) → Tends n
  tends_by_class rules zero number t is all = cc
  tends_by_class rules (suc n) number t is all =
      subst (λ (d : Option ClassDef). list_all (λ u. tends program n u) (ups_in t d) ≡ true)
      (sym (ap (λ (o : Option ℕ). option_and_then (λ k. slice_get program.classes k) o) is))
      (all_up n number t (slice_get program.classes number) rules (tends_by_class rules n) refl all)

  -- a type of no class has nothing above it
  tends_alone : (n : ℕ) (t : TExpr) → class_of program t ≡ None → tends program (suc n) t ≡ true
  tends_alone n t is = subst (λ (d : Option ClassDef). list_all (λ u. tends program n u) (ups_in t d) ≡ true) (sym is) refl

  tends_if : EachClass HasHierarchy program → (n : ℕ) → length program.classes ≡ suc n → (t : TExpr) (o : Option ℕ) (d : Option ClassDef) →
      class_number_of t ≡ o → class_of program t ≡ d → tends program (length program.classes) t ≡ true
  tends_if rules n some t o None at is = subst (λ levels. tends program levels t ≡ true) (sym some) (tends_alone n t is)
  tends_if rules n some t None (Some c) at is =
      let never : class_of program t ≡ None = ap (λ (o : Option ℕ). option_and_then (λ k. slice_get program.classes k) o) at in cc
  tends_if rules n some t (Some number) (Some c) at is =
      let found : slice_get program.classes number ≡ Some c = sym (ap (λ (o : Option ℕ). option_and_then (λ k. slice_get program.classes k) o) at) ∙ is in
      tends_by_class rules (length program.classes) number t at ((rules.each number c found).ends)

  listed_if : EachClass HasHierarchy program → (levels : ℕ) → length program.classes ≡ levels → (t : TExpr) →
      listed program (length program.classes) [] t ≡ interfaces_of program t
  listed_if rules zero none t =
      ap (λ levels. listed program levels [] t) none ∙ sym (ap (λ levels. without_repeats (interfaces_met program levels t)) none)
  listed_if rules (suc n) some t =
      listed_is program (length program.classes) t (tends_if rules n some t (class_number_of t) (class_of program t) refl refl)

  -- the walk lists the interfaces of a type
  pub listed_interfaces : EachClass HasHierarchy program → (t : TExpr) → listed program (length program.classes) [] t ≡ interfaces_of program t
  listed_interfaces rules t = listed_if rules (length program.classes) refl t

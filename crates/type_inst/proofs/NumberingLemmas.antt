-- The place of the first interface that is the one asked for, and the bound on the number of its slots.
use Rattle.std.proofs.Common.{◌≡◌, ◌≤◌, ◌<◌, ◌+◌, ℕ, zero, suc, Bool, true, false, not, cond, nat_lt, ◌&&◌, List, [], ◌∷◌, ◌++◌, length, map, flat_map, fold, take, drop, get_or, slice_get, position, ◌⊎◌, inl, inr, Option, Some, None, IfSome, is_some, if◌then◌else◌, option_map, option_and_then, option_to_list, refl, sym, ap, subst, ◌∙◌, arith}
use Rattle.std.specs.List.{list_all, position_or_len}
use Rattle.std.proofs.lemmas.List.{drop_more, length-append, length-map}
use Rattle.std.proofs.lemmas.List.Concat.{length-flat_map}
use Rattle.std.proofs.lemmas.List.Sums.{sum_by_more, sum_by-take-le}
use Rattle.std.proofs.lemmas.List.Quantifiers.{position-Some}
use Rattle.std.proofs.lemmas.Bool.Decides.{nat_tests}
use Rattle.type_tree.specs.declared.tree.Head.TheVariants as head
use Rattle.type_tree.specs.declared.tree.TExpr.{TExpr}
use Rattle.type_tree.specs.declared.tree.TNode.TheVariants.{Node}
use Rattle.type_tree.specs.Tree.{node}
use Rattle.type_tree.specs.Same.{is_same}
use Rattle.type_tree.proofs.TreeLemmas.{top_of-tree_of}
use Rattle.type_tree.proofs.SameLemmas.{is_same-Decides}
use Rattle.il_model.specs.declared.class.ClassDef.{ClassDef}
use Rattle.il_model.specs.declared.program.Program.{Program}
use Rattle.il_model.specs.Find.{class_in_top, class_number_of, class_of}
use Rattle.il_model.specs.Trees.{is_among, with_new, without_repeats}
use Rattle.il_model.specs.Bases.{with_args_of, own_of_class, own_of_number, definition_of, base_of}
use Rattle.il_model.specs.Interfaces.{interfaces_in, own_interfaces_of, interfaces_met, interfaces_of}
use Rattle.il_model.specs.Slots.{methods_in, own_methods_of, is_interface, virtual_slots_of, places_of, place_holds, definition_slots, method_count, implementation_of}
use Rattle.il_model.specs.ClassRules.{EachClass, HasHierarchy, OfClass, HasFewSlots, most_slots}
use Rattle.type_inst.proofs.ListLemmas.{first_of_two, second_of_two}
use Rattle.type_inst.proofs.HierarchyLemmas.{number_kept, interface_numbered}

-- ---- places

module _ {X : Type 0} (p : X → Bool) where
  not_here : (x : X) (ys : List X) → p x ≡ false → position_or_len p (x ∷ ys) ≡ 1 + position_or_len p ys
  not_here x ys e = ap (λ (t : Bool). cond (not t) (1 + position_or_len p ys) 0) e

  just_here : (x : X) (ys : List X) → p x ≡ true → position_or_len p (x ∷ ys) ≡ 0
  just_here x ys e = ap (λ (t : Bool). cond (not t) (1 + position_or_len p ys) 0) e

  next_is : (xs : List X) (i : ℕ) (x : X) → i < length xs → x ≡ get_or xs i x → position_or_len p (drop i xs) ≡ position_or_len p (x ∷ drop (i + 1) xs)
  next_is xs i x inside is = ap (λ (ys : List X). position_or_len p ys) (drop_more xs i x inside ∙ ap (λ (y : X). y ∷ drop (i + 1) xs) (sym is))

  pub place_passed : (xs : List X) (i : ℕ) (x : X) → i < length xs → x ≡ get_or xs i x → position_or_len p xs ≡ i + position_or_len p (drop i xs) → p x ≡ false →
      position_or_len p xs ≡ (i + 1) + position_or_len p (drop (i + 1) xs)
  place_passed xs i x inside is before here =
      let next = next_is xs i x inside is in
      let one = not_here x (drop (i + 1) xs) here in
      omega (arith, before, next, one)

  placed : (xs : List X) (i : ℕ) (b : Bool) → position_or_len p xs ≡ i → nat_lt i (length xs) ≡ b → position p xs ≡ cond b (Some i) None
  placed xs i b at test =
      ap (λ (k : ℕ). cond (nat_lt k (length xs)) (Some k) None) at ∙ ap (λ (t : Bool). cond t (Some i) None) test

  is_inside : (i n : ℕ) → i < n → nat_lt i n ≡ true
  is_inside i n h = grind (arith, nat_tests, h)

  is_outside : (i n : ℕ) → n ≤ i → nat_lt i n ≡ false
  is_outside i n h = grind (arith, nat_tests, h)

  pub place_reached : (xs : List X) (i : ℕ) (x : X) → i < length xs → x ≡ get_or xs i x → position_or_len p xs ≡ i + position_or_len p (drop i xs) → p x ≡ true →
      position p xs ≡ Some i
  place_reached xs i x inside is before here =
      let next = next_is xs i x inside is in
      let one = just_here x (drop (i + 1) xs) here in
      placed xs i true (omega (arith, before, next, one)) (is_inside i (length xs) inside)

  pub none_placed : (xs : List X) (i : ℕ) → length xs ≤ i → position_or_len p xs ≡ i + position_or_len p (drop i xs) → position p xs ≡ None
  none_placed xs i over before =
      let far : length xs ≤ position_or_len p xs = omega (arith, before, over) in
      placed xs (position_or_len p xs) false refl (is_outside (position_or_len p xs) (length xs) far)

-- ---- interfaces name classes

abbrev pub names_class : TExpr → Bool
names_class t = is_some (class_number_of t)

both : (a b : Bool) → a ≡ true → b ≡ true → (a && b) ≡ true
both true b e f = f
both false b e f = e

all_joined : (xs ys : List TExpr) → list_all names_class xs ≡ true → list_all names_class ys ≡ true → list_all names_class (xs ++ ys) ≡ true
all_joined [] ys a b = b
all_joined (x ∷ xs) ys a b =
    both (names_class x) (list_all names_class (xs ++ ys)) (first_of_two (names_class x) (list_all names_class xs) a)
    (all_joined xs ys (second_of_two (names_class x) (list_all names_class xs) a) b)

all_flat : (f : TExpr → List TExpr) (xs : List TExpr) → ((x : TExpr) → list_all names_class (f x) ≡ true) → list_all names_class (flat_map f xs) ≡ true
all_flat f [] each = refl
all_flat f (x ∷ xs) each = all_joined (f x) (flat_map f xs) (each x) (all_flat f xs each)

all_with_own : (f : TExpr → List TExpr) (xs : List TExpr) → ((x : TExpr) → list_all names_class (f x) ≡ true) → list_all names_class xs ≡ true →
    list_all names_class (flat_map (λ x. x ∷ f x) xs) ≡ true
all_with_own f [] each all = refl
all_with_own f (x ∷ xs) each all =
    all_joined (x ∷ f x) (flat_map (λ y. y ∷ f y) xs)
    (both (names_class x) (list_all names_class (f x)) (first_of_two (names_class x) (list_all names_class xs) all) (each x))
    (all_with_own f xs each (second_of_two (names_class x) (list_all names_class xs) all))

with_if : (b : Bool) (ts : List TExpr) (t : TExpr) → list_all names_class ts ≡ true → names_class t ≡ true → list_all names_class (if b then ts else ts ++ t ∷ []) ≡ true
with_if true ts t all one = all
with_if false ts t all one = all_joined ts (t ∷ []) all (both (names_class t) true one refl)

all_kept : (ts xs : List TExpr) → list_all names_class ts ≡ true → list_all names_class xs ≡ true → list_all names_class (fold with_new ts xs) ≡ true
all_kept ts [] all rest = all
all_kept ts (x ∷ xs) all rest =
    all_kept (with_new ts x) xs
    (with_if (is_among ts x) ts x all (first_of_two (names_class x) (list_all names_class xs) rest))
    (second_of_two (names_class x) (list_all names_class xs) rest)

named_at : (ts : List TExpr) (i : ℕ) (d : TExpr) → list_all names_class ts ≡ true → i < length ts → names_class (get_or ts i d) ≡ true
named_at [] i d all inside = absurd (omega (arith, inside))
named_at (t ∷ ts) zero d all inside = first_of_two (names_class t) (list_all names_class ts) all
named_at (t ∷ ts) (suc i) d all inside = named_at ts i d (second_of_two (names_class t) (list_all names_class ts) all) (omega (arith, inside))

module _ (program : Program) where
  named : (t part : TExpr) → is_interface program part ≡ true → names_class (with_args_of t part) ≡ true
  named t part holds =
      let n = interface_numbered program part holds in
      ap (λ (o : Option ℕ). is_some o) (number_kept t part n.number n.is)

  own_named : (t : TExpr) (parts : List TExpr) → list_all (is_interface program) parts ≡ true → list_all names_class (map (with_args_of t) parts) ≡ true
  own_named t [] all = refl
  own_named t (part ∷ parts) all =
      both (names_class (with_args_of t part)) (list_all names_class (map (with_args_of t) parts))
      (named t part (first_of_two (is_interface program part) (list_all (is_interface program) parts) all))
      (own_named t parts (second_of_two (is_interface program part) (list_all (is_interface program) parts) all))

  in_class : EachClass HasHierarchy program → (t : TExpr) (o : Option ℕ) (d : Option ClassDef) → option_and_then (λ k. slice_get program.classes k) o ≡ d →
      list_all (is_interface program) (interfaces_in d) ≡ true
  in_class rules t o None at = refl
  in_class rules t None (Some c) at = cc
  in_class rules t (Some number) (Some c) at = (rules.each number c at).interfaces

  met_named : EachClass HasHierarchy program → (levels : ℕ) (t : TExpr) → list_all names_class (interfaces_met program levels t) ≡ true
  met_named rules zero t = refl
  met_named rules (suc n) t =
      all_joined
      (flat_map (λ base. interfaces_met program n base) (option_to_list (base_of program t)))
      (flat_map (λ each. each ∷ interfaces_met program n each) (own_interfaces_of program t))
      (all_flat (λ base. interfaces_met program n base) (option_to_list (base_of program t)) (λ x. met_named rules n x))
      (all_with_own (λ each. interfaces_met program n each) (own_interfaces_of program t) (λ x. met_named rules n x)
      (own_named t (interfaces_in (class_of program t)) (in_class rules t (class_number_of t) (class_of program t) refl)))

  all_named : EachClass HasHierarchy program → (t : TExpr) → list_all names_class (interfaces_of program t) ≡ true
  all_named rules t = all_kept [] (interfaces_met program (length program.classes) t) refl (met_named rules (length program.classes) t)

  methods_if : (t part : TExpr) (o : Option ℕ) → class_number_of part ≡ o → is_some o ≡ true → own_methods_of program (with_args_of t part) ≡ own_methods_of program part
  methods_if t part None is some = cc
  methods_if t part (Some number) is some =
      ap (λ (o : Option ℕ). methods_in (option_and_then (λ k. slice_get program.classes k) o)) (number_kept t part number is ∙ sym is)

  -- arguments leave the methods of a class
  methods_kept : (t part : TExpr) → names_class part ≡ true → own_methods_of program (with_args_of t part) ≡ own_methods_of program part
  methods_kept t part holds = methods_if t part (class_number_of part) refl holds

  -- ---- bounds

  flat_none : (f : TExpr → List TExpr) (o : Option TExpr) → o ≡ None → flat_map f (option_to_list o) ≡ []
  flat_none f o e = ap (λ (u : Option TExpr). flat_map f (option_to_list u)) e

  met_nothing : (levels : ℕ) (t : TExpr) → class_of program t ≡ None → interfaces_met program levels t ≡ []
  met_nothing zero t is = refl
  met_nothing (suc n) t is =
      ap (λ (d : Option ClassDef). flat_map (λ base. interfaces_met program n base) (option_to_list (option_and_then (λ c. option_map (with_args_of t) c.base) d))
      ++ flat_map (λ each. each ∷ interfaces_met program n each) (map (with_args_of t) (interfaces_in d))) is

  no_interfaces : (t : TExpr) → class_of program t ≡ None → interfaces_of program t ≡ []
  no_interfaces t is = ap (λ (ts : List TExpr). without_repeats ts) (met_nothing (length program.classes) t is)

  abbrev pair : TExpr → ℕ → TExpr × ℕ
  pair t number = (t, number)

  same_sum : (ts : List TExpr) (a : ℕ) → fold (λ n t. n + length (map (pair t) (own_methods_of program t))) a ts ≡ fold (λ n t. n + length (own_methods_of program t)) a ts
  same_sum [] a = refl
  same_sum (t ∷ ts) a =
      same_sum ts (a + length (map (pair t) (own_methods_of program t)))
      ∙ ap (λ (n : ℕ). fold (λ m u. m + length (own_methods_of program u)) (a + n) ts) (length-map (own_methods_of program t) (pair t))

  slots_counted : (d : TExpr) → length (definition_slots program d) ≡ length (virtual_slots_of program d).stands + method_count program (interfaces_of program d)
  slots_counted d =
      length-append (virtual_slots_of program d).stands (map (place_holds program d (virtual_slots_of program d)) (places_of program d))
      ∙ ap (λ (n : ℕ). length (virtual_slots_of program d).stands + n)
      (length-map (places_of program d) (place_holds program d (virtual_slots_of program d))
      ∙ length-flat_map (λ (t : TExpr). map (pair t) (own_methods_of program t)) (interfaces_of program d)
      ∙ same_sum (interfaces_of program d) 0)

  -- either a definition has no interfaces, or it has few slots
  abbrev Fits : TExpr → Type 0
  Fits t = (interfaces_of program (definition_of program t) ≡ []) ⊎ (length (definition_slots program (definition_of program t)) ≤ most_slots)

  fits_class : (t : TExpr) (number : ℕ) (d : Option ClassDef) → OfClass HasFewSlots program t → class_number_of t ≡ Some number → slice_get program.classes number ≡ d → Fits t
  fits_class t number None few is at =
      let own : definition_of program t ≡ node (head.Class number) [] = ap (own_of_number program t) is ∙ ap (own_of_class number) at in
      let numbered : class_number_of (node (head.Class number) []) ≡ Some number = ap class_in_top (top_of-tree_of (Node (head.Class number) [])) in
      let none : class_of program (node (head.Class number) []) ≡ None = ap (λ (o : Option ℕ). option_and_then (λ k. slice_get program.classes k) o) numbered ∙ at in
      inl (ap (interfaces_of program) own ∙ no_interfaces (node (head.Class number) []) none)
  fits_class t number (Some c) few is at =
      inr (subst (λ (u : TExpr). length (definition_slots program u) ≤ most_slots) (sym (ap (own_of_number program t) is)) ((few.rule number c is at).few))

  fits_type : (t : TExpr) (o : Option ℕ) → OfClass HasFewSlots program t → class_number_of t ≡ o → Fits t
  fits_type t None few is =
      let own : definition_of program t ≡ t = ap (own_of_number program t) is in
      let none : class_of program t ≡ None = ap (λ (o : Option ℕ). option_and_then (λ k. slice_get program.classes k) o) is in
      inl (ap (interfaces_of program) own ∙ no_interfaces t none)
  fits_type t (Some number) few is = fits_class t number (slice_get program.classes number) few is refl

  fits_if : (t : TExpr) (k : ℕ) → Fits t → k < length (interfaces_of program (definition_of program t)) →
      length (virtual_slots_of program (definition_of program t)).stands + method_count program (interfaces_of program (definition_of program t)) ≤ most_slots
  fits_if t k (inl e) inside =
      let none : length (interfaces_of program (definition_of program t)) ≡ 0 = ap length e in
      absurd (omega (arith, none, inside))
  fits_if t k (inr few) inside = subst (λ (n : ℕ). n ≤ most_slots) (slots_counted (definition_of program t)) few

  -- where a type has an interface, the slots of its definition are few
  pub few_slots : (t : TExpr) (k : ℕ) → OfClass HasFewSlots program t → k < length (interfaces_of program (definition_of program t)) →
      length (virtual_slots_of program (definition_of program t)).stands + method_count program (interfaces_of program (definition_of program t)) ≤ most_slots
  few_slots t k few inside = fits_if t k (fits_type t (class_number_of t) few refl) inside

  -- the methods before an interface, and one of its own, are fewer than all
  pub before_all : EachClass HasHierarchy program → (t interface : TExpr) (d : TExpr) (k ordinal : ℕ) →
      position (λ each. is_same (with_args_of t each) interface) (interfaces_of program d) ≡ Some k → ordinal < length (own_methods_of program interface) →
      method_count program (take k (interfaces_of program d)) + ordinal < method_count program (interfaces_of program d)
  before_all rules t interface d k ordinal at low =
      let listed = interfaces_of program d in
      let found = position-Some (λ (each : TExpr). is_same (with_args_of t each) interface) listed k t at in
      let x = get_or listed k t in
      let inside : k < length listed = found.0 in
      let same : with_args_of t x ≡ interface = (is_same-Decides (with_args_of t x) interface).0 (found.1) in
      let own : length (own_methods_of program interface) ≡ length (own_methods_of program x) =
      ap (λ (u : TExpr). length (own_methods_of program u)) (sym same) ∙ ap length (methods_kept t x (named_at listed k t (all_named rules d) inside)) in
      let more : method_count program (take (k + 1) listed) ≡ method_count program (take k listed) + length (own_methods_of program x) =
      sum_by_more (λ (u : TExpr). length (own_methods_of program u)) listed k t inside in
      let most : method_count program (take (k + 1) listed) ≤ method_count program listed =
      sum_by-take-le (λ (u : TExpr). length (own_methods_of program u)) listed (k + 1) in
      omega (arith, more, most, own, low)

  -- one interface more
  pub counted_more : (ts : List TExpr) (i : ℕ) (t : TExpr) → i < length ts → t ≡ get_or ts i t →
      method_count program (take (i + 1) ts) ≡ method_count program (take i ts) + length (own_methods_of program t)
  counted_more ts i t inside is =
      sum_by_more (λ (u : TExpr). length (own_methods_of program u)) ts i t inside
      ∙ ap (λ (u : TExpr). method_count program (take i ts) + length (own_methods_of program u)) (sym is)

  pub counted_most : (ts : List TExpr) (i : ℕ) → method_count program (take i ts) ≤ method_count program ts
  counted_most ts i = sum_by-take-le (λ (u : TExpr). length (own_methods_of program u)) ts i

  abbrev pub number_at : TExpr → ℕ → ℕ → ℕ
  number_at t ordinal k =
      length (virtual_slots_of program (definition_of program t)).stands + (method_count program (take k (interfaces_of program (definition_of program t))) + ordinal)

  abbrev pub Placed : TExpr → TExpr → ℕ → Type 0
  Placed t interface k = position (λ each. is_same (with_args_of t each) interface) (interfaces_of program (definition_of program t)) ≡ Some k

  pub implemented : (t interface : TExpr) (k ordinal : ℕ) → Placed t interface k → implementation_of program t interface ordinal ≡ Some (number_at t ordinal k)
  implemented t interface k ordinal at = ap (λ (o : Option ℕ). option_map (number_at t ordinal) o) at

  pub few_before : (t interface : TExpr) (k : ℕ) → OfClass HasFewSlots program t → Placed t interface k →
      method_count program (interfaces_of program (definition_of program t)) ≤ most_slots
  few_before t interface k few at =
      let found = position-Some (λ (each : TExpr). is_same (with_args_of t each) interface) (interfaces_of program (definition_of program t)) k t at in
      omega (arith, few_slots t k few (found.0))

  pub number_low : (t interface : TExpr) (k ordinal : ℕ) → EachClass HasHierarchy program → OfClass HasFewSlots program t → Placed t interface k →
      IfSome (implementation_of program t interface ordinal) (λ number. ordinal < length (own_methods_of program interface)) →
      number_at t ordinal k < most_slots
  number_low t interface k ordinal rules few at among =
      let found = position-Some (λ (each : TExpr). is_same (with_args_of t each) interface) (interfaces_of program (definition_of program t)) k t at in
      let low : ordinal < length (own_methods_of program interface) =
      subst (λ (o : Option ℕ). IfSome o (λ number. ordinal < length (own_methods_of program interface))) (implemented t interface k ordinal at) among in
      omega (arith, few_slots t k few (found.0), before_all rules t interface (definition_of program t) k ordinal at low)

-- Tests of mapped lists, and sets of types.
use Rattle.std.proofs.Common.{◌≡◌, ℕ, ◌+◌, ◌<◌, Bool, true, false, cond, ◌||◌, List, [], ◌∷◌, ◌++◌, length, map, flat_map, get_or, refl, sym, ap, ◌∙◌}
use Rattle.std.specs.List.{list_any, list_all}
use Rattle.std.proofs.lemmas.List.{map-append}
use Rattle.std.proofs.lemmas.List.Folds.{list_any_at, list_any-append, list_all_at, list_all-map}
use Rattle.indexmap.specs.IndexSet.{insert_key}
use Rattle.type_tree.specs.declared.tree.TExpr.{TExpr}
use Rattle.type_tree.specs.Same.{is_same}
use Rattle.type_tree.proofs.SameLemmas.{is_same-Decides}
use Rattle.il_model.specs.Trees.{is_among, with_new}

module _ {A B : Type 0} (test : B → Bool) (f : A → B) where
  any_mapped : (xs : List A) → list_any test (map f xs) ≡ list_any (λ x. test (f x)) xs
  any_mapped [] = refl
  any_mapped (x ∷ xs) = ap (λ b. test (f x) || b) (any_mapped xs)

  -- one of the mapped items passes
  pub mapped_here : (xs : List A) (i : ℕ) (x : A) → i < length xs → x ≡ get_or xs i x → test (f x) ≡ true → list_any test (map f xs) ≡ true
  mapped_here xs i x inside is passes =
      any_mapped xs ∙ list_any_at (λ y. test (f y)) xs i x inside (ap (λ y. test (f y)) (sym is) ∙ passes)

both_true : (a b : Bool) → (a ≡ true → b ≡ true) → (b ≡ true → a ≡ true) → a ≡ b
both_true true true f g = refl
both_true true false f g = let no : false ≡ true = f refl in cc
both_true false true f g = g refl
both_true false false f g = refl

same_either : (t u : TExpr) → is_same t u ≡ is_same u t
same_either t u =
    both_true (is_same t u) (is_same u t)
    (λ e. (is_same-Decides u t).1 (sym ((is_same-Decides t u).0 e)))
    (λ e. (is_same-Decides t u).1 (sym ((is_same-Decides u t).0 e)))

module _ {K : Type 0} (kind_of : K → TExpr) where
  any_key : (ks : List K) (t : TExpr) → list_any (λ k. is_same t (kind_of k)) ks ≡ is_among (map kind_of ks) t
  any_key [] t = refl
  any_key (k ∷ ks) t =
      ap (λ b. b || list_any (λ j. is_same t (kind_of j)) ks) (same_either t (kind_of k)) ∙ ap (λ b. is_same (kind_of k) t || b) (any_key ks t)

  by_test : (b : Bool) (ks : List K) (k : K) → map kind_of (cond b ks (ks ++ k ∷ [])) ≡ cond b (map kind_of ks) (map kind_of ks ++ kind_of k ∷ [])
  by_test true ks k = refl
  by_test false ks k = map-append kind_of ks (k ∷ [])

  -- the set's types are the list with the type added
  pub inserted : (ks : List K) (k : K) →
      map kind_of (insert_key (λ a b. is_same (kind_of a) (kind_of b)) ks k) ≡ with_new (map kind_of ks) (kind_of k)
  inserted ks k =
      ap (λ b. map kind_of (cond b ks (ks ++ k ∷ []))) (any_key ks (kind_of k)) ∙ by_test (is_among (map kind_of ks) (kind_of k)) ks k

module _ {A B : Type 0} (test : B → Bool) (f : A → B) where
  -- one of the mapped items fails
  pub mapped_fails : (xs : List A) (i : ℕ) (x : A) → i < length xs → x ≡ get_or xs i x → test (f x) ≡ false → list_all test (map f xs) ≡ false
  mapped_fails xs i x inside is fails =
      list_all-map test f xs ∙ list_all_at (λ y. test (f y)) xs i x inside (ap (λ y. test (f y)) (sym is) ∙ fails)

module _ {A B : Type 0} (test : B → Bool) (f : A → List B) where
  any_parts : (xs : List A) → list_any test (flat_map f xs) ≡ list_any (λ x. list_any test (f x)) xs
  any_parts [] = refl
  any_parts (x ∷ xs) = list_any-append test (f x) (flat_map f xs) ∙ ap (λ b. list_any test (f x) || b) (any_parts xs)

  -- what passes in one part passes in all
  pub part_any : (xs : List A) (i : ℕ) (x : A) → i < length xs → x ≡ get_or xs i x → list_any test (f x) ≡ true → list_any test (flat_map f xs) ≡ true
  part_any xs i x inside is passes =
      any_parts xs ∙ list_any_at (λ y. list_any test (f y)) xs i x inside (ap (λ y. list_any test (f y)) (sym is) ∙ passes)

-- one of the mapped numbers fails
pub number_fails : {B : Type 0} (test : B → Bool) (f : ℕ → B) (ns : List ℕ) (i : ℕ) → i < length ns → test (f (get_or ns i 0)) ≡ false → list_all test (map f ns) ≡ false
number_fails test f ns i inside fails = list_all-map test f ns ∙ list_all_at (λ n. test (f n)) ns i 0 inside fails

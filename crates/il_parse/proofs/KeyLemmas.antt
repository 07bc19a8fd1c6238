-- Sets of names, and the lists that they stand for.
use Rattle.std.proofs.Common.{◌≡◌, ◌∙◌, ℕ, Bool, true, false, not, cond, ◌||◌, List, [], ◌∷◌, ◌++◌, map, reverse, Ok, Err, Result, refl, sym, ap, bytes_eq}
use Rattle.std.specs.Prelude.{OnOk}
use Rattle.std.specs.List.{list_any}
use Rattle.std.specs.Cmp.Lexicographic.{nat_list_eq_equiv}
use Rattle.std.proofs.lemmas.List.{map-append, reverse-append}
use Rattle.std.proofs.lemmas.List.Folds.{list_any-append}
use Rattle.indexmap.specs.IndexSet.{insert_key}
use Rattle.il_model.specs.Lexemes.{is_among}
use Rattle.il_parse.specs.declared.fault.ReadError.{ReadError}
use Rattle.il_parse.specs.Looking.{Looks, once}
use Rattle.il_parse.specs.Literals.{with_text}
use Rattle.il_parse.specs.Scopes.{met_with}

pub swapped : (a b : Bool) → (a || (b || false)) ≡ (b || a)
swapped true true = refl
swapped true false = refl
swapped false true = refl
swapped false false = refl

-- a list passes a test as the list turned round does
any_reverse : {A : Type 0} (test : A → Bool) (xs : List A) → list_any test (reverse xs) ≡ list_any test xs
any_reverse test [] = refl
any_reverse test (x ∷ xs) =
    ap (list_any test) (reverse-append (x ∷ []) xs) ∙ list_any-append test (reverse xs) (x ∷ [])
    ∙ ap (λ b. b || (test x || false)) (any_reverse test xs) ∙ swapped (list_any test xs) (test x)

module _ {K : Type 0} (items : K → List ℕ) where
  -- a name is among the keys where it is among their names
  pub any_among : (ks : List K) (name : List ℕ) → list_any (λ k. bytes_eq name (items k)) ks ≡ is_among (map items ks) name
  any_among [] name = refl
  any_among (k ∷ ks) name = λ i. nat_list_eq_equiv.symm name (items k) i || any_among ks name i

  by_test : (b : Bool) (ks : List K) (k : K) → map items (cond b ks (ks ++ k ∷ [])) ≡ cond b (map items ks) (map items ks ++ items k ∷ [])
  by_test true ks k = refl
  by_test false ks k = map-append items ks (k ∷ [])

  -- the names of a set are those before it, with the name at the end unless it is there
  pub inserted : (ks : List K) (k : K) → map items (insert_key (λ a b. bytes_eq (items a) (items b)) ks k) ≡ with_text (map items ks) (items k)
  inserted ks k = ap (λ b. map items (cond b ks (ks ++ k ∷ []))) (any_among ks (items k)) ∙ by_test (is_among (map items ks) (items k)) ks k

  -- whether a name was met, by the list that was turned round
  pub met_before : (ks : List K) (name : List ℕ) → list_any (λ k. bytes_eq name (items k)) ks ≡ is_among (reverse (map items ks)) name
  met_before ks name = any_among ks name ∙ sym (any_reverse (λ word. bytes_eq word name) (map items ks))

  adds_if : (ks : List K) (k : K) (at : ℕ) (a : Bool) (r : Result (Unit {0}) ReadError) → Looks (once a at) r →
      OnOk r (reverse (map items (cond a ks (ks ++ k ∷ []))) ≡ items k ∷ reverse (map items ks))
  adds_if ks k at true (Ok x) looks = absurd cc
  adds_if ks k at true (Err e) looks = tt
  adds_if ks k at false (Ok x) looks = ap reverse (map-append items ks (k ∷ [])) ∙ reverse-append (map items ks) (items k ∷ [])
  adds_if ks k at false (Err e) looks = tt

  -- a name that wasn't met stands in front of the list that was turned round
  pub met_adds : (ks : List K) (k : K) (at : ℕ) (r : Result (Unit {0}) ReadError) → Looks (once (list_any (λ y. bytes_eq (items k) (items y)) ks) at) r →
      OnOk r (reverse (map items (insert_key (λ a b. bytes_eq (items a) (items b)) ks k)) ≡ items k ∷ reverse (map items ks))
  met_adds ks k at r looks = adds_if ks k at (list_any (λ y. bytes_eq (items k) (items y)) ks) r looks

module _ {K : Type 0} (items : K → List ℕ) where
  with_if : (b : Bool) (ks : List K) (k : K) → reverse (map items (cond b ks (ks ++ k ∷ []))) ≡ cond b (reverse (map items ks)) (items k ∷ reverse (map items ks))
  with_if true ks k = refl
  with_if false ks k = ap reverse (map-append items ks (k ∷ [])) ∙ reverse-append (map items ks) (items k ∷ [])

  -- the list that was turned round gets a new name in front
  pub met_with_is : (ks : List K) (k : K) → reverse (map items (insert_key (λ a b. bytes_eq (items a) (items b)) ks k)) ≡ met_with (reverse (map items ks)) (items k)
  met_with_is ks k =
      ap (λ b. reverse (map items (cond b ks (ks ++ k ∷ [])))) (met_before items ks (items k))
      ∙ with_if (is_among (reverse (map items ks)) (items k)) ks k

-- what isn't new was met
pub not_new : (new met : Bool) → new ≡ not met → not new ≡ met
not_new new true is = ap not is
not_new new false is = ap not is

-- a set of things that are told apart by a name
module _ {K F : Type 0} (thing : K → F) (name_of : F → List ℕ) where
  -- a name is among the keys where it is among the names of the things
  pub any_named : (ks : List K) (name : List ℕ) → list_any (λ k. bytes_eq name (name_of (thing k))) ks ≡ is_among (map name_of (map thing ks)) name
  any_named [] name = refl
  any_named (k ∷ ks) name = λ i. nat_list_eq_equiv.symm name (name_of (thing k)) i || any_named ks name i

  lists_if : (ks : List K) (k : K) (at : ℕ) (a : Bool) (r : Result (Unit {0}) ReadError) → Looks (once a at) r →
      OnOk r (map thing (cond a ks (ks ++ k ∷ [])) ≡ map thing ks ++ thing k ∷ [])
  lists_if ks k at true (Ok x) looks = absurd cc
  lists_if ks k at true (Err e) looks = tt
  lists_if ks k at false (Ok x) looks = map-append thing ks (k ∷ [])
  lists_if ks k at false (Err e) looks = tt

  -- a thing whose name wasn't met goes to the end
  pub named_adds : (ks : List K) (k : K) (at : ℕ) (r : Result (Unit {0}) ReadError) →
      Looks (once (list_any (λ y. bytes_eq (name_of (thing k)) (name_of (thing y))) ks) at) r →
      OnOk r (map thing (insert_key (λ a b. bytes_eq (name_of (thing a)) (name_of (thing b))) ks k) ≡ map thing ks ++ thing k ∷ [])
  named_adds ks k at r looks = lists_if ks k at (list_any (λ y. bytes_eq (name_of (thing k)) (name_of (thing y))) ks) r looks

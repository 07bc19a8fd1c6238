-- The first of a list that passes a test, found by going over the list.
use Rattle.std.proofs.Common.{◌≡◌, ℕ, zero, suc, ◌+◌, ◌<◌, Bool, true, false, cond, List, [], ◌∷◌, Option, Some, None, length, take, get_or, find, is_some, refl, sym, ap, subst, ◌∙◌, arith, inl, inr}
use Rattle.std.proofs.lemmas.Bool.{true≢false, cases_Bool}

none_is : {A C : Type 0} (x : A) → (let o : Option A = None in o ≡ Some x) → C
none_is x e = absurd (true≢false (sym (ap is_some e)))

pub first_passes : {X : Type 0} (p : X → Bool) (xs : List X) (i : ℕ) (x : X) → i < length xs → x ≡ get_or xs i x → find p (take i xs) ≡ None → p x ≡ true → Some x ≡ find p xs
first_passes p [] i x inside is none passes = absurd (omega (arith, inside))
first_passes p (y ∷ xs) zero x inside is none passes =
    subst (λ z. Some x ≡ cond (p z) (Some z) (find p xs)) is (ap (λ b. cond b (Some x) (find p xs)) (sym passes))
first_passes p (y ∷ xs) (suc i) x inside is none passes =
    elim (cases_Bool (p y)) [
      | inl hit ↦ none_is y (sym none ∙ ap (λ b. cond b (Some y) (find p (take i xs))) hit)
      | inr miss ↦
          first_passes p xs i x (omega (arith, inside)) is (ap (λ b. cond b (Some y) (find p (take i xs))) (sym miss) ∙ none) passes
          ∙ ap (λ b. cond b (Some y) (find p xs)) (sym miss)
    ]

none_more : {X : Type 0} (p : X → Bool) (xs : List X) (i : ℕ) (x : X) → i < length xs → x ≡ get_or xs i x → find p (take i xs) ≡ None → p x ≡ false → find p (take (suc i) xs) ≡ None
none_more p [] i x inside is none fails = refl
none_more p (y ∷ xs) zero x inside is none fails =
    subst (λ z. cond (p z) (Some z) None ≡ None) is (ap (λ b. cond b (Some x) None) fails)
none_more p (y ∷ xs) (suc i) x inside is none fails =
    elim (cases_Bool (p y)) [
      | inl hit ↦ none_is y (sym none ∙ ap (λ b. cond b (Some y) (find p (take i xs))) hit)
      | inr miss ↦
          ap (λ b. cond b (Some y) (find p (take (suc i) xs))) miss
          ∙ none_more p xs i x (omega (arith, inside)) is (ap (λ b. cond b (Some y) (find p (take i xs))) (sym miss) ∙ none) fails
    ]

pub none_next : {X : Type 0} (p : X → Bool) (xs : List X) (i : ℕ) (x : X) → i < length xs → x ≡ get_or xs i x → find p (take i xs) ≡ None → p x ≡ false → find p (take (i + 1) xs) ≡ None
none_next p xs i x inside is none fails =
    let e : suc i ≡ i + 1 = omega arith in
    subst (λ n. find p (take n xs) ≡ None) e (none_more p xs i x inside is none fails)

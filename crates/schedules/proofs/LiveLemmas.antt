-- The numbers below a count that pass a test: how many they are, and which stands where.
use Rattle.std.proofs.Common.{◌≡◌, ◌∙◌, ℕ, zero, suc, ◌+◌, ◌<◌, List, [], ◌∷◌, ◌++◌, length, Bool, true, false, Some, if◌then◌else◌, refl, sym, ap, subst, arith, ⊎_elim, ◌⊎◌, inl, inr}
use Rattle.std.specs.Prelude.{slice_get}
use Rattle.std.proofs.lemmas.List.{length-append}
use Rattle.interaction.specs.Object.{chosen_below}

next_is : (test : ℕ → Bool) (n : ℕ) (b : Bool) → test n ≡ b → length (chosen_below test (n + 1)) ≡ length (chosen_below test n ++ (if b then n ∷ [] else []))
next_is test n b e = let one : n + 1 ≡ suc n = omega arith in ap (λ k. length (chosen_below test k)) one ∙ ap (λ (d : Bool). length (chosen_below test n ++ (if d then n ∷ [] else []))) e

pub count_one : (test : ℕ → Bool) (n : ℕ) → true ≡ test n → length (chosen_below test (n + 1)) ≡ length (chosen_below test n) + 1
count_one test n e = next_is test n true (sym e) ∙ length-append (chosen_below test n) (n ∷ [])

pub count_none : (test : ℕ → Bool) (n : ℕ) → false ≡ test n → length (chosen_below test (n + 1)) ≡ length (chosen_below test n)
count_none test n e = let more : length (chosen_below test n ++ []) ≡ length (chosen_below test n) + 0 = length-append (chosen_below test n) [] in next_is test n false (sym e) ∙ omega (arith, more)

at_seam : (xs ys : List ℕ) (x : ℕ) → slice_get (xs ++ x ∷ ys) (length xs) ≡ Some x
at_seam [] ys x = refl
at_seam (y ∷ xs) ys x = at_seam xs ys x

in_front : (xs ys : List ℕ) (i x : ℕ) → slice_get xs i ≡ Some x → slice_get (xs ++ ys) i ≡ Some x
in_front [] ys i x e = absurd (cc e)
in_front (y ∷ xs) ys zero x e = e
in_front (y ∷ xs) ys (suc i) x e = in_front xs ys i x e

below_or : (n m : ℕ) → n < suc m → (n < m) ⊎ (n ≡ m)
below_or n zero lt = inr (omega (arith, lt))
below_or zero (suc m) lt = inl (omega arith)
below_or (suc n) (suc m) lt = ⊎_elim (λ (l : n < m). inl (omega (arith, l))) (λ (r : n ≡ m). inr (ap suc r)) (below_or n m (omega (arith, lt)))

-- the number that passes stands behind those below it
pub stands_behind : (test : ℕ → Bool) (n m : ℕ) → n < m → test n ≡ true → slice_get (chosen_below test m) (length (chosen_below test n)) ≡ Some n
stands_behind test n zero lt e = absurd (omega (arith, lt))
stands_behind test n (suc m) lt e = ⊎_elim
    (λ (l : n < m). in_front (chosen_below test m) (if test m then m ∷ [] else []) (length (chosen_below test n)) n (stands_behind test n m l e))
    (λ (r : n ≡ m). subst (λ k. slice_get (chosen_below test (suc k)) (length (chosen_below test n)) ≡ Some n) r (ap (λ (b : Bool). slice_get (chosen_below test n ++ (if b then n ∷ [] else [])) (length (chosen_below test n))) e ∙ at_seam (chosen_below test n) [] n))
    (below_or n m lt)

-- The thread that a number of the schedule chooses lives, and one is chosen where one lives.
use Rattle.std.proofs.Common.{◌≡◌, ℕ, zero, suc, ◌<◌, List, [], ◌∷◌, ◌++◌, length, Some, None, refl, subst, arith, ◌⊎◌, inl, inr, ⊎_elim}
use Rattle.std.proofs.Math.Nat.{mod-lt}
use Rattle.std.specs.Prelude.{Bool, true, false, slice_get, if◌then◌else◌, ◌%◌}
use Rattle.interaction.specs.Object.{Sequential, chosen_below, is_active, live_threads}
use Rattle.interaction.specs.Run.{chosen}

-- an element of two lists stands in one of them
get-append : {A : Type 0} (xs ys : List A) (i : ℕ) (a : A) → slice_get (xs ++ ys) i ≡ Some a → (slice_get xs i ≡ Some a) ⊎ ((j : ℕ) × (slice_get ys j ≡ Some a))
get-append [] ys i a e = inr (i, e)
get-append (x ∷ xs) ys zero a e = inl e
get-append (x ∷ xs) ys (suc i) a e = get-append xs ys i a e

passes_last : (test : ℕ → Bool) (n : ℕ) (b : Bool) → test n ≡ b → (i u : ℕ) → slice_get (if b then n ∷ [] else []) i ≡ Some u → test u ≡ true
passes_last test n true t zero u e = subst (λ v. test v ≡ true) (cc e) t
passes_last test n true t (suc i) u e = absurd (cc e)
passes_last test n false t i u e = absurd (cc e)

-- each of the chosen numbers passes the test
pub chosen_passes : (test : ℕ → Bool) (n i u : ℕ) → slice_get (chosen_below test n) i ≡ Some u → test u ≡ true
chosen_passes test zero i u e = absurd (cc e)
chosen_passes test (suc n) i u e = ⊎_elim (λ l. chosen_passes test n i u l) (λ r. passes_last test n (test n) refl r.0 u r.1) (get-append (chosen_below test n) (if test n then n ∷ [] else []) i u e)

of_list : (ts : List ℕ) (k u : ℕ) → chosen ts k ≡ Some u → (i : ℕ) × (slice_get ts i ≡ Some u)
of_list [] k u e = absurd (cc e)
of_list (t ∷ ts) k u e = (k % length (t ∷ ts), e)

-- who is chosen is active
pub chosen_lives : {R Y X : Type 0} (o : Sequential R Y X) (x : X) (k u : ℕ) → chosen (live_threads o x) k ≡ Some u → is_active o x u ≡ true
chosen_lives o x k u e = let h = of_list (live_threads o x) k u e in chosen_passes (is_active o x) (o.threads x) h.0 u h.1

get_some : {A : Type 0} (xs : List A) (i : ℕ) → i < length xs → slice_get xs i ≡ None → ⊥
get_some [] i lt e = omega arith
get_some (x ∷ xs) zero lt e = cc e
get_some (x ∷ xs) (suc i) lt e = get_some xs i (omega arith) e

-- where nobody is chosen nobody lives
pub chosen_none : (ts : List ℕ) (k : ℕ) → chosen ts k ≡ None → ts ≡ []
chosen_none [] k e = refl
chosen_none (t ∷ ts) k e = let pos : 0 < length (t ∷ ts) = omega arith in absurd (get_some (t ∷ ts) (k % length (t ∷ ts)) (mod-lt k pos) e)

-- The places of a frame, as its stack grows and shrinks: arguments and locals, then the stack, the deepest value first.
use Rattle.std.proofs.Common.{◌≡◌, ◌≢◌, ◌⊎◌, inl, inr, ℕ, zero, suc, List, [], ◌∷◌, ◌++◌, length, slice_get, Some, None, refl, ap, arith}
use Rattle.rgctx_words.specs.Memory.{put}
use Rattle.rgctx_fill.proofs.FrameLemmas.{by_same}

module _ {X : Type 0} where
  last_one : (xs : List X) (v : X) (n : ℕ) → n ≡ length xs → slice_get (xs ++ v ∷ []) n ≡ Some v
  last_one [] v zero is = refl
  last_one [] v (suc n) is = absurd (omega (arith, is))
  last_one (x ∷ xs) v zero is = absurd (omega (arith, is))
  last_one (x ∷ xs) v (suc n) is = last_one xs v n (omega (arith, is))

  other_one : (xs : List X) (v : X) (n : ℕ) → n ≢ length xs → slice_get (xs ++ v ∷ []) n ≡ slice_get xs n
  other_one [] v zero ne = absurd (ne refl)
  other_one [] v (suc n) ne = refl
  other_one (x ∷ xs) v zero ne = refl
  other_one (x ∷ xs) v (suc n) ne = other_one xs v n (λ e. ne (ap suc e))

  -- a value more is one in the next place
  pub at_end : (xs : List X) (v : X) (n : ℕ) → slice_get (xs ++ v ∷ []) n ≡ put (length xs) (Some v) (slice_get xs) n
  at_end xs v n = by_same (λ o. slice_get (xs ++ v ∷ []) n ≡ o) (length xs) n (Some v) (slice_get xs n) (last_one xs v n) (other_one xs v n)

  -- with fewer values each place has the same value or none
  pub front_or_none : (xs ys : List X) (n : ℕ) → (slice_get xs n ≡ slice_get (xs ++ ys) n) ⊎ (slice_get xs n ≡ None)
  front_or_none [] ys n = inr refl
  front_or_none (x ∷ xs) ys zero = inl refl
  front_or_none (x ∷ xs) ys (suc n) = front_or_none xs ys n

-- Items of lists by their places.
use Rattle.std.proofs.Common.{◌≡◌, ℕ, zero, suc, ◌-◌, ◌≢◌, List, [], ◌∷◌, map, Some, slice_get, refl, sym, ap, arith}
use Rattle.std.specs.Prelude.{option_map}

pub got_map : {X Y : Type 0} (f : X → Y) (xs : List X) (i : ℕ) → slice_get (map f xs) i ≡ option_map f (slice_get xs i)
got_map f [] i = refl
got_map f (x ∷ xs) zero = refl
got_map f (x ∷ xs) (suc i) = got_map f xs i

pub got_first : {X : Type 0} (x : X) (xs : List X) → slice_get (x ∷ xs) 0 ≡ Some x
got_first x xs = refl

pub got_later : {X : Type 0} (x : X) (xs : List X) (i : ℕ) → i ≢ 0 → slice_get (x ∷ xs) i ≡ slice_get xs (i - 1)
got_later x xs zero other = absurd (other refl)
got_later x xs (suc i) other = let less : suc i - 1 ≡ i = omega arith in ap (slice_get xs) (sym less)

-- The first place of a list at which a fact holds, step by step.
use Rattle.std.proofs.Common.{◌≡◌, ℕ, ◌+◌, ◌<◌, List, length, slice_index_or, slice_get, Some, inl, inr, subst, arith, refl}
use Rattle.std.proofs.Math.Nat.{eq-or-lt_of_le}
use Rattle.std.proofs.lemmas.Option.{slice_get_read}
use Rattle.il_model.specs.Find.{NoneBefore, IsFirstAt}

one_item : {A : Type 0} (xs : List A) (i j : ℕ) (x y : A) → j ≡ i → slice_get xs i ≡ Some x → slice_get xs j ≡ Some y → y ≡ x
one_item xs i j x y same here there = grind arith

module _ {A : Type 0} (P : A → Type 0) (xs : List A) (i : ℕ) (x : A) (inside : i < length xs) (read : x ≡ slice_index_or xs i x) where
  here : slice_get xs i ≡ Some x
  here = slice_get_read xs (length xs) i x refl inside read

  pub first_at_here : P x → NoneBefore P xs i → IsFirstAt P xs i
  first_at_here holds before = record { item = x; is = here; holds = holds; first = before }

  pub none_before-next : ¬ (P x) → NoneBefore P xs i → NoneBefore P xs (i + 1)
  none_before-next fails before =
      record { none = λ j y below is p. elim (eq-or-lt_of_le {n = j} {m = i} (omega (arith, below))) [ inl same ↦ fails (subst P (one_item xs i j x y same here is) p) | inr earlier ↦ before.none j y earlier is p ] }

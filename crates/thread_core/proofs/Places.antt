-- Lists in which one item was replaced, or one put at the end.
use Rattle.std.proofs.Common.{◌≡◌, ◌≢◌, ◌∙◌, ⊎_elim, ℕ, ◌+◌, ◌<◌, ◌≤◌, List, [], ◌∷◌, ◌++◌, length, Bool, true, false, Some, slice_get, slice_set, nat_le, ◌==◌, if◌then◌else◌, refl, sym, ap, eqb-true, arith, length-append, length-set}
use Rattle.std.proofs.lemmas.List.{get_or-set_other, get_or-set_same, get_or_append_left, get_or_push}
use Rattle.std.proofs.lemmas.Option.{slice_get-get_or, slice_get_past}
use Rattle.std.proofs.lemmas.Bool.{eqb-false}
use Rattle.std.proofs.lemmas.Bool.Decides.{leb_tells}

pub get-set : {X : Type 0} (xs : List X) (u v : ℕ) (x : X) → u < length xs → slice_get (slice_set xs u x) v ≡ (if v == u then Some x else slice_get xs v)
get-set xs u v x inside = by_test (v == u) refl
  where
    same : v ≡ u → slice_get (slice_set xs u x) v ≡ Some x
    same e =
        let within : u < length (slice_set xs u x) = omega (arith, inside, length-set xs u x) in
        ap (slice_get (slice_set xs u x)) e ∙ slice_get-get_or (slice_set xs u x) u x within ∙ ap Some (get_or-set_same xs u x x inside)

    past : length xs ≤ v → slice_get (slice_set xs u x) v ≡ slice_get xs v
    past h =
        let there : length (slice_set xs u x) ≤ v = omega (arith, h, length-set xs u x) in
        slice_get_past (slice_set xs u x) v there ∙ sym (slice_get_past xs v h)

    within : (v ≡ u → ⊥) → v < length xs → slice_get (slice_set xs u x) v ≡ slice_get xs v
    within differ h =
        let there : v < length (slice_set xs u x) = omega (arith, h, length-set xs u x) in
        slice_get-get_or (slice_set xs u x) v x there ∙ ap Some (get_or-set_other xs u v x x differ) ∙ sym (slice_get-get_or xs v x h)

    by_test : (b : Bool) → (v == u) ≡ b → slice_get (slice_set xs u x) v ≡ (if b then Some x else slice_get xs v)
    by_test true e = same (eqb-true v u e)
    by_test false e = ⊎_elim (λ (h : (nat_le (length xs) v ≡ true) × (length xs ≤ v)). past h.1) (λ (h : (nat_le (length xs) v ≡ false) × (v < length xs)). within (eqb-false v u e) h.1) (leb_tells (length xs) v)

pub get-push : {X : Type 0} (xs : List X) (v : ℕ) (x : X) → slice_get (xs ++ x ∷ []) v ≡ (if v == length xs then Some x else slice_get xs v)
get-push xs v x = by_test (v == length xs) refl
  where
    count : length (xs ++ x ∷ []) ≡ length xs + 1
    count = length-append xs (x ∷ [])

    same : v ≡ length xs → slice_get (xs ++ x ∷ []) v ≡ Some x
    same e =
        let within : v < length (xs ++ x ∷ []) = omega (arith, e, count) in
        slice_get-get_or (xs ++ x ∷ []) v x within ∙ ap Some (get_or_push xs x x v (sym e))

    past : (v ≡ length xs → ⊥) → length xs ≤ v → slice_get (xs ++ x ∷ []) v ≡ slice_get xs v
    past differ h =
        let other : v ≢ length xs = differ in
        let there : length (xs ++ x ∷ []) ≤ v = grind (arith, other, h, count) in
        slice_get_past (xs ++ x ∷ []) v there ∙ sym (slice_get_past xs v h)

    within : v < length xs → slice_get (xs ++ x ∷ []) v ≡ slice_get xs v
    within h =
        let there : v < length (xs ++ x ∷ []) = omega (arith, h, count) in
        slice_get-get_or (xs ++ x ∷ []) v x there ∙ ap Some (get_or_append_left xs (x ∷ []) x v h) ∙ sym (slice_get-get_or xs v x h)

    by_test : (b : Bool) → (v == length xs) ≡ b → slice_get (xs ++ x ∷ []) v ≡ (if b then Some x else slice_get xs v)
    by_test true e = same (eqb-true v (length xs) e)
    by_test false e = ⊎_elim (λ (h : (nat_le (length xs) v ≡ true) × (length xs ≤ v)). past (eqb-false v (length xs) e) h.1) (λ (h : (nat_le (length xs) v ≡ false) × (v < length xs)). within h.1) (leb_tells (length xs) v)

-- What digits give.
use Rattle.std.proofs.Common.{◌≡◌, ◌<◌, ◌≤◌, ◌+◌, ◌*◌, ℕ, suc, List, [], ◌∷◌, length, get_or, drop, sym, ap, ◌∙◌, arith, drop-cons}
use Rattle.std.specs.Prelude.{fold}
use Rattle.il_text.specs.Spelling.{digit_value, digits_value}

at_least : (base v d : ℕ) → 0 < base → v ≤ base * v + d
at_least base v d l = grind arith

-- further digits give no less
pub digits_grow : (base v : ℕ) (ds : List ℕ) → 0 < base → v ≤ fold (λ value d. base * value + digit_value d) v ds
digits_grow base v [] l = omega arith
digits_grow base v (d ∷ ds) l = omega (arith, at_least base v (digit_value d) l, digits_grow base (base * v + digit_value d) ds l)

-- digits that are past a bound stay past it
pub digits_past : (base value i most : ℕ) (digits : List ℕ) → 0 < base → i < length digits → fold (λ value d. base * value + digit_value d) value (drop i digits) ≡ digits_value base digits → most < base * value + digit_value (get_or digits i 0) → most < digits_value base digits
digits_past base value i most digits l h same past =
    let front : drop i digits ≡ get_or digits i 0 ∷ drop (suc i) digits = drop-cons digits i 0 h in
    let step : fold (λ value d. base * value + digit_value d) (base * value + digit_value (get_or digits i 0)) (drop (suc i) digits) ≡ digits_value base digits =
    sym (ap (fold (λ value d. base * value + digit_value d) value) front) ∙ same in
    omega (arith, past, step, digits_grow base (base * value + digit_value (get_or digits i 0)) (drop (suc i) digits) l)

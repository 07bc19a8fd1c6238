-- Lemmas on the word that spells a number of turns.
use Rattle.std.proofs.Common.{◌≡◌, ℕ, zero, suc, ◌≤◌, ◌<◌, ◌^◌, List, [], ◌∷◌, length, get_or, Result, Ok, Err, false, refl, sym, ap, ◌∙◌, subst, arith, drop}
use Rattle.std.specs.Prelude.{◌==◌, cond, slice_index}
use Rattle.std.specs.Fmt.{decimal}
use Rattle.std.specs.Str.Parse.{AllDigits, ParsesUnsigned, digits_value, without_leading_plus}
use Rattle.std.proofs.lemmas.Str.Parse.{IsNumeralModel, parse_gives, digit_from_value}
use Rattle.std.proofs.lemmas.Fmt.{digits_decimal, digits_value-decimal, decimal-digits_value, first_decimal, decimal_digit}
use Rattle.run_top.specs.Command.{SpellsTurns}

own : IsNumeralModel (AllDigits 10) (digits_value 10)
own = record { to = λ ds digits. digits; from = λ ds digits. digits; same = λ ds digits. refl }

first_is_digit : (ds : List ℕ) → AllDigits 10 ds → 48 < get_or ds 0 0 → (49 ≤ get_or ds 0 0) × (get_or ds 0 0 ≤ 57)
first_is_digit [] digits above = absurd (omega (arith, above))
first_is_digit (d ∷ ds) digits above =
    let range = digit_from_value d digits.0 in
    (omega (arith, above), range.1)

-- such a word begins with a digit other than 0
pub spelled-begins : (word : List ℕ) (turns : ℕ) → SpellsTurns word turns → (49 ≤ slice_index word 0) × (slice_index word 0 ≤ 57)
spelled-begins word turns spells =
    let fits : turns < 2 ^ 64 = omega (arith, spells.high) in
    let first = first_decimal turns (omega (arith, spells.low)) fits in
    let begins = first_is_digit (decimal turns) (digits_decimal own turns fits) first in
    subst (λ ds. (49 ≤ get_or ds 0 0) × (get_or ds 0 0 ≤ 57)) (sym spells.digits) begins

not_empty : (ds : List ℕ) → 49 ≤ get_or ds 0 0 → 0 < length ds
not_empty [] begins = absurd (omega (arith, begins))
not_empty (d ∷ ds) begins = omega arith

-- and reads as its number
pub spelled-reads : {E : Type 0} (word : List ℕ) (turns : ℕ) (r : Result ℕ E) → SpellsTurns word turns → ParsesUnsigned 32 10 word r → r ≡ Ok turns
spelled-reads word turns r spells parsed =
    let fits : turns < 2 ^ 64 = omega (arith, spells.high) in
    let value : digits_value 10 word ≡ turns = ap (digits_value 10) spells.digits ∙ digits_value-decimal own turns fits in
    let digits : AllDigits 10 word = subst (AllDigits 10) (sym spells.digits) (digits_decimal own turns fits) in
    parse_gives own 32 word r parsed digits (not_empty word (spelled-begins word turns spells).0) (omega (arith, value, spells.high)) ∙ ap Ok value

pub ok_same : {E : Type 0} (r : Result ℕ E) (a b : ℕ) → r ≡ Ok a → r ≡ Ok b → a ≡ b
ok_same r a b one other = cc

no_plus : (d : ℕ) → 49 ≤ d → (d == 43) ≡ false
no_plus d above = grind arith

at_least_one : (turns d : ℕ) (ds : List ℕ) → decimal turns ≡ d ∷ ds → 49 ≤ d → 1 ≤ turns
at_least_one zero d ds is above =
    let zero_digit : decimal 0 ≡ 48 ∷ [] = decimal_digit 0 (omega arith) in
    absurd (omega (arith, above, ap (λ l. get_or l 0 0) (sym zero_digit ∙ is)))
at_least_one (suc turns) d ds is above = omega arith

-- a word that begins so, and reads as a number in range, spells it
pub reads-spelled : {E : Type 0} (word : List ℕ) (turns : ℕ) (r : Result ℕ E) → 49 ≤ slice_index word 0 → turns ≤ 4000000
    → ParsesUnsigned 32 10 word r → r ≡ Ok turns → SpellsTurns word turns
reads-spelled [] turns r begins most parsed is = absurd (omega (arith, begins))
reads-spelled (d ∷ ds) turns (Err e) begins most parsed is = cc
reads-spelled (d ∷ ds) turns (Ok read) begins most parsed is =
    let same : without_leading_plus (d ∷ ds) ≡ d ∷ ds = ap (λ b. drop (cond b 1 0) (d ∷ ds)) (no_plus d begins) in
    let digits : AllDigits 10 (d ∷ ds) = subst (AllDigits 10) same parsed.0.0.1 in
    let value : digits_value 10 (d ∷ ds) ≡ turns = sym (ap (digits_value 10) same) ∙ sym parsed.1 ∙ ok_same (Ok read) read turns refl is in
    let back : decimal (digits_value 10 (d ∷ ds)) ≡ d ∷ ds =
    decimal-digits_value own (d ∷ ds) digits (omega arith) (λ zero. absurd (omega (arith, begins, zero))) (omega (arith, value, most)) in
    let spells : d ∷ ds ≡ decimal turns = sym back ∙ ap decimal value in
    record { digits = spells; low = at_least_one turns d ds (sym spells) begins; high = most }

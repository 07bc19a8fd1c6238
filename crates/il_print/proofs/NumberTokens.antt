-- Decimal numbers, labels and type variables as tokens.
use Rattle.std.proofs.Common.{◌≡◌, ℕ, zero, suc, ◌+◌, ◌*◌, ◌/◌, ◌%◌, ◌^◌, ◌<◌, ◌≤◌, ◌==◌, Bool, true, false, ℤ, pos, negsuc, List, [], ◌∷◌, ◌++◌, length, Some, None, codes, refl, sym, ap, ◌∙◌, arith, eqb-true, if◌then◌else◌}
use Rattle.std.specs.Prelude.{decimal, option_and_then, unwrap_or}
use Rattle.std.specs.List.{list_all}
use Rattle.std.specs.Fmt.{digits, digits_onto, digit_glyph, signed_decimal}
use Rattle.std.specs.Int.Signed.{mag}
use Rattle.std.proofs.lemmas.Bool.{true≢false, and_parts, and_from, or_left, or_right, agree_below_at, false_from_ne_true, both_ways}
use Rattle.std.proofs.lemmas.Fmt.{decimal_by_steps}
use Rattle.std.proofs.lemmas.List.Sums.{fold-append}
use Rattle.il_text.specs.declared.token.TokenKind.TheVariants as token
use Rattle.il_text.specs.Bytes.{is_digit, is_word_start, is_word_byte}
use Rattle.il_text.specs.Spelling.{is_run, is_unsigned, is_hexadecimal, is_negative, is_class_variable, is_method_variable, digit_value, digits_value, after_byte, value_of, unsigned_value, magnitude_of}
use Rattle.il_model.specs.Canonical.{label_text}
use Rattle.il_print.proofs.TokenReads.{IsToken}

-- ---- digits

glyph_is_digit : (d : ℕ) → d < 10 → is_digit (digit_glyph false d) ≡ true
glyph_is_digit d low = agree_below_at (λ d. is_digit (digit_glyph false d)) (λ d. true) 10 d refl low

either_run : (t : Bool) (xs ys : List ℕ) → is_run is_digit xs ≡ true → is_run is_digit ys ≡ true → is_run is_digit (if t then xs else ys) ≡ true
either_run true xs ys e f = e
either_run false xs ys e f = f

more_run : (n : ℕ) (acc : List ℕ) → list_all is_digit acc ≡ true → is_run is_digit (digit_glyph false (n % 10) ∷ acc) ≡ true
more_run n acc e =
    let low : n % 10 < 10 = omega arith in
    and_from (is_digit (digit_glyph false (n % 10))) (list_all is_digit acc) (glyph_is_digit (n % 10) low) e

pub run_all : (ds : List ℕ) → is_run is_digit ds ≡ true → list_all is_digit ds ≡ true
run_all [] e = refl
run_all (d ∷ ds) e = e

onto_run : (k n : ℕ) (acc : List ℕ) → is_run is_digit acc ≡ true → is_run is_digit (digits_onto k 10 false n acc) ≡ true
onto_run zero n acc e = e
onto_run (suc k) n acc e =
    let one = more_run n acc (run_all acc e) in
    either_run (n / 10 == 0) (digit_glyph false (n % 10) ∷ acc) (digits_onto k 10 false (n / 10) (digit_glyph false (n % 10) ∷ acc)) one
    (onto_run k (n / 10) (digit_glyph false (n % 10) ∷ acc) one)

-- however large the number is
pub decimal_run : (n : ℕ) → is_run is_digit (decimal n) ≡ true
unfolding digits
decimal_run n =
    let one = more_run n [] refl in
    either_run (n / 10 == 0) (digit_glyph false (n % 10) ∷ []) (digits_onto 63 10 false (n / 10) (digit_glyph false (n % 10) ∷ [])) one
    (onto_run 63 (n / 10) (digit_glyph false (n % 10) ∷ []) one)

either_short : (t : Bool) (xs ys : List ℕ) (most : ℕ) → length xs ≤ most → length ys ≤ most → length (if t then xs else ys) ≤ most
either_short true xs ys most e f = e
either_short false xs ys most e f = f

onto_short : (k n : ℕ) (acc : List ℕ) → length (digits_onto k 10 false n acc) ≤ k + length acc
onto_short zero n acc = omega arith
onto_short (suc k) n acc =
    let more = digit_glyph false (n % 10) ∷ acc in
    let size : length more ≡ suc (length acc) = refl in
    let later = onto_short k (n / 10) more in
    either_short (n / 10 == 0) more (digits_onto k 10 false (n / 10) more) (suc k + length acc) (omega arith) (omega (arith, later))

pub decimal_short : (n : ℕ) → length (decimal n) ≤ 64
unfolding digits
decimal_short n =
    let one = digit_glyph false (n % 10) ∷ [] in
    let size : length one ≡ 1 = refl in
    let later = onto_short 63 (n / 10) one in
    either_short (n / 10 == 0) one (digits_onto 63 10 false (n / 10) one) 64 (omega arith) (omega (arith, later))

digit_value-glyph : (d : ℕ) → d < 10 → (digit_value (48 + d) == d) ≡ true
digit_value-glyph d low = agree_below_at (λ d. digit_value (48 + d) == d) (λ d. true) 10 d refl low

abbrev next_digit : ℕ → ℕ → ℕ
next_digit value d = 10 * value + digit_value d

-- the digits give the number
pub decimal_value : (n : ℕ) → n < 2 ^ 64 → digits_value 10 (decimal n) ≡ n
decimal_value =
    decimal_by_steps (λ n ds. digits_value 10 ds ≡ n)
    (λ n low. let last = eqb-true (digit_value (48 + n)) n (digit_value-glyph n low) in ap (λ d. 10 * 0 + d) last ∙ omega arith)
    (λ n ds high so_far.
    let low : n % 10 < 10 = omega arith in
    let last = eqb-true (digit_value (48 + n % 10)) (n % 10) (digit_value-glyph (n % 10) low) in
    let whole : 10 * (n / 10) + n % 10 ≡ n = omega arith in
    fold-append next_digit 0 ds ((48 + n % 10) ∷ []) ∙ (λ i. 10 * so_far i + last i) ∙ whole)

-- ---- numbers

pub no_digit : (b n : ℕ) → is_digit b ≡ true → is_digit n ≡ false → (b == n) ≡ false
no_digit b n e f = false_from_ne_true (b == n) (λ same. both_ways (is_digit n) f (ap is_digit (sym (eqb-true b n same)) ∙ e))

no_byte : (b n : ℕ) (bs : List ℕ) → (b == n) ≡ false → after_byte n (b ∷ bs) ≡ None
no_byte b n bs e = ap (λ t. if t then Some bs else None) e

no_x : (bs : List ℕ) → list_all is_digit bs ≡ true → after_byte 120 bs ≡ None
no_x [] e = refl
no_x (b ∷ bs) e = no_byte b 120 bs (no_digit b 120 (and_parts (is_digit b) (list_all is_digit bs) e).0 refl)

no_0x : (t : Bool) (bs : List ℕ) → list_all is_digit bs ≡ true → option_and_then (after_byte 120) (if t then Some bs else None) ≡ None
no_0x true bs e = no_x bs e
no_0x false bs e = refl

pub digits_unsigned : (ds : List ℕ) → is_run is_digit ds ≡ true → unsigned_value ds ≡ digits_value 10 ds
digits_unsigned [] e = absurd (true≢false (sym e))
digits_unsigned (d ∷ ds) e = ap (λ o. value_of o (d ∷ ds)) (no_0x (d == 48) ds (and_parts (is_digit d) (list_all is_digit ds) e).1)

pub digits_magnitude : (ds : List ℕ) → is_run is_digit ds ≡ true → magnitude_of ds ≡ digits_value 10 ds
digits_magnitude [] e = absurd (true≢false (sym e))
digits_magnitude (d ∷ ds) e =
    ap (λ o. unsigned_value (unwrap_or o (d ∷ ds))) (no_byte d 45 ds (no_digit d 45 (and_parts (is_digit d) (list_all is_digit ds) e).0 refl))
    ∙ digits_unsigned (d ∷ ds) e

-- a list with a first byte, which bytes that pass a test on runs have
record HasFirst (ds : List ℕ) : Type 0 where
  first : ℕ
  rest : List ℕ
  is : ds ≡ first ∷ rest

run_first : (ds : List ℕ) → is_run is_digit ds ≡ true → HasFirst ds
run_first [] e = absurd (true≢false (sym e))
run_first (d ∷ ds) e = record { first = d; rest = ds; is = refl }

pub number_token : (n : ℕ) → n < 2 ^ 64 → IsToken token.Number (decimal n)
number_token n low =
    let run = decimal_run n in
    let has = run_first (decimal n) run in
    let value : magnitude_of (decimal n) ≡ n = digits_magnitude (decimal n) run ∙ decimal_value n low in
    record {
      first = has.first;
      rest = has.rest;
      is = has.is;
      spelled = or_left (is_unsigned (decimal n)) (is_negative (decimal n)) (or_left (is_run is_digit (decimal n)) (is_hexadecimal (decimal n)) run);
      within = omega (arith, value);
    }

pub signed_token : (z : ℤ) → mag z < 2 ^ 63 → IsToken token.Number (signed_decimal z)
signed_token (pos n) low = number_token n (omega arith)
signed_token (negsuc n) low =
    let run = decimal_run (suc n) in
    let value : magnitude_of (45 ∷ decimal (suc n)) ≡ suc n = digits_unsigned (decimal (suc n)) run ∙ decimal_value (suc n) (omega arith) in
    record {
      first = 45;
      rest = decimal (suc n);
      is = refl;
      spelled = or_right (is_unsigned (45 ∷ decimal (suc n))) (is_negative (45 ∷ decimal (suc n)))
          (or_left (is_run is_digit (decimal (suc n))) (is_hexadecimal (decimal (suc n))) run);
      within = omega (arith, value);
    }

-- ---- variables and labels

pub class_variable_token : (n : ℕ) → IsToken token.Variable (codes "!" ++ decimal n)
class_variable_token n =
    record {
      first = 33;
      rest = decimal n;
      is = refl;
      spelled = or_left (is_class_variable (33 ∷ decimal n)) (is_method_variable (33 ∷ decimal n)) (decimal_run n);
      within = tt;
    }

pub method_variable_token : (n : ℕ) → IsToken token.Variable (codes "!!" ++ decimal n)
method_variable_token n =
    record {
      first = 33;
      rest = 33 ∷ decimal n;
      is = refl;
      spelled = or_right (is_class_variable (33 ∷ 33 ∷ decimal n)) (is_method_variable (33 ∷ 33 ∷ decimal n)) (decimal_run n);
      within = tt;
    }

digits_in_word : (ds : List ℕ) → list_all is_digit ds ≡ true → list_all is_word_byte ds ≡ true
digits_in_word [] e = refl
digits_in_word (d ∷ ds) e =
    let parts = and_parts (is_digit d) (list_all is_digit ds) e in
    and_from (is_word_byte d) (list_all is_word_byte ds) (or_right (is_word_start d) (is_digit d) parts.0) (digits_in_word ds parts.1)

numbered_word : (n : ℕ) → IsToken token.Word (codes "L" ++ decimal n)
numbered_word n =
    let short = decimal_short n in
    let size : length (76 ∷ decimal n) ≡ suc (length (decimal n)) = refl in
    record {
      first = 76;
      rest = decimal n;
      is = refl;
      spelled = digits_in_word (decimal n) (run_all (decimal n) (decimal_run n));
      within = omega (arith, short, size);
    }

pub label_token : (places : List ℕ) (to : ℕ) → IsToken token.Word (label_text places to)
label_token places to = numbered_word _

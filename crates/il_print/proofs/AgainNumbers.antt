-- Numbers and literals of a canonical text have the values that were printed.
use Rattle.std.proofs.Common.{◌≡◌, ℕ, zero, suc, ◌+◌, ◌-◌, ◌^◌, ◌<◌, ◌≤◌, ◌==◌, ◌&&◌, ◌||◌, Bool, true, false, if◌then◌else◌, nat_le, nat_lt, ℤ, pos, negsuc, neg_ℤ, List, [], ◌∷◌, ◌++◌, length, take, flat_map, Option, Some, None, refl, sym, ap, ◌∙◌, subst, decimal, arith, unwrap_or, is_some, lt-ltb, inl, inr, length-append}
use Rattle.std.specs.List.{list_all}
use Rattle.std.specs.Fmt.{signed_decimal}
use Rattle.std.specs.Int.{Width, w32, w64, cast_signed}
use Rattle.std.specs.Int.Signed.{mag}
use Rattle.std.proofs.Math.Facts.{sfits_to_z}
use Rattle.std.proofs.lemmas.Bool.{true≢false, cases_Bool, and_parts, ltb-true, leb-true, le-leb, eqb-true}
use Rattle.il_text.specs.Bytes.{is_digit, is_hex_digit}
use Rattle.il_text.specs.Spelling.{is_run, is_led_by, is_unsigned, is_hexadecimal, is_negative, magnitude_of}
use Rattle.il_model.specs.Literals.{signed_literal, int32_value, int64_value, place_value, escaped_byte, unescaped, text_value}
use Rattle.il_model.specs.Canonical.{escaped, literal_text}
use Rattle.il_print.proofs.NumberTokens.{decimal_run, decimal_value, digits_magnitude, digits_unsigned, no_digit}

-- ---- which numbers a text gives

-- a number, by what its spelling is
abbrev by_tests : Width → ℕ → Bool → Bool → ℕ → Option ℤ
by_tests width size negative hexadecimal m =
    if negative then (if nat_le m (2 ^ (size - 1)) then Some (neg_ℤ (pos m)) else None)
    else (if hexadecimal
    then (if nat_lt m (2 ^ size) then Some (cast_signed width m) else None)
    else (if nat_lt m (2 ^ (size - 1)) then Some (pos m) else None))

some_if : (b : Bool) (x n : ℤ) → (if b then Some x else None) ≡ Some n → (b ≡ true) × (x ≡ n)
some_if true x n e = (refl, ap (λ o. unwrap_or o x) e)
some_if false x n e = absurd (true≢false (sym (ap is_some e)))

negative_low : (m most : ℕ) → m ≤ most → 0 < most → mag (neg_ℤ (pos m)) < most
negative_low zero most low some = some
negative_low (suc m) most low some = omega (arith, low)

tests_low : (width : Width) (size : ℕ) → ((m : ℕ) → m < 2 ^ size → mag (cast_signed width m) < 2 ^ (size - 1)) → 0 < 2 ^ (size - 1) → (negative hexadecimal : Bool) (m : ℕ) (n : ℤ) →
    by_tests width size negative hexadecimal m ≡ Some n → mag n < 2 ^ (size - 1)
tests_low width size fit some true hexadecimal m n e =
    let r = some_if (nat_le m (2 ^ (size - 1))) (neg_ℤ (pos m)) n e in
    subst (λ z. mag z < 2 ^ (size - 1)) r.1 (negative_low m (2 ^ (size - 1)) (leb-true m (2 ^ (size - 1)) r.0) some)
tests_low width size fit some false true m n e =
    let r = some_if (nat_lt m (2 ^ size)) (cast_signed width m) n e in
    subst (λ z. mag z < 2 ^ (size - 1)) r.1 (fit m (ltb-true m (2 ^ size) r.0))
tests_low width size fit some false false m n e =
    let r = some_if (nat_lt m (2 ^ (size - 1))) (pos m) n e in
    subst (λ z. mag z < 2 ^ (size - 1)) r.1 (ltb-true m (2 ^ (size - 1)) r.0)

pub int32_low : (bytes : List ℕ) (n : ℤ) → int32_value bytes ≡ Some n → mag n < 2 ^ 31
int32_low bytes n e = tests_low w32 32 (λ m low. (sfits_to_z {w = w32} {n = m} (record { fits = low })).sfits) (omega arith) (is_negative bytes) (is_hexadecimal bytes) (magnitude_of bytes) n e

pub int64_low : (bytes : List ℕ) (n : ℤ) → int64_value bytes ≡ Some n → mag n < 2 ^ 63
int64_low bytes n e = tests_low w64 64 (λ m low. (sfits_to_z {w = w64} {n = m} (record { fits = low })).sfits) (omega arith) (is_negative bytes) (is_hexadecimal bytes) (magnitude_of bytes) n e

-- ---- decimal digits give the number

digits_no_sign : (ds : List ℕ) → is_run is_digit ds ≡ true → is_negative ds ≡ false
digits_no_sign [] e = refl
digits_no_sign (d ∷ ds) e = ap (λ t. t && is_unsigned ds) (no_digit d 45 (and_parts (is_digit d) (list_all is_digit ds) e).0 refl)

no_mark_x : (ds : List ℕ) → list_all is_digit ds ≡ true → is_led_by 120 (is_run is_hex_digit) ds ≡ false
no_mark_x [] e = refl
no_mark_x (d ∷ ds) e = ap (λ t. t && is_run is_hex_digit ds) (no_digit d 120 (and_parts (is_digit d) (list_all is_digit ds) e).0 refl)

and_no : (a b : Bool) → b ≡ false → (a && b) ≡ false
and_no true b e = e
and_no false b e = refl

digits_decimal : (ds : List ℕ) → is_run is_digit ds ≡ true → is_hexadecimal ds ≡ false
digits_decimal [] e = refl
digits_decimal (d ∷ ds) e = and_no (d == 48) (is_led_by 120 (is_run is_hex_digit) ds) (no_mark_x ds (and_parts (is_digit d) (list_all is_digit ds) e).1)

decimal_magnitude : (n : ℕ) → n < 2 ^ 64 → magnitude_of (decimal n) ≡ n
decimal_magnitude n low = digits_magnitude (decimal n) (decimal_run n) ∙ decimal_value n low

digits_are_number : (ds : List ℕ) → is_run is_digit ds ≡ true → is_unsigned ds ≡ true
digits_are_number ds e = ap (λ t. t || is_hexadecimal ds) e

signed_again : (width : Width) (size : ℕ) (z : ℤ) → mag z < 2 ^ (size - 1) → mag z < 2 ^ 63 → signed_literal width size (signed_decimal z) ≡ Some z
signed_again width size (pos n) low within =
    ap (λ t. by_tests width size t (is_hexadecimal (decimal n)) (magnitude_of (decimal n))) (digits_no_sign (decimal n) (decimal_run n))
    ∙ ap (λ t. by_tests width size false t (magnitude_of (decimal n))) (digits_decimal (decimal n) (decimal_run n))
    ∙ ap (λ m. by_tests width size false false m) (decimal_magnitude n (omega (arith, within)))
    ∙ ap (λ t. if t then Some (pos n) else None) (lt-ltb n (2 ^ (size - 1)) low)
signed_again width size (negsuc n) low within =
    let value : magnitude_of (45 ∷ decimal (suc n)) ≡ suc n =
    digits_unsigned (decimal (suc n)) (decimal_run (suc n)) ∙ decimal_value (suc n) (omega (arith, within))
    in
    ap (λ t. by_tests width size t (is_hexadecimal (45 ∷ decimal (suc n))) (magnitude_of (45 ∷ decimal (suc n)))) (digits_are_number (decimal (suc n)) (decimal_run (suc n)))
    ∙ ap (λ m. by_tests width size true (is_hexadecimal (45 ∷ decimal (suc n))) m) value
    ∙ ap (λ t. if t then Some (negsuc n) else None) (le-leb (suc n) (2 ^ (size - 1)) low)

pub int32_again : (z : ℤ) → mag z < 2 ^ 31 → int32_value (signed_decimal z) ≡ Some z
int32_again z low = signed_again w32 32 z low (omega (arith, low))

pub int64_again : (z : ℤ) → mag z < 2 ^ 63 → int64_value (signed_decimal z) ≡ Some z
int64_again z low = signed_again w64 64 z low low

pub place_again : (n : ℕ) → n < 2 ^ 64 → place_value (decimal n) ≡ Some n
place_again n low =
    ap (λ t. if t then None else Some (magnitude_of (decimal n))) (digits_no_sign (decimal n) (decimal_run n)) ∙ ap Some (decimal_magnitude n low)

-- ---- literals

abbrev escaped_by : Bool → Bool → Bool → ℕ → List ℕ
escaped_by newline tab marked b = if newline then 92 ∷ 110 ∷ [] else (if tab then 92 ∷ 116 ∷ [] else (if marked then 92 ∷ b ∷ [] else b ∷ []))

-- an escaped byte before others
unescaped_one : (b : ℕ) (rest : List ℕ) → unescaped false (escaped b ++ rest) ≡ b ∷ unescaped false rest
unescaped_one b rest =
    elim (cases_Bool (b == 10)) [
      | inl newline ↦
          ap (λ t. unescaped false (escaped_by t (b == 9) ((b == 34) || (b == 92)) b ++ rest)) newline ∙ ap (λ n. n ∷ unescaped false rest) (sym (eqb-true b 10 newline))
      | inr other ↦
          ap (λ t. unescaped false (escaped_by t (b == 9) ((b == 34) || (b == 92)) b ++ rest)) other
          ∙ elim (cases_Bool (b == 9)) [
            | inl tab ↦
                ap (λ t. unescaped false (escaped_by false t ((b == 34) || (b == 92)) b ++ rest)) tab ∙ ap (λ n. n ∷ unescaped false rest) (sym (eqb-true b 9 tab))
            | inr no_tab ↦
                ap (λ t. unescaped false (escaped_by false t ((b == 34) || (b == 92)) b ++ rest)) no_tab
                ∙ elim (cases_Bool (b == 34)) [
                  | inl quote ↦
                      ap (λ t. unescaped false (escaped_by false false (t || (b == 92)) b ++ rest)) quote
                      ∙ ap (λ n. escaped_byte n ∷ unescaped false rest) (eqb-true b 34 quote) ∙ ap (λ n. n ∷ unescaped false rest) (sym (eqb-true b 34 quote))
                  | inr no_quote ↦
                      ap (λ t. unescaped false (escaped_by false false (t || (b == 92)) b ++ rest)) no_quote
                      ∙ elim (cases_Bool (b == 92)) [
                        | inl back ↦
                            ap (λ t. unescaped false (escaped_by false false t b ++ rest)) back
                            ∙ ap (λ n. escaped_byte n ∷ unescaped false rest) (eqb-true b 92 back) ∙ ap (λ n. n ∷ unescaped false rest) (sym (eqb-true b 92 back))
                        | inr plain ↦
                            ap (λ t. unescaped false (escaped_by false false t b ++ rest)) plain
                            ∙ ap (λ t. if t then unescaped true rest else b ∷ unescaped false rest) plain
                      ]
                ]
          ]
    ]

unescaped_all : (bytes : List ℕ) → unescaped false (flat_map escaped bytes) ≡ bytes
unescaped_all [] = refl
unescaped_all (b ∷ bs) = unescaped_one b (flat_map escaped bs) ∙ ap (λ z. b ∷ z) (unescaped_all bs)

take_front : (xs ys : List ℕ) (n : ℕ) → n ≡ length xs → take n (xs ++ ys) ≡ xs
take_front [] ys zero e = refl
take_front [] ys (suc n) e = absurd (omega (arith, e))
take_front (x ∷ xs) ys zero e = absurd (omega (arith, e))
take_front (x ∷ xs) ys (suc n) e = ap (λ z. x ∷ z) (take_front xs ys n (omega (arith, e)))

-- what was printed as a literal is what the literal holds
pub text_again : (bytes : List ℕ) → text_value (literal_text bytes) ≡ bytes
text_again bytes =
    let inner = flat_map escaped bytes in
    let joined : length (inner ++ 34 ∷ []) ≡ length inner + 1 = length-append inner (34 ∷ []) in
    let whole : length (34 ∷ inner ++ 34 ∷ []) ≡ suc (length (inner ++ 34 ∷ [])) = refl in
    let size : length (34 ∷ inner ++ 34 ∷ []) - 2 ≡ length inner = omega (arith, whole, joined) in
    ap (unescaped false) (take_front inner (34 ∷ []) (length (34 ∷ inner ++ 34 ∷ []) - 2) size) ∙ unescaped_all bytes

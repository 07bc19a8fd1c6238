-- What each kind of token spells. This project's own.
use Rattle.std.specs.Prelude.{ℕ, ◌+◌, ◌*◌, ◌-◌, ◌^◌, ◌≤◌, nat_le, ◌==◌, ◌&&◌, ◌||◌, if◌then◌else◌, Bool, false, List, [], ◌∷◌, length, codes, fold, Option, Some, None, option_and_then, unwrap_or, ⊤}
use Rattle.std.specs.List.{list_all, list_any}
use Rattle.std.specs.Str.{bytes_eq}
use Rattle.il_text.specs.declared.token.TokenKind.{TokenKind}
use Rattle.il_text.specs.declared.token.TokenKind.TheVariants.{Word, Variable, Number, Text, Mark}
use Rattle.il_text.specs.Bytes.{is_digit, is_hex_digit, is_word_start, is_word_byte, is_plain, is_escape}

-- this byte, and then bytes that pass the test
abbrev pub is_led_by : ℕ → (List ℕ → Bool) → List ℕ → Bool
is_led_by first rest [] = false
is_led_by first rest (b ∷ bs) = (b == first) && rest bs

-- one byte or more, each of which passes the test
abbrev pub is_run : (ℕ → Bool) → List ℕ → Bool
is_run test [] = false
is_run test (b ∷ bs) = test b && list_all test bs

-- a letter, `_` or `.`, then letters, digits, `_` and `.`
abbrev pub is_word : List ℕ → Bool
is_word [] = false
is_word (b ∷ bs) = is_word_start b && list_all is_word_byte bs

-- `!`, then digits
abbrev pub is_class_variable : List ℕ → Bool
is_class_variable bytes = is_led_by 33 (is_run is_digit) bytes

-- `!!`, then digits
abbrev pub is_method_variable : List ℕ → Bool
is_method_variable bytes = is_led_by 33 is_class_variable bytes

abbrev pub is_variable : List ℕ → Bool
is_variable bytes = is_class_variable bytes || is_method_variable bytes

-- `0x`, then hexadecimal digits
abbrev pub is_hexadecimal : List ℕ → Bool
is_hexadecimal bytes = is_led_by 48 (is_led_by 120 (is_run is_hex_digit)) bytes

-- digits, or a hexadecimal number
abbrev pub is_unsigned : List ℕ → Bool
is_unsigned bytes = is_run is_digit bytes || is_hexadecimal bytes

-- `-`, then a number without a sign
abbrev pub is_negative : List ℕ → Bool
is_negative bytes = is_led_by 45 is_unsigned bytes

abbrev pub is_number : List ℕ → Bool
is_number bytes = is_unsigned bytes || is_negative bytes

-- what follows the first `"` of a literal: printable bytes and escapes, and then `"`
abbrev pub is_text_end : List ℕ → Bool
is_text_end [] = false
is_text_end (b ∷ []) = b == 34
is_text_end (b ∷ c ∷ bs) = if b == 92 then is_escape c && is_text_end bs else is_plain b && is_text_end (c ∷ bs)

abbrev pub is_text : List ℕ → Bool
is_text bytes = is_led_by 34 is_text_end bytes

abbrev pub marks : List (List ℕ)
marks = codes "{" ∷ codes "}" ∷ codes "(" ∷ codes ")" ∷ codes "<" ∷ codes ">" ∷ codes "," ∷ codes ":" ∷ codes ";" ∷ codes "&" ∷ codes "[]" ∷ codes "::" ∷ []

abbrev pub is_mark : List ℕ → Bool
is_mark bytes = list_any (λ mark. bytes_eq mark bytes) marks

-- whether the bytes spell a token of this kind, its limit left aside
abbrev pub spells : TokenKind → List ℕ → Bool
spells Word bytes = is_word bytes
spells Variable bytes = is_variable bytes
spells Number bytes = is_number bytes
spells Text bytes = is_text bytes
spells Mark bytes = is_mark bytes

-- the value of a decimal or a hexadecimal digit
abbrev pub digit_value : ℕ → ℕ
digit_value d = if is_digit d then d - 48 else (if nat_le d 70 then d - 55 else d - 87)

abbrev pub digits_value : ℕ → List ℕ → ℕ
digits_value base ds = fold (λ value d. base * value + digit_value d) 0 ds

-- what follows this first byte
abbrev pub after_byte : ℕ → List ℕ → Option (List ℕ)
after_byte first [] = None
after_byte first (b ∷ bs) = if b == first then Some bs else None

abbrev pub value_of : Option (List ℕ) → List ℕ → ℕ
value_of None decimal = digits_value 10 decimal
value_of (Some hexadecimal) decimal = digits_value 16 hexadecimal

-- the value of a number without a sign
abbrev pub unsigned_value : List ℕ → ℕ
unsigned_value bytes = value_of (option_and_then (after_byte 120) (after_byte 48 bytes)) bytes

-- what a number's digits give, its sign left aside
abbrev pub magnitude_of : List ℕ → ℕ
magnitude_of bytes = unsigned_value (unwrap_or (after_byte 45 bytes) bytes)

-- a name has at most 255 bytes, and the digits of a number give at most 2^64 - 1
abbrev pub IsWithinLimit : TokenKind → List ℕ → Type 0
IsWithinLimit Word bytes = length bytes ≤ 255
IsWithinLimit Number bytes = magnitude_of bytes ≤ 2 ^ 64 - 1
IsWithinLimit Variable bytes = ⊤
IsWithinLimit Text bytes = ⊤
IsWithinLimit Mark bytes = ⊤

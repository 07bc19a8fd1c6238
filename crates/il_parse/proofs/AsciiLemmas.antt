-- Tokens are of ASCII bytes alone.
use Rattle.std.proofs.Common.{◌≡◌, ℕ, zero, suc, ◌<◌, ◌≤◌, Bool, true, false, cond, ◌&&◌, ◌||◌, not, ◌==◌, nat_le, List, [], ◌∷◌, slice_index, refl, sym, ◌∙◌, ap, subst, codes, bytes_eq, arith}
use Rattle.std.specs.List.{list_all, list_any}
use Rattle.std.specs.Str.{IsAscii}
use Rattle.std.specs.Cmp.Lexicographic.{bytes_decides}
use Rattle.std.proofs.lemmas.Bool.{false≢true, leb-true, eqb-true}
use Rattle.std.proofs.lemmas.Str.Ascii.{IsAscii-nil}
use Rattle.il_text.specs.declared.token.TokenKind.{TokenKind}
use Rattle.il_text.specs.declared.token.TokenKind.TheVariants.{Word, Variable, Number, Text, Mark}
use Rattle.il_text.specs.Bytes.{is_digit, is_hex_digit, is_word_start, is_word_byte, is_plain, is_escape}
use Rattle.il_text.specs.Spelling.{is_led_by, is_run, is_word, is_class_variable, is_method_variable, is_variable, is_hexadecimal, is_unsigned, is_negative, is_number, is_text_end, is_text, marks, is_mark, spells}

both : (a b : Bool) → (a && b) ≡ true → (a ≡ true) × (b ≡ true)
both true b h = (refl, h)
both false b h = absurd (false≢true h)

either : {P : Type 0} (a b : Bool) → (a ≡ true → P) → (b ≡ true → P) → (a || b) ≡ true → P
either true b left right h = left refl
either false b left right h = right h

-- the bytes that pass a test are ASCII
abbrev Small : (ℕ → Bool) → Type 0
Small test = (b : ℕ) → test b ≡ true → b < 128

range_small : (low high : ℕ) → high < 128 → Small (λ b. nat_le low b && nat_le b high)
range_small low high few b h = let below : b ≤ high = leb-true b high (both (nat_le low b) (nat_le b high) h).1 in omega arith

equal_small : (n : ℕ) → n < 128 → Small (λ b. b == n)
equal_small n few b h = let same : b ≡ n = eqb-true b n h in omega arith

or_small : (f g : ℕ → Bool) → Small f → Small g → Small (λ b. f b || g b)
or_small f g left right b h = either (f b) (g b) (left b) (right b) h

digit_small : Small is_digit
digit_small = range_small 48 57 (omega arith)

hex_small : Small is_hex_digit
hex_small =
    or_small is_digit (λ b. (nat_le 65 b && nat_le b 70) || (nat_le 97 b && nat_le b 102)) digit_small
    (or_small (λ b. nat_le 65 b && nat_le b 70) (λ b. nat_le 97 b && nat_le b 102) (range_small 65 70 (omega arith)) (range_small 97 102 (omega arith)))

start_small : Small is_word_start
start_small =
    or_small (λ b. nat_le 65 b && nat_le b 90) (λ b. (nat_le 97 b && nat_le b 122) || ((b == 95) || (b == 46))) (range_small 65 90 (omega arith))
    (or_small (λ b. nat_le 97 b && nat_le b 122) (λ b. (b == 95) || (b == 46)) (range_small 97 122 (omega arith))
    (or_small (λ b. b == 95) (λ b. b == 46) (equal_small 95 (omega arith)) (equal_small 46 (omega arith))))

word_small : Small is_word_byte
word_small = or_small is_word_start is_digit start_small digit_small

plain_small : Small is_plain
plain_small b h =
    let rest = (both (nat_le 32 b) (nat_le b 126 && (not (b == 34) && not (b == 92))) h).1 in
    let below : b ≤ 126 = leb-true b 126 (both (nat_le b 126) (not (b == 34) && not (b == 92)) rest).0 in
    omega arith

escape_small : Small is_escape
escape_small =
    or_small (λ b. b == 110) (λ b. (b == 116) || ((b == 34) || (b == 92))) (equal_small 110 (omega arith))
    (or_small (λ b. b == 116) (λ b. (b == 34) || (b == 92)) (equal_small 116 (omega arith))
    (or_small (λ b. b == 34) (λ b. b == 92) (equal_small 34 (omega arith)) (equal_small 92 (omega arith))))

ascii_cons : (b : ℕ) (bs : List ℕ) → b < 128 → IsAscii bs → IsAscii (b ∷ bs)
ascii_cons b bs small rest zero = small
ascii_cons b bs small rest (suc i) = rest i

-- lists of bytes that pass a test are ASCII
abbrev Plain : (List ℕ → Bool) → Type 0
Plain test = (bytes : List ℕ) → test bytes ≡ true → IsAscii bytes

all_plain : (test : ℕ → Bool) → Small test → Plain (list_all test)
all_plain test small [] h = IsAscii-nil
all_plain test small (b ∷ bs) h =
    let parts = both (test b) (list_all test bs) h in
    ascii_cons b bs (small b parts.0) (all_plain test small bs parts.1)

run_plain : (test : ℕ → Bool) → Small test → Plain (is_run test)
run_plain test small [] h = IsAscii-nil
run_plain test small (b ∷ bs) h =
    let parts = both (test b) (list_all test bs) h in
    ascii_cons b bs (small b parts.0) (all_plain test small bs parts.1)

led_plain : (first : ℕ) (rest : List ℕ → Bool) → first < 128 → Plain rest → Plain (is_led_by first rest)
led_plain first rest few plain [] h = IsAscii-nil
led_plain first rest few plain (b ∷ bs) h =
    let parts = both (b == first) (rest bs) h in
    ascii_cons b bs (equal_small first few b parts.0) (plain bs parts.1)

or_plain : (f g : List ℕ → Bool) → Plain f → Plain g → Plain (λ bytes. f bytes || g bytes)
or_plain f g left right bytes h = either (f bytes) (g bytes) (left bytes) (right bytes) h

word_plain : Plain is_word
word_plain [] h = IsAscii-nil
word_plain (b ∷ bs) h =
    let parts = both (is_word_start b) (list_all is_word_byte bs) h in
    ascii_cons b bs (start_small b parts.0) (all_plain is_word_byte word_small bs parts.1)

class_variable_plain : Plain is_class_variable
class_variable_plain = led_plain 33 (is_run is_digit) (omega arith) (run_plain is_digit digit_small)

variable_plain : Plain is_variable
variable_plain = or_plain is_class_variable is_method_variable class_variable_plain (led_plain 33 is_class_variable (omega arith) class_variable_plain)

unsigned_plain : Plain is_unsigned
unsigned_plain =
    or_plain (is_run is_digit) is_hexadecimal (run_plain is_digit digit_small)
    (led_plain 48 (is_led_by 120 (is_run is_hex_digit)) (omega arith) (led_plain 120 (is_run is_hex_digit) (omega arith) (run_plain is_hex_digit hex_small)))

number_plain : Plain is_number
number_plain = or_plain is_unsigned is_negative unsigned_plain (led_plain 45 is_unsigned (omega arith) unsigned_plain)

escaped_or_plain : (b c : ℕ) (bs : List ℕ) (behind : is_text_end bs ≡ true → IsAscii bs) (next : is_text_end (c ∷ bs) ≡ true → IsAscii (c ∷ bs)) (t : Bool) →
    (b == 92) ≡ t → cond t (is_escape c && is_text_end bs) (is_plain b && is_text_end (c ∷ bs)) ≡ true → IsAscii (b ∷ c ∷ bs)
escaped_or_plain b c bs behind next true is h =
    let parts = both (is_escape c) (is_text_end bs) h in
    ascii_cons b (c ∷ bs) (equal_small 92 (omega arith) b is) (ascii_cons c bs (escape_small c parts.0) (behind parts.1))
escaped_or_plain b c bs behind next false is h =
    let parts = both (is_plain b) (is_text_end (c ∷ bs)) h in
    ascii_cons b (c ∷ bs) (plain_small b parts.0) (next parts.1)

text_end_plain : Plain is_text_end
text_end_plain [] h = IsAscii-nil
text_end_plain (b ∷ []) h = ascii_cons b [] (equal_small 34 (omega arith) b h) IsAscii-nil
text_end_plain (b ∷ c ∷ bs) h = escaped_or_plain b c bs (text_end_plain bs) (text_end_plain (c ∷ bs)) (b == 92) refl h

text_plain : Plain is_text
text_plain = led_plain 34 is_text_end (omega arith) text_end_plain

-- one of words that are all digits or bytes between two bounds
one_plain : (words : List (List ℕ)) → list_all (list_all (λ b. nat_le 0 b && nat_le b 127)) words ≡ true → Plain (λ bytes. list_any (λ word. bytes_eq word bytes) words)
one_plain [] all bytes h = absurd (false≢true h)
one_plain (word ∷ words) all bytes h =
    let parts = both (list_all (λ b. nat_le 0 b && nat_le b 127) word) (list_all (list_all (λ b. nat_le 0 b && nat_le b 127)) words) all in
    either (bytes_eq word bytes) (list_any (λ w. bytes_eq w bytes) words)
    (λ same. subst IsAscii ((bytes_decides word bytes).0 same) (all_plain (λ b. nat_le 0 b && nat_le b 127) (range_small 0 127 (omega arith)) word parts.0))
    (one_plain words parts.1 bytes) h

mark_plain : Plain is_mark
mark_plain = one_plain marks refl

-- what spells a token is ASCII
pub spelled_plain : (kind : TokenKind) (bytes : List ℕ) → spells kind bytes ≡ true → IsAscii bytes
spelled_plain Word = word_plain
spelled_plain Variable = variable_plain
spelled_plain Number = number_plain
spelled_plain Text = text_plain
spelled_plain Mark = mark_plain

-- no token has no bytes
pub nothing_spelled : (kind : TokenKind) → spells kind [] ≡ false
nothing_spelled Word = refl
nothing_spelled Variable = refl
nothing_spelled Number = refl
nothing_spelled Text = refl
nothing_spelled Mark = refl

-- Bytes that end a token: none of its kind is longer.
use Rattle.std.proofs.Common.{◌≡◌, ℕ, Bool, true, false, ◌&&◌, ◌==◌, List, [], ◌∷◌, ◌++◌, bytes_eq, refl, sym, ap, ◌∙◌, inl, inr, eqb-true, if◌then◌else◌}
use Rattle.std.specs.List.{list_all}
use Rattle.std.proofs.Math.Bool.{and-false}
use Rattle.std.proofs.lemmas.Bool.{cases_Bool, or_from, and_parts}
use Rattle.il_text.specs.declared.token.TokenKind.{TokenKind}
use Rattle.il_text.specs.declared.token.TokenKind.TheVariants.{Word, Variable, Number, Text, Mark}
use Rattle.il_text.specs.Bytes.{is_digit, is_hex_digit, is_word_start, is_word_byte, is_plain, is_escape}
use Rattle.il_text.specs.Spelling.{spells, is_led_by, is_run, is_word, is_class_variable, is_method_variable, is_variable, is_unsigned, is_hexadecimal, is_number, is_text_end, is_text, is_mark}

-- a byte that is in no token but a literal, or begins one that never stands close behind another
pub record IsStop (c : ℕ) : Type 0 where
  pub word : is_word_byte c ≡ false
  pub digit : is_digit c ≡ false
  pub hex : is_hex_digit c ≡ false
  pub bang : (c == 33) ≡ false
  pub minus : (c == 45) ≡ false
  pub zero_digit : (c == 48) ≡ false
  pub letter_x : (c == 120) ≡ false
  pub colon : (58 == c) ≡ false
  pub bracket : (93 == c) ≡ false

pub space_stops : IsStop 32
space_stops = record { word = refl; digit = refl; hex = refl; bang = refl; minus = refl; zero_digit = refl; letter_x = refl; colon = refl; bracket = refl }

pub newline_stops : IsStop 10
newline_stops = record { word = refl; digit = refl; hex = refl; bang = refl; minus = refl; zero_digit = refl; letter_x = refl; colon = refl; bracket = refl }

pub comma_stops : IsStop 44
comma_stops = record { word = refl; digit = refl; hex = refl; bang = refl; minus = refl; zero_digit = refl; letter_x = refl; colon = refl; bracket = refl }

pub less_stops : IsStop 60
less_stops = record { word = refl; digit = refl; hex = refl; bang = refl; minus = refl; zero_digit = refl; letter_x = refl; colon = refl; bracket = refl }

pub greater_stops : IsStop 62
greater_stops = record { word = refl; digit = refl; hex = refl; bang = refl; minus = refl; zero_digit = refl; letter_x = refl; colon = refl; bracket = refl }

pub bracket_stops : IsStop 91
bracket_stops = record { word = refl; digit = refl; hex = refl; bang = refl; minus = refl; zero_digit = refl; letter_x = refl; colon = refl; bracket = refl }

all_stops : (p : ℕ → Bool) (bs : List ℕ) (c : ℕ) (more : List ℕ) → p c ≡ false → list_all p (bs ++ c ∷ more) ≡ false
all_stops p [] c more e = ap (λ t. t && list_all p more) e
all_stops p (b ∷ bs) c more e = ap (λ t. p b && t) (all_stops p bs c more e) ∙ and-false (p b)

run_stops : (p : ℕ → Bool) (bs : List ℕ) (c : ℕ) (more : List ℕ) → p c ≡ false → is_run p (bs ++ c ∷ more) ≡ false
run_stops p [] c more e = ap (λ t. t && list_all p more) e
run_stops p (b ∷ bs) c more e = ap (λ t. p b && t) (all_stops p bs c more e) ∙ and-false (p b)

led_stops : (first : ℕ) (test : List ℕ → Bool) (c : ℕ) (more : List ℕ) → (c == first) ≡ false → ((bs : List ℕ) → test (bs ++ c ∷ more) ≡ false) →
    (bs : List ℕ) → is_led_by first test (bs ++ c ∷ more) ≡ false
led_stops first test c more e stops [] = ap (λ t. t && test more) e
led_stops first test c more e stops (b ∷ bs) = ap (λ t. (b == first) && t) (stops bs) ∙ and-false (b == first)

word_stops : (c : ℕ) (more : List ℕ) → IsStop c → (b : ℕ) (bs : List ℕ) → is_word (b ∷ bs ++ c ∷ more) ≡ false
word_stops c more s b bs = ap (λ t. is_word_start b && t) (all_stops is_word_byte bs c more s.word) ∙ and-false (is_word_start b)

class_variable_stops : (c : ℕ) (more : List ℕ) → IsStop c → (bs : List ℕ) → is_class_variable (bs ++ c ∷ more) ≡ false
class_variable_stops c more s = led_stops 33 (is_run is_digit) c more s.bang (λ bs. run_stops is_digit bs c more s.digit)

variable_stops : (c : ℕ) (more : List ℕ) → IsStop c → (bs : List ℕ) → is_variable (bs ++ c ∷ more) ≡ false
variable_stops c more s bs =
    or_from (is_class_variable (bs ++ c ∷ more)) (is_method_variable (bs ++ c ∷ more)) (class_variable_stops c more s bs)
    (led_stops 33 is_class_variable c more s.bang (class_variable_stops c more s) bs)

unsigned_stops : (c : ℕ) (more : List ℕ) → IsStop c → (bs : List ℕ) → is_unsigned (bs ++ c ∷ more) ≡ false
unsigned_stops c more s bs =
    or_from (is_run is_digit (bs ++ c ∷ more)) (is_hexadecimal (bs ++ c ∷ more)) (run_stops is_digit bs c more s.digit)
    (led_stops 48 (is_led_by 120 (is_run is_hex_digit)) c more s.zero_digit
    (led_stops 120 (is_run is_hex_digit) c more s.letter_x (λ rest. run_stops is_hex_digit rest c more s.hex)) bs)

number_stops : (c : ℕ) (more : List ℕ) → IsStop c → (bs : List ℕ) → is_number (bs ++ c ∷ more) ≡ false
number_stops c more s bs =
    or_from (is_unsigned (bs ++ c ∷ more)) (is_led_by 45 is_unsigned (bs ++ c ∷ more)) (unsigned_stops c more s bs)
    (led_stops 45 is_unsigned c more s.minus (unsigned_stops c more s) bs)

-- a literal ends at its second quote
text_end_stops : (bs : List ℕ) (c : ℕ) (more : List ℕ) → is_text_end bs ≡ true → is_text_end (bs ++ c ∷ more) ≡ false
text_end_stops [] c more e = cc
text_end_stops (b ∷ []) c more e = ap (λ x. is_text_end (x ∷ c ∷ more)) (eqb-true b 34 e)
text_end_stops (b ∷ d ∷ bs) c more e =
    elim (cases_Bool (b == 92)) [
      | inl escape ↦
          let parts = and_parts (is_escape d) (is_text_end bs) (sym (ap (λ t. if t then is_escape d && is_text_end bs else is_plain b && is_text_end (d ∷ bs)) escape) ∙ e) in
          ap (λ t. if t then is_escape d && is_text_end (bs ++ c ∷ more) else is_plain b && is_text_end (d ∷ bs ++ c ∷ more)) escape
          ∙ ap (λ t. is_escape d && t) (text_end_stops bs c more parts.1) ∙ and-false (is_escape d)
      | inr plain ↦
          let parts = and_parts (is_plain b) (is_text_end (d ∷ bs)) (sym (ap (λ t. if t then is_escape d && is_text_end bs else is_plain b && is_text_end (d ∷ bs)) plain) ∙ e) in
          ap (λ t. if t then is_escape d && is_text_end (bs ++ c ∷ more) else is_plain b && is_text_end (d ∷ bs ++ c ∷ more)) plain
          ∙ ap (λ t. is_plain b && t) (text_end_stops (d ∷ bs) c more parts.1) ∙ and-false (is_plain b)
    ]

text_stops : (bs : List ℕ) (c : ℕ) (more : List ℕ) → is_text bs ≡ true → is_text (bs ++ c ∷ more) ≡ false
text_stops [] c more e = cc
text_stops (b ∷ bs) c more e = ap (λ t. (b == 34) && t) (text_end_stops bs c more (and_parts (b == 34) (is_text_end bs) e).1) ∙ and-false (b == 34)

no_one : (k b : ℕ) (bs : List ℕ) (c : ℕ) (more : List ℕ) → bytes_eq (k ∷ []) (b ∷ bs ++ c ∷ more) ≡ false
no_one k b [] c more = and-false (k == b)
no_one k b (d ∷ bs) c more = and-false (k == b)

no_two : (j k b : ℕ) (bs : List ℕ) (c : ℕ) (more : List ℕ) → (k == c) ≡ false → bytes_eq (j ∷ k ∷ []) (b ∷ bs ++ c ∷ more) ≡ false
no_two j k b [] c more e = ap (λ t. (j == b) && (t && bytes_eq [] more)) e ∙ and-false (j == b)
no_two j k b (d ∷ []) c more e = ap (λ t. (j == b) && t) (and-false (k == d)) ∙ and-false (j == b)
no_two j k b (d ∷ f ∷ bs) c more e = ap (λ t. (j == b) && t) (and-false (k == d)) ∙ and-false (j == b)

mark_stops : (c : ℕ) (more : List ℕ) → IsStop c → (b : ℕ) (bs : List ℕ) → is_mark (b ∷ bs ++ c ∷ more) ≡ false
mark_stops c more s b bs =
    let one : (k : ℕ) → bytes_eq (k ∷ []) (b ∷ bs ++ c ∷ more) ≡ false = λ k. no_one k b bs c more in
    or_from _ _ (one 123) (or_from _ _ (one 125) (or_from _ _ (one 40) (or_from _ _ (one 41) (or_from _ _ (one 60) (or_from _ _ (one 62)
    (or_from _ _ (one 44) (or_from _ _ (one 58) (or_from _ _ (one 59) (or_from _ _ (one 38)
    (or_from _ _ (no_two 91 93 b bs c more s.bracket) (or_from _ _ (no_two 58 58 b bs c more s.colon) refl)))))))))))

-- behind a token and such a byte stands no longer token of its kind
pub stopped : (k : TokenKind) (b : ℕ) (bs : List ℕ) (c : ℕ) (more : List ℕ) → IsStop c → spells k (b ∷ bs) ≡ true → spells k (b ∷ bs ++ c ∷ more) ≡ false
stopped Word b bs c more s e = word_stops c more s b bs
stopped Variable b bs c more s e = variable_stops c more s (b ∷ bs)
stopped Number b bs c more s e = number_stops c more s (b ∷ bs)
stopped Text b bs c more s e = text_stops (b ∷ bs) c more e
stopped Mark b bs c more s e = mark_stops c more s b bs

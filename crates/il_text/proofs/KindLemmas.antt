-- How long words, literals and marks are.
use Rattle.std.proofs.Common.{◌≡◌, ◌<◌, ◌≤◌, ◌+◌, ◌&&◌, ◌==◌, ℕ, zero, suc, Bool, true, false, List, [], ◌∷◌, length, take, refl, sym, ap, ◌∙◌, arith, inl, inr, not, nat_le, if◌then◌else◌, length-take}
use Rattle.std.specs.List.{prefix_len, list_all, list_any}
use Rattle.std.specs.Str.{bytes_eq}
use Rattle.std.proofs.lemmas.Bool.{and_left, and_right, and_parts, and_cases, or_left, or_from, ne_eqb, not-true, both_ways, cases_lt, cases_eq, leb-true, le-leb}
use Rattle.il_text.specs.Bytes.{is_word_start, is_word_byte, is_plain, is_escape, is_digit}
use Rattle.il_text.specs.Spelling.{is_run, is_word, is_text_end, is_mark, marks}
use Rattle.il_text.specs.Faults.{longest_front}
use Rattle.il_text.proofs.Longest.{shifted, longest_front-is, longest_front-none, longest_front-same, longest_front-run, longest_front-shift}

word_is_run : (b : ℕ) (rest : List ℕ) (m : ℕ) → is_word_start b ≡ true → is_word (take m (b ∷ rest)) ≡ is_run is_word_byte (take m (b ∷ rest))
word_is_run b rest zero e = refl
word_is_run b rest (suc m) e = ap (λ t. t && list_all is_word_byte (take m rest)) (e ∙ sym (or_left (is_word_start b) (is_digit b) e))

pub longest_front-word : (bytes : List ℕ) (b : ℕ) (rest : List ℕ) → bytes ≡ b ∷ rest → is_word_start b ≡ true → longest_front is_word (length bytes) bytes ≡ prefix_len is_word_byte bytes
longest_front-word bytes b rest e start =
    longest_front-same is_word (is_run is_word_byte) (length bytes) bytes (λ m l h. ap (λ bs. is_word (take m bs)) e ∙ word_is_run b rest m start ∙ ap (λ bs. is_run is_word_byte (take m bs)) (sym e))
    ∙ longest_front-run is_word_byte bytes

not_word : (b : ℕ) (rest : List ℕ) (m : ℕ) → is_word_start b ≡ false → is_word (take m (b ∷ rest)) ≡ false
not_word b rest zero e = refl
not_word b rest (suc m) e = and_left (is_word_start b) (list_all is_word_byte (take m rest)) e

pub longest_front-not_word : (bytes : List ℕ) (b : ℕ) (rest : List ℕ) → bytes ≡ b ∷ rest → is_word_start b ≡ false → longest_front is_word (length bytes) bytes ≡ 0
longest_front-not_word bytes b rest e start = longest_front-none is_word (length bytes) bytes (λ m l h. ap (λ bs. is_word (take m bs)) e ∙ not_word b rest m start)

pub shifted-zero : (n : ℕ) → shifted 0 n ≡ n
shifted-zero n = grind arith

pub shifted-shifted : (j k n : ℕ) → shifted j (shifted k n) ≡ shifted (j + k) n
shifted-shifted j k zero = refl
shifted-shifted j k (suc n) = grind arith

pub longest_front-quote : (rest tail : List ℕ) → rest ≡ 34 ∷ tail → longest_front is_text_end (length rest) rest ≡ 1
longest_front-quote rest tail e = ap (λ bs. longest_front is_text_end (length bs) bs) e ∙ longest_front-is is_text_end (suc (length tail)) (34 ∷ tail) 1 (omega arith) (λ l. refl) (λ m l h. longer m tail l (omega (arith, h)))
  where
    longer : (m : ℕ) (tail : List ℕ) → 1 < m → m ≤ suc (length tail) → is_text_end (take m (34 ∷ tail)) ≡ false
    longer zero tail l h = refl
    longer (suc zero) tail l h = absurd (omega (arith, l))
    longer (suc (suc m)) [] l h = absurd (omega (arith, h))
    longer (suc (suc m)) (c ∷ tail) l h = refl

-- a plain byte is neither a quote nor a backslash
plain_parts : (b : ℕ) → is_plain b ≡ true → ((b == 34) ≡ false) × ((b == 92) ≡ false)
plain_parts b e =
    let printable = and_parts (nat_le 32 b) _ e in
    let below = and_parts (nat_le b 126) _ printable.1 in
    let neither = and_parts (not (b == 34)) (not (b == 92)) below.1 in (not-true (b == 34) neither.0, not-true (b == 92) neither.1)

plain_front : (b : ℕ) (bytes : List ℕ) → is_plain b ≡ true → is_text_end (b ∷ bytes) ≡ is_text_end bytes
plain_front b [] e = (plain_parts b e).0
plain_front b (c ∷ bytes) e = ap (λ t. if t then (is_escape c && is_text_end bytes) else (is_plain b && is_text_end (c ∷ bytes))) (plain_parts b e).1 ∙ ap (λ t. t && is_text_end (c ∷ bytes)) e

pub longest_front-plain : (rest tail : List ℕ) (b : ℕ) → rest ≡ b ∷ tail → is_plain b ≡ true → longest_front is_text_end (length rest) rest ≡ shifted 1 (longest_front is_text_end (length tail) tail)
longest_front-plain rest tail b e plain =
    ap (λ bs. longest_front is_text_end (length bs) bs) e ∙ longest_front-shift is_text_end is_text_end (length tail) b tail (λ m. plain_front b (take m tail) plain) refl

escape_front : (c : ℕ) (bytes : List ℕ) → is_escape c ≡ true → is_text_end (92 ∷ c ∷ bytes) ≡ is_text_end bytes
escape_front c bytes e = ap (λ t. t && is_text_end bytes) e

pub longest_front-escape : (rest tail more : List ℕ) (c : ℕ) → rest ≡ 92 ∷ tail → tail ≡ c ∷ more → is_escape c ≡ true → longest_front is_text_end (length rest) rest ≡ shifted 2 (longest_front is_text_end (length more) more)
longest_front-escape rest tail more c e f escape =
    ap (λ bs. longest_front is_text_end (length bs) bs) (e ∙ ap (λ bs. 92 ∷ bs) f)
    ∙ longest_front-shift is_text_end (λ bs. is_text_end (92 ∷ bs)) (suc (length more)) 92 (c ∷ more) (λ m. refl) refl
    ∙ ap (shifted 1) (longest_front-shift (λ bs. is_text_end (92 ∷ bs)) is_text_end (length more) c more (λ m. escape_front c (take m more) escape) refl)
    ∙ shifted-shifted 1 1 (longest_front is_text_end (length more) more)

bad_front : (b : ℕ) (bytes : List ℕ) → (b ≡ 34 → ⊥) → (b ≡ 92 → ⊥) → is_plain b ≡ false → is_text_end (b ∷ bytes) ≡ false
bad_front b [] quote slash bad = ne_eqb b 34 quote
bad_front b (c ∷ bytes) quote slash bad =
    ap (λ t. if t then (is_escape c && is_text_end bytes) else (is_plain b && is_text_end (c ∷ bytes))) (ne_eqb b 92 slash) ∙ and_left (is_plain b) (is_text_end (c ∷ bytes)) bad

bad_escape : (c : ℕ) (bytes : List ℕ) → is_escape c ≡ false → is_text_end (92 ∷ c ∷ bytes) ≡ false
bad_escape c bytes bad = and_left (is_escape c) (is_text_end bytes) bad

none_from : (rest : List ℕ) → ((m : ℕ) → is_text_end (take m rest) ≡ false) → 0 ≡ longest_front is_text_end (length rest) rest
none_from rest none = sym (longest_front-none is_text_end (length rest) rest (λ m l h. none m))

pub longest_front-no_escape : (rest tail : List ℕ) → rest ≡ 92 ∷ tail → tail ≡ [] → longest_front is_text_end (length rest) rest ≡ 0
longest_front-no_escape rest tail e f = ap (λ bs. longest_front is_text_end (length bs) bs) (e ∙ ap (λ bs. 92 ∷ bs) f)

pub longest_front-bad_escape : (rest tail more : List ℕ) (c : ℕ) → rest ≡ 92 ∷ tail → tail ≡ c ∷ more → is_escape c ≡ false → longest_front is_text_end (length rest) rest ≡ 0
longest_front-bad_escape rest tail more c e f bad = longest_front-none is_text_end (length rest) rest (λ m l h. ap (λ bs. is_text_end (take m bs)) (e ∙ ap (λ bs. 92 ∷ bs) f) ∙ at m)
  where
    at : (m : ℕ) → is_text_end (take m (92 ∷ c ∷ more)) ≡ false
    at zero = refl
    at (suc zero) = refl
    at (suc (suc m)) = bad_escape c (take m more) bad

pub longest_front-bad : (rest tail : List ℕ) (b : ℕ) → rest ≡ b ∷ tail → (b ≡ 34 → ⊥) → (b ≡ 92 → ⊥) → is_plain b ≡ false → longest_front is_text_end (length rest) rest ≡ 0
longest_front-bad rest tail b e quote slash bad = longest_front-none is_text_end (length rest) rest (λ m l h. ap (λ bs. is_text_end (take m bs)) e ∙ at m)
  where
    at : (m : ℕ) → is_text_end (take m (b ∷ tail)) ≡ false
    at zero = refl
    at (suc m) = bad_front b (take m tail) quote slash bad

shorter : (mark bytes : List ℕ) → length mark < length bytes → bytes_eq mark bytes ≡ false
shorter [] [] l = absurd (omega (arith, l))
shorter [] (b ∷ bytes) l = refl
shorter (a ∷ mark) [] l = absurd (omega (arith, l))
shorter (a ∷ mark) (b ∷ bytes) l = and_right (a == b) (bytes_eq mark bytes) (shorter mark bytes (omega (arith, l)))

all_shorter : (ms : List (List ℕ)) (bytes : List ℕ) → 2 < length bytes → list_all (λ m. nat_le (length m) 2) ms ≡ true → list_any (λ m. bytes_eq m bytes) ms ≡ false
all_shorter [] bytes l e = refl
all_shorter (m ∷ ms) bytes l e =
    let parts = and_parts (nat_le (length m) 2) (list_all (λ m. nat_le (length m) 2) ms) e in
    or_from (bytes_eq m bytes) (list_any (λ m. bytes_eq m bytes) ms) (shorter m bytes (omega (arith, l, leb-true (length m) 2 parts.0))) (all_shorter ms bytes l parts.1)

long_mark : (bytes : List ℕ) (m : ℕ) → 2 < m → m ≤ length bytes → is_mark (take m bytes) ≡ false
long_mark bytes m l h = all_shorter marks (take m bytes) (omega (arith, l, h, length-take m bytes)) refl

pub longest_front-mark : (bytes : List ℕ) (k : ℕ) → k ≤ length bytes → (0 < k → is_mark (take k bytes) ≡ true) → (k < 2 → 2 ≤ length bytes → is_mark (take 2 bytes) ≡ false) → (k < 1 → 1 ≤ length bytes → is_mark (take 1 bytes) ≡ false) → longest_front is_mark (length bytes) bytes ≡ k
longest_front-mark bytes k le spelled two one =
    longest_front-is is_mark (length bytes) bytes k le spelled (λ m l h.
    elim (cases_lt 2 m) [
      | inl more ↦ long_mark bytes m more h
      | inr less ↦ elim (cases_eq m 2) [
        | inl same ↦ ap (λ j. is_mark (take j bytes)) same ∙ two (omega (arith, l, same)) (omega (arith, h, same))
        | inr other ↦ let same : m ≡ 1 = omega (arith, l, less, other) in ap (λ j. is_mark (take j bytes)) same ∙ one (omega (arith, l, same)) (omega (arith, h, same))
      ]
    ])

second_false : (x y : Bool) → (x && y) ≡ false → x ≡ true → y ≡ false
second_false x y e f = elim (and_cases x y e) [ inl a ↦ absurd (both_ways x a f) | inr b ↦ b ]

pub marks_two : (bytes : List ℕ) → true ≡ (nat_le 2 (length bytes) && is_mark (take 2 bytes)) → 2 ≡ longest_front is_mark (length bytes) bytes
marks_two bytes e =
    let parts = and_parts (nat_le 2 (length bytes)) (is_mark (take 2 bytes)) (sym e) in
    sym (longest_front-mark bytes 2 (leb-true 2 (length bytes) parts.0) (λ l. parts.1) (λ l. absurd (omega (arith, l))) (λ l. absurd (omega (arith, l))))

not_two : (bytes : List ℕ) (k : ℕ) → false ≡ (nat_le k (length bytes) && is_mark (take k bytes)) → k ≤ length bytes → is_mark (take k bytes) ≡ false
not_two bytes k e h = second_false (nat_le k (length bytes)) (is_mark (take k bytes)) (sym e) (le-leb k (length bytes) h)

pub marks_one : (bytes : List ℕ) → false ≡ (nat_le 2 (length bytes) && is_mark (take 2 bytes)) → true ≡ (nat_le 1 (length bytes) && is_mark (take 1 bytes)) → 1 ≡ longest_front is_mark (length bytes) bytes
marks_one bytes d e =
    let parts = and_parts (nat_le 1 (length bytes)) (is_mark (take 1 bytes)) (sym e) in
    sym (longest_front-mark bytes 1 (leb-true 1 (length bytes) parts.0) (λ l. parts.1) (λ l h. not_two bytes 2 d h) (λ l. absurd (omega (arith, l))))

pub marks_none : (bytes : List ℕ) → false ≡ (nat_le 2 (length bytes) && is_mark (take 2 bytes)) → false ≡ (nat_le 1 (length bytes) && is_mark (take 1 bytes)) → 0 ≡ longest_front is_mark (length bytes) bytes
marks_none bytes d e = sym (longest_front-mark bytes 0 (omega arith) (λ l. absurd (omega (arith, l))) (λ l h. not_two bytes 2 d h) (λ l h. not_two bytes 1 e h))

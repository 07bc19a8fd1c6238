-- Blanks and comments in front, and what they leave.
use Rattle.std.proofs.Common.{◌≡◌, ◌<◌, ◌≤◌, ◌+◌, ◌==◌, ◌&&◌, ◌++◌, ℕ, zero, suc, Bool, true, false, List, [], ◌∷◌, length, take, drop, refl, sym, ap, subst, ◌∙◌, arith, inl, inr, if◌then◌else◌, nat_lt, nat_le, eqb-true, not, append_assoc}
use Rattle.std.specs.List.{list_all, list_any, prefix_len}
use Rattle.std.specs.Str.{bytes_eq}
use Rattle.std.proofs.lemmas.Bool.{true≢false, both_ways, and_parts, or_cases, or_parts, cases_Bool, agree_below_at, leb-true, not-true, and_from}
use Rattle.std.proofs.lemmas.List.{append-nil}
use Rattle.il_text.specs.declared.token.TokenKind.{TokenKind}
use Rattle.il_text.specs.declared.token.TokenKind.TheVariants.{Word, Variable, Number, Text, Mark}
use Rattle.il_text.specs.Bytes.{is_word_start, is_digit, is_blank, is_comment_byte}
use Rattle.il_text.specs.Spelling.{spells, marks, is_class_variable, is_method_variable, is_unsigned, is_negative, is_hexadecimal, is_run}
use Rattle.il_text.specs.Tokens.{IsGap, nothing, blank, comment, IsLastGap, ended, unended}
use Rattle.il_text.specs.Faults.{gap_len}
use Rattle.il_text.proofs.Longest.{prefix_len-true, prefix_len-false}

-- a byte that may begin a token: ASCII, and neither a blank nor `/`
abbrev begins : ℕ → Bool
begins b = nat_lt b 128 && (not (is_blank b) && not (b == 47))

word_begins : (b : ℕ) → is_word_start b ≡ true → begins b ≡ true
word_begins b e =
    let low : b < 128 = low_word b e in
    let same = agree_below_at is_word_start (λ b. is_word_start b && begins b) 128 b refl low in
    (and_parts (is_word_start b) (begins b) (sym same ∙ e)).1
  where
    low_word : (b : ℕ) → is_word_start b ≡ true → b < 128
    low_word b e = elim (or_cases (nat_le 65 b && nat_le b 90) _ e) [
      | inl large ↦ omega (arith, leb-true b 90 (and_parts (nat_le 65 b) (nat_le b 90) large).1)
      | inr more ↦ elim (or_cases (nat_le 97 b && nat_le b 122) _ more) [
        | inl small ↦ omega (arith, leb-true b 122 (and_parts (nat_le 97 b) (nat_le b 122) small).1)
        | inr mark ↦ elim (or_cases (b == 95) (b == 46) mark) [
          | inl line ↦ omega (arith, eqb-true b 95 line)
          | inr dot ↦ omega (arith, eqb-true b 46 dot)
        ]
      ]
    ]

digit_begins : (b : ℕ) → is_digit b ≡ true → begins b ≡ true
digit_begins b e =
    let low : b ≤ 57 = leb-true b 57 (and_parts (nat_le 48 b) (nat_le b 57) e).1 in
    let same = agree_below_at is_digit (λ b. is_digit b && begins b) 58 b refl (omega arith) in
    (and_parts (is_digit b) (begins b) (sym same ∙ e)).1

is_at : (b n : ℕ) → (b == n) ≡ true → begins n ≡ true → begins b ≡ true
is_at b n e f = ap begins (eqb-true b n e) ∙ f

abbrev first_begins : List ℕ → Bool
first_begins [] = false
first_begins (a ∷ m) = begins a

mark_begins : (ms : List (List ℕ)) (b : ℕ) (bs : List ℕ) → list_any (λ m. bytes_eq m (b ∷ bs)) ms ≡ true → list_all first_begins ms ≡ true → begins b ≡ true
mark_begins [] b bs e f = absurd (true≢false (sym e))
mark_begins ([] ∷ ms) b bs e f = absurd (true≢false (sym f))
mark_begins ((a ∷ m) ∷ ms) b bs e f =
    let parts = and_parts (first_begins (a ∷ m)) (list_all first_begins ms) f in
    elim (or_cases (bytes_eq (a ∷ m) (b ∷ bs)) (list_any (λ m. bytes_eq m (b ∷ bs)) ms) e) [
      | inl here ↦ ap begins (sym (eqb-true a b (and_parts (a == b) (bytes_eq m bs) here).0)) ∙ parts.0
      | inr later ↦ mark_begins ms b bs later parts.1
    ]

number_begins : (b : ℕ) (bs : List ℕ) → is_unsigned (b ∷ bs) ≡ true → begins b ≡ true
number_begins b bs e =
    elim (or_cases (is_run is_digit (b ∷ bs)) (is_hexadecimal (b ∷ bs)) e) [
      | inl digits ↦ digit_begins b (and_parts (is_digit b) _ digits).0
      | inr hex ↦ is_at b 48 (and_parts (b == 48) _ hex).0 refl
    ]

spelled_begins : (k : TokenKind) (b : ℕ) (bs : List ℕ) → spells k (b ∷ bs) ≡ true → begins b ≡ true
spelled_begins Word b bs e = word_begins b (and_parts (is_word_start b) _ e).0
spelled_begins Variable b bs e =
    elim (or_cases (is_class_variable (b ∷ bs)) (is_method_variable (b ∷ bs)) e) [
      | inl one ↦ is_at b 33 (and_parts (b == 33) _ one).0 refl
      | inr two ↦ is_at b 33 (and_parts (b == 33) _ two).0 refl
    ]
spelled_begins Number b bs e =
    elim (or_cases (is_unsigned (b ∷ bs)) (is_negative (b ∷ bs)) e) [
      | inl plain ↦ number_begins b bs plain
      | inr signed ↦ is_at b 45 (and_parts (b == 45) _ signed).0 refl
    ]
spelled_begins Text b bs e = is_at b 34 (and_parts (b == 34) _ e).0 refl
spelled_begins Mark b bs e = mark_begins marks b bs e refl

blank_no_newline : (b : ℕ) → is_blank b ≡ false → (b == 10) ≡ false
blank_no_newline b e = (or_parts (b == 13) (b == 10) (or_parts (b == 9) _ (or_parts (b == 32) _ e).1).1).1

-- the first byte of a token is no blank, no `/`, and may stand in a comment
pub spells-first : (k : TokenKind) (b : ℕ) (bs : List ℕ) → spells k (b ∷ bs) ≡ true → (is_blank b ≡ false) × ((b == 47) ≡ false) × (is_comment_byte b ≡ true)
spells-first k b bs e =
    let parts = and_parts (nat_lt b 128) _ (spelled_begins k b bs e) in
    let more = and_parts (not (is_blank b)) (not (b == 47)) parts.1 in
    let open_ : is_blank b ≡ false = not-true (is_blank b) more.0 in
    (open_, not-true (b == 47) more.1, and_from (nat_lt b 128) (not (b == 10)) parts.0 (ap not (blank_no_newline b open_)))

pub gap_len-none : (b : ℕ) (bs : List ℕ) → is_blank b ≡ false → (b == 47) ≡ false → gap_len (b ∷ bs) ≡ 0
gap_len-none b [] e f = ap (λ t. if t then 1 else 0) e
gap_len-none b (c ∷ bs) e f =
    ap (λ t. if t then 1 else (if (b == 47) && (c == 47) then 2 + prefix_len is_comment_byte bs else 0)) e
    ∙ ap (λ t. if t && (c == 47) then 2 + prefix_len is_comment_byte bs else 0) f

pub gap_len-blank : (b : ℕ) (bs : List ℕ) → is_blank b ≡ true → gap_len (b ∷ bs) ≡ 1
gap_len-blank b [] e = ap (λ t. if t then 1 else 0) e
gap_len-blank b (c ∷ bs) e = ap (λ t. if t then 1 else (if (b == 47) && (c == 47) then 2 + prefix_len is_comment_byte bs else 0)) e

-- what stands in front where a blank or a comment does
pub data Passes (bytes : List ℕ) : ℕ → Type 0 where
  one_blank : (b : ℕ) (bs : List ℕ) → bytes ≡ b ∷ bs → is_blank b ≡ true → Passes bytes 1
  one_comment : (bs : List ℕ) → bytes ≡ 47 ∷ 47 ∷ bs → Passes bytes (2 + prefix_len is_comment_byte bs)

pub passes : (bytes : List ℕ) → 0 < gap_len bytes → Passes bytes (gap_len bytes)
passes [] l = absurd (omega (arith, l))
passes (b ∷ []) l =
    elim (cases_Bool (is_blank b)) [
      | inl e ↦ subst (λ n. Passes (b ∷ []) n) (sym (gap_len-blank b [] e)) (one_blank b [] refl e)
      | inr e ↦ absurd (omega (arith, l, ap {B = ℕ} (λ t. if t then 1 else 0) e))
    ]
passes (b ∷ c ∷ bs) l =
    elim (cases_Bool (is_blank b)) [
      | inl e ↦ subst (λ n. Passes (b ∷ c ∷ bs) n) (sym (gap_len-blank b (c ∷ bs) e)) (one_blank b (c ∷ bs) refl e)
      | inr e ↦
          let left = ap (λ t. if t then 1 else (if (b == 47) && (c == 47) then 2 + prefix_len is_comment_byte bs else 0)) e in
          elim (cases_Bool ((b == 47) && (c == 47))) [
            | inl f ↦
                let parts = and_parts (b == 47) (c == 47) f in
                let is : gap_len (b ∷ c ∷ bs) ≡ 2 + prefix_len is_comment_byte bs = left ∙ ap (λ t. if t then 2 + prefix_len is_comment_byte bs else 0) f in
                subst (λ n. Passes (b ∷ c ∷ bs) n) (sym is) (one_comment bs (ap (λ x. x ∷ c ∷ bs) (eqb-true b 47 parts.0) ∙ ap (λ x. 47 ∷ x ∷ bs) (eqb-true c 47 parts.1)))
            | inr f ↦ absurd (omega (arith, l, left ∙ ap (λ t. if t then 2 + prefix_len is_comment_byte bs else 0) f))
          ]
    ]

blank_line : (b : ℕ) → is_blank b ≡ true → is_comment_byte b ≡ false → b ≡ 10
blank_line b e f =
    elim (or_cases (b == 32) _ e) [
      | inl space ↦ absurd (true≢false (sym (ap is_comment_byte (eqb-true b 32 space)) ∙ f))
      | inr more ↦ elim (or_cases (b == 9) _ more) [
        | inl tab ↦ absurd (true≢false (sym (ap is_comment_byte (eqb-true b 9 tab)) ∙ f))
        | inr last ↦ elim (or_cases (b == 13) (b == 10) last) [
          | inl return ↦ absurd (true≢false (sym (ap is_comment_byte (eqb-true b 13 return)) ∙ f))
          | inr line ↦ eqb-true b 10 line
        ]
      ]
    ]

-- a gap that begins with a byte that may not stand in a comment begins with the end of a line
pub line_gap : (bytes : List ℕ) (c : ℕ) (rest : List ℕ) → IsGap bytes → bytes ≡ c ∷ rest → is_comment_byte c ≡ false → (c ≡ 10) × IsGap rest
line_gap bytes c rest nothing e f = cc
line_gap bytes c rest (blank b more g h) e f =
    let first : b ≡ c = cc in
    let left : more ≡ rest = cc in
    (sym first ∙ blank_line b g (ap is_comment_byte first ∙ f), subst IsGap left h)
line_gap bytes c rest (comment inside more whole g h i) e f =
    let slashes : 47 ∷ 47 ∷ (inside ++ 10 ∷ more) ≡ c ∷ rest = sym h ∙ e in
    let first : 47 ≡ c = cc in
    absurd (true≢false (ap is_comment_byte first ∙ f))

-- a comment and the gap behind it are a gap
pub comment_gap : (inside gap : List ℕ) (c : ℕ) (rest : List ℕ) → list_all is_comment_byte inside ≡ true → gap ≡ c ∷ rest → is_comment_byte c ≡ false → IsGap gap → IsGap (47 ∷ 47 ∷ inside ++ gap)
comment_gap inside gap c rest e f g h =
    let line = line_gap gap c rest h f g in
    comment inside rest (47 ∷ 47 ∷ inside ++ gap) e (ap (λ bs. 47 ∷ 47 ∷ inside ++ bs) (f ∙ ap (λ b. b ∷ rest) line.0)) line.1

-- the first byte of a spelled slice
pub record TokenFirst (bytes : List ℕ) (n : ℕ) : Type 0 where
  pub first : ℕ
  pub more : List ℕ
  pub is : bytes ≡ first ∷ more
  pub some : 0 < n
  pub no_blank : is_blank first ≡ false
  pub no_slash : (first == 47) ≡ false
  pub in_comment : is_comment_byte first ≡ true

nothing_spelled : (k : TokenKind) → spells k [] ≡ false
nothing_spelled Word = refl
nothing_spelled Variable = refl
nothing_spelled Number = refl
nothing_spelled Text = refl
nothing_spelled Mark = refl

pub token_first : (k : TokenKind) (n : ℕ) (bytes : List ℕ) → spells k (take n bytes) ≡ true → TokenFirst bytes n
token_first k zero bytes e = absurd (both_ways (spells k []) (nothing_spelled k) e)
token_first k (suc n) [] e = absurd (both_ways (spells k []) (nothing_spelled k) e)
token_first k (suc n) (b ∷ bytes) e =
    let parts = spells-first k b (take n bytes) e in
    record { first = b; more = bytes; is = refl; some = omega arith; no_blank = parts.0; no_slash = parts.1; in_comment = parts.2 }

-- what stands behind a run can't go on with it
pub prefix_len-stop : (p : ℕ → Bool) (xs : List ℕ) (c : ℕ) (more : List ℕ) → drop (prefix_len p xs) xs ≡ c ∷ more → p c ≡ false
prefix_len-stop p [] c more e = cc
prefix_len-stop p (x ∷ xs) c more e =
    elim (cases_Bool (p x)) [
      | inl yes_ ↦ prefix_len-stop p xs c more (sym (ap (λ n. drop n (x ∷ xs)) (prefix_len-true p x xs yes_)) ∙ e)
      | inr no_ ↦
          let whole : x ∷ xs ≡ c ∷ more = sym (ap (λ n. drop n (x ∷ xs)) (prefix_len-false p x xs no_)) ∙ e in
          let same : x ≡ c = cc in
          ap p (sym same) ∙ no_
    ]

pub prefix_len-all : (p : ℕ → Bool) (xs : List ℕ) (c : ℕ) (more : List ℕ) → list_all p xs ≡ true → p c ≡ false → prefix_len p (xs ++ c ∷ more) ≡ length xs
prefix_len-all p [] c more e f = prefix_len-false p c more f
prefix_len-all p (x ∷ xs) c more e f =
    let parts = and_parts (p x) (list_all p xs) e in
    prefix_len-true p x (xs ++ c ∷ more) parts.0 ∙ ap suc (prefix_len-all p xs c more parts.1 f)

pub prefix_len-whole : (p : ℕ → Bool) (xs : List ℕ) → list_all p xs ≡ true → prefix_len p xs ≡ length xs
prefix_len-whole p [] e = refl
prefix_len-whole p (x ∷ xs) e =
    let parts = and_parts (p x) (list_all p xs) e in
    prefix_len-true p x xs parts.0 ∙ ap suc (prefix_len-whole p xs parts.1)

-- a comment in front of what the text's last gap leaves
pub comment_last : (inside left : List ℕ) → list_all is_comment_byte inside ≡ true → ((c : ℕ) (more : List ℕ) → left ≡ c ∷ more → is_comment_byte c ≡ false) → IsLastGap left → IsLastGap (47 ∷ 47 ∷ inside ++ left)
comment_last inside [] e stops h = unended [] inside (47 ∷ 47 ∷ inside ++ []) nothing e (ap (λ bs. 47 ∷ 47 ∷ bs) (append-nil inside))
comment_last inside (c ∷ more) e stops (ended left g) = ended (47 ∷ 47 ∷ inside ++ c ∷ more) (comment_gap inside (c ∷ more) c more e refl (stops c more refl) g)
comment_last inside (c ∷ more) e stops (unended [] within left g f h) =
    let first : c ≡ 47 = cc in
    absurd (true≢false (sym (ap is_comment_byte first) ∙ stops c more refl))
comment_last inside (c ∷ more) e stops (unended (d ∷ front) within left g f h) =
    let first : d ≡ c = cc in
    unended (47 ∷ 47 ∷ inside ++ d ∷ front) within (47 ∷ 47 ∷ inside ++ c ∷ more) (comment_gap inside (d ∷ front) d front e refl (ap is_comment_byte first ∙ stops c more refl) g) f
    (ap (λ bs. 47 ∷ 47 ∷ inside ++ bs) h ∙ ap (λ bs. 47 ∷ 47 ∷ bs) (sym (append_assoc inside (d ∷ front) (47 ∷ 47 ∷ within))))

pub blank_last : (b : ℕ) (left : List ℕ) → is_blank b ≡ true → IsLastGap left → IsLastGap (b ∷ left)
blank_last b left e (ended same g) = ended (b ∷ left) (blank b left e g)
blank_last b left e (unended front within same g f h) = unended (b ∷ front) within (b ∷ left) (blank b front e g) f (ap (λ bs. b ∷ bs) h)

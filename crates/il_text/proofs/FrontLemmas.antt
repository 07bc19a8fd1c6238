-- The one kind of token that a byte may begin, and why what stands in front is refused.
use Rattle.std.proofs.Common.{◌≡◌, ◌<◌, ◌≤◌, ◌-◌, ◌^◌, ◌==◌, ◌&&◌, ◌||◌, ℕ, zero, suc, Bool, true, false, List, [], ◌∷◌, length, take, Some, None, refl, sym, ap, ◌∙◌, arith, inl, inr, if◌then◌else◌, nat_lt, nat_le, eqb-true}
use Rattle.std.specs.List.{list_all, list_any}
use Rattle.std.specs.Str.{bytes_eq}
use Rattle.std.proofs.lemmas.Bool.{true≢false, both_ways, and_parts, and_left, and_right, or_cases, or_left, or_right, cases_Bool, false_from_ne_true, and_from, cases_lt, agree_below_at, leb-true, le-ltb, lt-ltb}
use Rattle.il_text.specs.declared.token.TokenKind.{TokenKind}
use Rattle.il_text.specs.declared.token.TokenKind.TheVariants.{Word, Variable, Number, Text, Mark}
use Rattle.il_text.specs.declared.fault.TextCause.TheVariants.{BadByte, BadLiteral, LongName}
use Rattle.il_text.specs.Bytes.{is_word_start, is_digit}
use Rattle.il_text.specs.Spelling.{spells, marks, is_class_variable, is_method_variable, is_unsigned, is_negative, is_hexadecimal, is_run, is_word, is_number, magnitude_of, IsWithinLimit}
use Rattle.il_text.specs.Faults.{is_token, longest_front, token_len, gap_len, limit_cause, no_token_cause, cause_of}
use Rattle.il_text.specs.Fronts.{kind_for, limit_cause_of, HasToken}
use Rattle.il_text.proofs.Longest.{longest_front-same, longest_front-spells}

-- the kind for a byte that begins no word
abbrev after_word : ℕ → TokenKind
after_word b = if b == 33 then Variable
    else (if is_digit b || (b == 45) then Number
    else (if b == 34 then Text else Mark))

abbrev is_number_kind : TokenKind → Bool
is_number_kind Word = false
is_number_kind Variable = false
is_number_kind Number = true
is_number_kind Text = false
is_number_kind Mark = false

number_only : (k : TokenKind) → is_number_kind k ≡ true → k ≡ Number
number_only Word e = absurd (true≢false (sym e))
number_only Variable e = absurd (true≢false (sym e))
number_only Number e = refl
number_only Text e = absurd (true≢false (sym e))
number_only Mark e = absurd (true≢false (sym e))

abbrev is_mark_kind : TokenKind → Bool
is_mark_kind Word = false
is_mark_kind Variable = false
is_mark_kind Number = false
is_mark_kind Text = false
is_mark_kind Mark = true

mark_only : (k : TokenKind) → is_mark_kind k ≡ true → k ≡ Mark
mark_only Word e = absurd (true≢false (sym e))
mark_only Variable e = absurd (true≢false (sym e))
mark_only Number e = absurd (true≢false (sym e))
mark_only Text e = absurd (true≢false (sym e))
mark_only Mark e = refl

digit_kind : (b : ℕ) → is_digit b ≡ true → kind_for b ≡ Number
digit_kind b e =
    let low : b ≤ 57 = leb-true b 57 (and_parts (nat_le 48 b) (nat_le b 57) e).1 in
    let same = agree_below_at is_digit (λ b. is_digit b && is_number_kind (kind_for b)) 58 b refl (omega arith) in
    number_only (kind_for b) (and_parts (is_digit b) (is_number_kind (kind_for b)) (sym same ∙ e)).1

abbrev begins_mark : List ℕ → Bool
begins_mark [] = false
begins_mark (a ∷ m) = is_mark_kind (kind_for a)

mark_kind_in : (ms : List (List ℕ)) (b : ℕ) (bs : List ℕ) → list_any (λ m. bytes_eq m (b ∷ bs)) ms ≡ true → list_all begins_mark ms ≡ true → kind_for b ≡ Mark
mark_kind_in [] b bs e f = absurd (true≢false (sym e))
mark_kind_in ([] ∷ ms) b bs e f = absurd (true≢false (sym f))
mark_kind_in ((a ∷ m) ∷ ms) b bs e f =
    let parts = and_parts (begins_mark (a ∷ m)) (list_all begins_mark ms) f in
    elim (or_cases (bytes_eq (a ∷ m) (b ∷ bs)) (list_any (λ m. bytes_eq m (b ∷ bs)) ms) e) [
      | inl here ↦ ap kind_for (sym (eqb-true a b (and_parts (a == b) (bytes_eq m bs) here).0)) ∙ mark_only (kind_for a) parts.0
      | inr later ↦ mark_kind_in ms b bs later parts.1
    ]

number_kind : (b : ℕ) (bs : List ℕ) → is_unsigned (b ∷ bs) ≡ true → kind_for b ≡ Number
number_kind b bs e =
    elim (or_cases (is_run is_digit (b ∷ bs)) (is_hexadecimal (b ∷ bs)) e) [
      | inl digits ↦ digit_kind b (and_parts (is_digit b) _ digits).0
      | inr hex ↦ ap kind_for (eqb-true b 48 (and_parts (b == 48) _ hex).0)
    ]

-- a kind that the bytes spell is the one that their first byte may begin
pub spells-kind : (k : TokenKind) (b : ℕ) (bs : List ℕ) → spells k (b ∷ bs) ≡ true → kind_for b ≡ k
spells-kind Word b bs e = ap (λ t. if t then Word else after_word b) (and_parts (is_word_start b) _ e).0
spells-kind Variable b bs e =
    elim (or_cases (is_class_variable (b ∷ bs)) (is_method_variable (b ∷ bs)) e) [
      | inl one ↦ ap kind_for (eqb-true b 33 (and_parts (b == 33) _ one).0)
      | inr two ↦ ap kind_for (eqb-true b 33 (and_parts (b == 33) _ two).0)
    ]
spells-kind Number b bs e =
    elim (or_cases (is_unsigned (b ∷ bs)) (is_negative (b ∷ bs)) e) [
      | inl plain ↦ number_kind b bs plain
      | inr signed ↦ ap kind_for (eqb-true b 45 (and_parts (b == 45) _ signed).0)
    ]
spells-kind Text b bs e = ap kind_for (eqb-true b 34 (and_parts (b == 34) _ e).0)
spells-kind Mark b bs e = mark_kind_in marks b bs e refl

nothing_spelled : (k : TokenKind) → spells k [] ≡ false
nothing_spelled Word = refl
nothing_spelled Variable = refl
nothing_spelled Number = refl
nothing_spelled Text = refl
nothing_spelled Mark = refl

-- bytes spell tokens of one kind at most
pub one_kind : (j k : TokenKind) (bytes : List ℕ) → spells j bytes ≡ true → spells k bytes ≡ true → j ≡ k
one_kind j k [] e f = absurd (both_ways (spells j []) (nothing_spelled j) e)
one_kind j k (b ∷ bs) e f = sym (spells-kind j b bs e) ∙ spells-kind k b bs f

pub any_kind : (k : TokenKind) (bytes : List ℕ) → spells k bytes ≡ true → is_token bytes ≡ true
any_kind Word bytes e = or_left (spells Word bytes) _ e
any_kind Variable bytes e = or_right (spells Word bytes) _ (or_left (spells Variable bytes) _ e)
any_kind Number bytes e = or_right (spells Word bytes) _ (or_right (spells Variable bytes) _ (or_left (spells Number bytes) _ e))
any_kind Text bytes e = or_right (spells Word bytes) _ (or_right (spells Variable bytes) _ (or_right (spells Number bytes) _ (or_left (spells Text bytes) _ e)))
any_kind Mark bytes e = or_right (spells Word bytes) _ (or_right (spells Variable bytes) _ (or_right (spells Number bytes) _ (or_right (spells Text bytes) _ (or_left (spells Mark bytes) _ e))))

kind_in : (kinds : List TokenKind) (bytes : List ℕ) → list_any (λ kind. spells kind bytes) kinds ≡ true → (k : TokenKind) × (spells k bytes ≡ true)
kind_in [] bytes e = absurd (true≢false (sym e))
kind_in (k ∷ ks) bytes e =
    elim (or_cases (spells k bytes) (list_any (λ kind. spells kind bytes) ks) e) [
      | inl here ↦ (k, here)
      | inr later ↦ kind_in ks bytes later
    ]

pub token_kind : (bytes : List ℕ) → is_token bytes ≡ true → (k : TokenKind) × (spells k bytes ≡ true)
token_kind bytes e = kind_in (Word ∷ Variable ∷ Number ∷ Text ∷ Mark ∷ []) bytes e

token_is : (b : ℕ) (bs : List ℕ) → is_token (b ∷ bs) ≡ spells (kind_for b) (b ∷ bs)
token_is b bs =
    elim (cases_Bool (is_token (b ∷ bs))) [
      | inl e ↦ let found = kind_in (Word ∷ Variable ∷ Number ∷ Text ∷ Mark ∷ []) (b ∷ bs) e in
          e ∙ sym (ap (λ k. spells k (b ∷ bs)) (spells-kind found.0 b bs found.1) ∙ found.1)
      | inr e ↦ e ∙ sym (false_from_ne_true (spells (kind_for b) (b ∷ bs)) (λ f. both_ways (is_token (b ∷ bs)) e (any_kind (kind_for b) (b ∷ bs) f)))
    ]

token_front : (b : ℕ) (rest : List ℕ) (m : ℕ) → 0 < m → is_token (take m (b ∷ rest)) ≡ spells (kind_for b) (take m (b ∷ rest))
token_front b rest zero l = absurd (omega (arith, l))
token_front b rest (suc m) l = token_is b (take m rest)

pub token_len-is : (bytes : List ℕ) (b : ℕ) (rest : List ℕ) (kind : TokenKind) → bytes ≡ b ∷ rest → kind ≡ kind_for b → token_len bytes ≡ longest_front (spells kind) (length bytes) bytes
unfolding token_len
token_len-is bytes b rest kind e k =
    longest_front-same is_token (spells kind) (length bytes) bytes (λ m l h.
    ap (λ bs. is_token (take m bs)) e ∙ token_front b rest m l ∙ sym (ap (λ j. spells j (take m (b ∷ rest))) k) ∙ sym (ap (λ bs. spells kind (take m bs)) e))

other_kind : (j k : TokenKind) (bytes : List ℕ) → spells k bytes ≡ true → (j ≡ k → ⊥) → spells j bytes ≡ false
other_kind j k bytes e other = false_from_ne_true (spells j bytes) (λ f. other (one_kind j k bytes f e))

limit_none : (token : List ℕ) → (is_word token && nat_lt 255 (length token)) ≡ false → (is_number token && nat_lt (2 ^ 64 - 1) (magnitude_of token)) ≡ false → limit_cause token ≡ None
limit_none token e f =
    ap (λ t. if t then Some LongName else (if is_number token && nat_lt (2 ^ 64 - 1) (magnitude_of token) then Some BadLiteral else None)) e
    ∙ ap (λ t. if t then Some BadLiteral else None) f

no_word : (k : TokenKind) (token : List ℕ) → spells k token ≡ true → (Word ≡ k → ⊥) → (is_word token && nat_lt 255 (length token)) ≡ false
no_word k token e other = and_left (is_word token) (nat_lt 255 (length token)) (other_kind Word k token e other)

no_number : (k : TokenKind) (token : List ℕ) → spells k token ≡ true → (Number ≡ k → ⊥) → (is_number token && nat_lt (2 ^ 64 - 1) (magnitude_of token)) ≡ false
no_number k token e other = and_left (is_number token) (nat_lt (2 ^ 64 - 1) (magnitude_of token)) (other_kind Number k token e other)

pub limit_cause-within : (k : TokenKind) (token : List ℕ) → spells k token ≡ true → IsWithinLimit k token → limit_cause token ≡ None
limit_cause-within Word token e w = limit_none token (and_right (is_word token) (nat_lt 255 (length token)) (le-ltb 255 (length token) w)) (no_number Word token e (λ same. cc))
limit_cause-within Number token e w = limit_none token (no_word Number token e (λ same. cc)) (and_right (is_number token) (nat_lt (2 ^ 64 - 1) (magnitude_of token)) (le-ltb (2 ^ 64 - 1) (magnitude_of token) w))
limit_cause-within Variable token e w = limit_none token (no_word Variable token e (λ same. cc)) (no_number Variable token e (λ same. cc))
limit_cause-within Text token e w = limit_none token (no_word Text token e (λ same. cc)) (no_number Text token e (λ same. cc))
limit_cause-within Mark token e w = limit_none token (no_word Mark token e (λ same. cc)) (no_number Mark token e (λ same. cc))

pub limit_cause-past : (k : TokenKind) (token : List ℕ) → spells k token ≡ true → (IsWithinLimit k token → ⊥) → limit_cause token ≡ Some (limit_cause_of k)
limit_cause-past Word token e past =
    elim (cases_lt 255 (length token)) [
      | inl more ↦ ap (λ t. if t then Some LongName else (if is_number token && nat_lt (2 ^ 64 - 1) (magnitude_of token) then Some BadLiteral else None)) (and_from (is_word token) (nat_lt 255 (length token)) e (lt-ltb 255 (length token) more))
      | inr less ↦ absurd (past less)
    ]
limit_cause-past Number token e past =
    elim (cases_lt (2 ^ 64 - 1) (magnitude_of token)) [
      | inl more ↦
          ap (λ t. if t then Some LongName else (if is_number token && nat_lt (2 ^ 64 - 1) (magnitude_of token) then Some BadLiteral else None)) (no_word Number token e (λ same. cc))
          ∙ ap (λ t. if t then Some BadLiteral else None) (and_from (is_number token) (nat_lt (2 ^ 64 - 1) (magnitude_of token)) e (lt-ltb (2 ^ 64 - 1) (magnitude_of token) more))
      | inr less ↦ absurd (past less)
    ]
limit_cause-past Variable token e past = absurd (past tt)
limit_cause-past Text token e past = absurd (past tt)
limit_cause-past Mark token e past = absurd (past tt)

pub cause_of-gap : (bytes : List ℕ) → 0 < gap_len bytes → cause_of bytes ≡ None
unfolding cause_of
cause_of-gap bytes l = ap (λ t. if t then None else (if nat_lt 0 (token_len bytes) then limit_cause (take (token_len bytes) bytes) else Some (no_token_cause bytes))) (lt-ltb 0 (gap_len bytes) l)

cause_of-no_gap : (bytes : List ℕ) → gap_len bytes ≡ 0 → cause_of bytes ≡ (if nat_lt 0 (token_len bytes) then limit_cause (take (token_len bytes) bytes) else Some (no_token_cause bytes))
unfolding cause_of
cause_of-no_gap bytes e = ap (λ n. if nat_lt 0 n then None else (if nat_lt 0 (token_len bytes) then limit_cause (take (token_len bytes) bytes) else Some (no_token_cause bytes))) e

pub cause_of-token : (bytes : List ℕ) (len : ℕ) → gap_len bytes ≡ 0 → token_len bytes ≡ len → 0 < len → cause_of bytes ≡ limit_cause (take len bytes)
cause_of-token bytes len e f l =
    cause_of-no_gap bytes e ∙ ap (λ n. if nat_lt 0 n then limit_cause (take n bytes) else Some (no_token_cause bytes)) f
    ∙ ap (λ t. if t then limit_cause (take len bytes) else Some (no_token_cause bytes)) (lt-ltb 0 len l)

pub cause_of-none : (bytes : List ℕ) → gap_len bytes ≡ 0 → token_len bytes ≡ 0 → cause_of bytes ≡ Some (no_token_cause bytes)
cause_of-none bytes e f = cause_of-no_gap bytes e ∙ ap (λ n. if nat_lt 0 n then limit_cause (take n bytes) else Some (no_token_cause bytes)) f

pub cause_of-nothing : (bytes : List ℕ) → length bytes ≡ 0 → cause_of bytes ≡ Some BadByte
unfolding token_len
cause_of-nothing [] e = cause_of-none [] refl refl
cause_of-nothing (b ∷ bs) e = absurd (omega (arith, e))

-- what the scanner finds out about the token in front
pub has_token : (bytes : List ℕ) (b : ℕ) (rest : List ℕ) (kind : TokenKind) (len : ℕ) → bytes ≡ b ∷ rest → kind ≡ kind_for b → len ≡ longest_front (spells kind) (length bytes) bytes → (len ≡ 0 → ⊥) → len ≤ length bytes → gap_len bytes ≡ 0 → IsWithinLimit kind (take len bytes) → HasToken bytes kind len
has_token bytes b rest kind len e k is some inside gap within =
    let positive : 0 < len = omega (arith, some) in
    let long : token_len bytes ≡ len = token_len-is bytes b rest kind e k ∙ sym is in
    let spelled : spells kind (take len bytes) ≡ true = ap (λ n. spells kind (take n bytes)) is ∙ longest_front-spells (spells kind) (length bytes) bytes (omega (arith, positive, is)) in
    record {
      some = positive;
      inside = inside;
      longest = long;
      spelled = spelled;
      within = within;
      fine = cause_of-token bytes len gap long positive ∙ limit_cause-within kind (take len bytes) spelled within;
    }

pub past_limit : (bytes : List ℕ) (b : ℕ) (rest : List ℕ) (kind : TokenKind) (len : ℕ) → bytes ≡ b ∷ rest → kind ≡ kind_for b → len ≡ longest_front (spells kind) (length bytes) bytes → (len ≡ 0 → ⊥) → gap_len bytes ≡ 0 → (IsWithinLimit kind (take len bytes) → ⊥) → cause_of bytes ≡ Some (limit_cause_of kind)
past_limit bytes b rest kind len e k is some gap past =
    let positive : 0 < len = omega (arith, some) in
    let long : token_len bytes ≡ len = token_len-is bytes b rest kind e k ∙ sym is in
    let spelled : spells kind (take len bytes) ≡ true = ap (λ n. spells kind (take n bytes)) is ∙ longest_front-spells (spells kind) (length bytes) bytes (omega (arith, positive, is)) in
    cause_of-token bytes len gap long positive ∙ limit_cause-past kind (take len bytes) spelled past

pub no_token : (bytes : List ℕ) (b : ℕ) (rest : List ℕ) (kind : TokenKind) (len : ℕ) → bytes ≡ b ∷ rest → kind ≡ kind_for b → len ≡ longest_front (spells kind) (length bytes) bytes → len ≡ 0 → gap_len bytes ≡ 0 → cause_of bytes ≡ Some (no_token_cause (b ∷ []))
no_token bytes b rest kind len e k is none gap =
    cause_of-none bytes gap (token_len-is bytes b rest kind e k ∙ sym is ∙ none) ∙ ap (λ bs. Some (no_token_cause bs)) e

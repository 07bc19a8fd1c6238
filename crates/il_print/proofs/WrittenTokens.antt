-- What a text writes can be written again: numbers, literals and names that are tokens of it.
use Rattle.std.proofs.Common.{◌≡◌, ℕ, zero, suc, ◌-◌, ◌^◌, ◌<◌, ◌≤◌, Bool, true, false, ℤ, pos, List, [], ◌∷◌, ◌++◌, Some, None, refl, sym, ap, ◌∙◌, subst, arith, if◌then◌else◌, nat_lt, nat_le, length, get_or, le_trans}
use Rattle.std.specs.Prelude.{neg_ℤ}
use Rattle.std.specs.List.{AllByRecursion, list_all, Contains}
use Rattle.std.specs.Option.{unwrap_or, is_some}
use Rattle.std.specs.Int.{Width, w32, w64, cast_signed}
use Rattle.std.specs.Int.RustNames.{FitsSigned}
use Rattle.std.specs.Int.Signed.{mag}
use mir.Val.{bits, hbits}
use Rattle.std.proofs.Math.Facts.{sfits_to_z}
use Rattle.std.proofs.lemmas.Bool.{true≢false, and_parts, leb-true, ltb-true}
use Rattle.il_text.specs.declared.token.TokenKind.{TokenKind}
use Rattle.il_text.specs.declared.token.TokenKind.TheVariants as token
use Rattle.il_text.specs.declared.token.Token.{Token}
use Rattle.il_text.specs.Tokens.{AreTokensFrom}
use Rattle.il_text.specs.Spelling.{spells, is_negative, is_hexadecimal, magnitude_of, IsWithinLimit}
use Rattle.il_model.specs.declared.written.WrittenOperand.{WrittenOperand}
use Rattle.il_model.specs.declared.written.WrittenOperand.TheVariants as operand
use Rattle.il_model.specs.Lexemes.{Lexeme, lexemes_of, IsName, Many, none, more, Separated, last, next}
use Rattle.il_model.specs.Literals.{int32_value, int64_value, place_value, text_value}
use Rattle.il_model.specs.Spellings.{Shortened, shortened}
use Rattle.il_model.specs.Canonical.{Word}
use Rattle.il_print.proofs.TokenReads.{IsToken}
use Rattle.il_print.proofs.LiteralTokens.{text_value_writable}
use Rattle.il_print.proofs.Spellable.{IsNameWord, IsSpellableOperand}

-- each lexeme is a token of its kind, within the limit
abbrev pub AreLexemes : List Lexeme → Type 0
AreLexemes ls = AllByRecursion (λ (l : Lexeme). IsToken l.kind l.bytes) ls

nothing_spelled : (k : TokenKind) → spells k [] ≡ false
nothing_spelled token.Word = refl
nothing_spelled token.Variable = refl
nothing_spelled token.Number = refl
nothing_spelled token.Text = refl
nothing_spelled token.Mark = refl

spelled_token : (k : TokenKind) (w : Word) → spells k w ≡ true → IsWithinLimit k w → IsToken k w
spelled_token k [] e within = absurd (true≢false (sym e ∙ nothing_spelled k))
spelled_token k (b ∷ bs) e within = record { first = b; rest = bs; is = refl; spelled = e; within = within }

pub tokens_are : (text : List ℕ) (at : ℕ) (tokens : List Token) → AreTokensFrom text at tokens → AreLexemes (lexemes_of text tokens)
tokens_are text at [] read = tt
tokens_are text at (t ∷ ts) read = (spelled_token t.kind _ read.0.spelled read.0.within, tokens_are text t.to ts read.1)

pub lexemes_parts : (front back : List Lexeme) → AreLexemes (front ++ back) → AreLexemes front × AreLexemes back
lexemes_parts [] back are = (tt, are)
lexemes_parts (l ∷ front) back are = let parts = lexemes_parts front back are.1 in ((are.0, parts.0), parts.1)

pub name_word : (quoted : List (List ℕ)) (l : Lexeme) → IsName quoted l → IsToken l.kind l.bytes → IsNameWord l.bytes
name_word quoted l name is = subst (λ k. IsToken k l.bytes) name.word is

-- ---- lists of parts

pub many_give : {A : Type 0} {P : List Lexeme → A → Type 0} (Q : A → Type 0) → ((ws : List Lexeme) (x : A) → P ws x → AreLexemes ws → Q x) →
    (ws : List Lexeme) (xs : List A) → Many P ws xs → AreLexemes ws → AllByRecursion Q xs
many_give Q f ws xs none are = tt
many_give Q f ws xs (more us front back x ys split is rest) are =
    let parts = lexemes_parts front back (subst AreLexemes split are) in
    (f front x is parts.0, many_give Q f back ys rest parts.1)

pub separated_give : {A : Type 0} {mark : List ℕ} {P : List Lexeme → A → Type 0} (Q : A → Type 0) →
    ((ws : List Lexeme) (x : A) → P ws x → AreLexemes ws → Q x) → (ws : List Lexeme) (xs : List A) → Separated mark P ws xs → AreLexemes ws →
    AllByRecursion Q xs
separated_give Q f ws xs (last us x is) are = (f us x is are, tt)
separated_give Q f ws xs (next us front back l x ys split is same rest) are =
    let parts = lexemes_parts front (l ∷ back) (subst AreLexemes split are) in
    (f front x is parts.0, separated_give Q f back ys rest parts.1.1)

-- ---- numbers

mag-negated : (m : ℕ) → m ≤ 2 ^ 63 → mag (neg_ℤ (pos m)) < 2 ^ 63
mag-negated zero small = omega arith
mag-negated (suc m) small = omega arith

cast_short : (w : Width) (m : ℕ) → m < 2 ^ bits w → 2 ^ hbits w ≤ 2 ^ 63 → mag (cast_signed w m) < 2 ^ 63
cast_short w m small fits =
    let held : FitsSigned w (cast_signed w m) = sfits_to_z {w = w} {n = m} (record { fits = small }) in
    omega (arith, held.sfits, fits)

-- a value that a test lets through
tested : (P : ℤ → Type 0) (t : Bool) (z n : ℤ) → (t ≡ true → P z) → (if t then Some z else None) ≡ Some n → P n
tested P true z n holds e = subst P (ap (λ o. unwrap_or o z) e) (holds refl)
tested P false z n holds e = absurd (true≢false (sym (ap is_some e)))

-- the value of a number, by its sign and its digits
in_range : (negative hexadecimal : Bool) (m : ℕ) (w : Width) (half whole : ℕ) (n : ℤ) → half ≤ 2 ^ 63 → whole ≡ 2 ^ bits w → 2 ^ hbits w ≤ 2 ^ 63 →
    (if negative then (if nat_le m half then Some (neg_ℤ (pos m)) else None)
    else (if hexadecimal then (if nat_lt m whole then Some (cast_signed w m) else None)
    else (if nat_lt m half then Some (pos m) else None))) ≡ Some n →
    mag n < 2 ^ 63
in_range true hexadecimal m w half whole n low all fits e =
    tested (λ z. mag z < 2 ^ 63) (nat_le m half) (neg_ℤ (pos m)) n (λ t. mag-negated m (le_trans (leb-true m half t) low)) e
in_range false true m w half whole n low all fits e =
    tested (λ z. mag z < 2 ^ 63) (nat_lt m whole) (cast_signed w m) n (λ t. cast_short w m (subst (λ top. m < top) all (ltb-true m whole t)) fits) e
in_range false false m w half whole n low all fits e =
    tested (λ z. mag z < 2 ^ 63) (nat_lt m half) (pos m) n (λ t. le_trans (ltb-true m half t) low) e

int32_short : (bytes : List ℕ) (n : ℤ) → int32_value bytes ≡ Some n → mag n < 2 ^ 63
int32_short bytes n e =
    in_range (is_negative bytes) (is_hexadecimal bytes) (magnitude_of bytes) w32 (2 ^ 31) (2 ^ 32) n (omega arith) refl (omega arith) e

int64_short : (bytes : List ℕ) (n : ℤ) → int64_value bytes ≡ Some n → mag n < 2 ^ 63
int64_short bytes n e =
    in_range (is_negative bytes) (is_hexadecimal bytes) (magnitude_of bytes) w64 (2 ^ 63) (2 ^ 64) n (omega arith) refl (omega arith) e

-- a number without a sign, by its digits
unsigned_short : (negative : Bool) (m n : ℕ) → m ≤ 2 ^ 64 - 1 → (if negative then None else Some m) ≡ Some n → n < 2 ^ 64
unsigned_short true m n small e = absurd (true≢false (sym (ap is_some e)))
unsigned_short false m n small e =
    let same : m ≡ n = ap (λ o. unwrap_or o m) e in
    omega arith

number_within : (l : Lexeme) → l.kind ≡ token.Number → IsToken l.kind l.bytes → magnitude_of l.bytes ≤ 2 ^ 64 - 1
number_within l number is = (subst (λ k. IsToken k l.bytes) number is).within

pub int32_spellable : (l : Lexeme) (n : ℤ) → int32_value l.bytes ≡ Some n → IsSpellableOperand (operand.Int32 n)
int32_spellable l n e = int32_short l.bytes n e

pub int64_spellable : (l : Lexeme) (n : ℤ) → int64_value l.bytes ≡ Some n → IsSpellableOperand (operand.Int64 n)
int64_spellable l n e = int64_short l.bytes n e

pub place_spellable : (l : Lexeme) (n : ℕ) → l.kind ≡ token.Number → place_value l.bytes ≡ Some n → IsToken l.kind l.bytes →
    IsSpellableOperand (operand.Place n)
place_spellable l n number e is = unsigned_short (is_negative l.bytes) (magnitude_of l.bytes) n (number_within l number is) e

pub text_spellable : (l : Lexeme) → l.kind ≡ token.Text → IsToken l.kind l.bytes → IsSpellableOperand (operand.Text (text_value l.bytes))
text_spellable l text is = text_value_writable l.bytes (subst (λ k. IsToken k l.bytes) text is).spelled

-- ---- the operands that stand in short words

abbrev is_small : WrittenOperand → Bool
is_small operand.Nothing = false
is_small (operand.Int32 n) = nat_lt (mag n) 10
is_small (operand.Int64 n) = false
is_small (operand.Text bytes) = false
is_small (operand.Place n) = nat_lt n 10
is_small (operand.Label to) = false
is_small (operand.Labels to) = false
is_small (operand.Type t) = true
is_small (operand.Method m) = false
is_small (operand.Field f) = false
is_small (operand.Constrained t m) = false

small_spellable : (o : WrittenOperand) → is_small o ≡ true → IsSpellableOperand o
small_spellable operand.Nothing e = tt
small_spellable (operand.Int32 n) e = let low = ltb-true (mag n) 10 e in omega arith
small_spellable (operand.Int64 n) e = absurd (true≢false (sym e))
small_spellable (operand.Text bytes) e = absurd (true≢false (sym e))
small_spellable (operand.Place n) e = let low = ltb-true n 10 e in omega arith
small_spellable (operand.Label to) e = tt
small_spellable (operand.Labels to) e = tt
small_spellable (operand.Type t) e = tt
small_spellable (operand.Method m) e = absurd (true≢false (sym e))
small_spellable (operand.Field f) e = absurd (true≢false (sym e))
small_spellable (operand.Constrained t m) e = absurd (true≢false (sym e))

passes_at : {X : Type 0} (test : X → Bool) (xs : List X) (place : ℕ) (d : X) → list_all test xs ≡ true → place < length xs → test (get_or xs place d) ≡ true
passes_at test [] place d e inside = absurd (omega (arith, inside))
passes_at test (x ∷ xs) zero d e inside = (and_parts (test x) (list_all test xs) e).0
passes_at test (x ∷ xs) (suc place) d e inside = passes_at test xs place d (and_parts (test x) (list_all test xs) e).1 (omega (arith, inside))

pub shortened_spellable : (row : Shortened) → Contains shortened row → IsSpellableOperand row.operand
shortened_spellable row (place, inside, is) =
    small_spellable row.operand
    (subst (λ (r : Shortened). is_small r.operand ≡ true) is (passes_at (λ r. is_small r.operand) shortened place row refl inside))

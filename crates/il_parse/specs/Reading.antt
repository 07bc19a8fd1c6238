-- Reading lexemes in order: what is read and which lexemes remain, or the first place that refuses. This project's own.
use Rattle.std.specs.Prelude.{◌≡◌, ℕ, zero, suc, Bool, true, false, not, ◌&&◌, if◌then◌else◌, List, [], ◌∷◌, ◌++◌, drop, length, Option, Some, None, Result, Ok, Err, codes, bytes_eq, ⊤}
use Rattle.il_text.specs.declared.token.TokenKind.{TokenKind}
use Rattle.il_text.specs.declared.token.TokenKind.TheVariants as token
use Rattle.il_model.specs.declared.written.WrittenName.{WrittenName}
use Rattle.il_model.specs.Lexemes.{Lexeme, is_among, name_at}
use Rattle.il_parse.specs.declared.fault.Fault.{Fault}
use Rattle.il_parse.specs.declared.fault.ReadError.{ReadError}
use Rattle.il_parse.specs.declared.fault.ReadError.TheVariants as error
use Rattle.il_parse.specs.declared.fault.ParseCause.{ParseCause}
use Rattle.il_parse.specs.declared.fault.ParseCause.TheVariants as cause

-- what is read in front of lexemes, with those that remain
abbrev pub Read : Type 0 → Type 0
Read A = Result (A × List Lexeme) Fault

abbrev pub Reader : Type 0 → Type 0
Reader A = List Lexeme → Read A

abbrev pub and_then : {A B : Type 0} → Read A → (A → Reader B) → Read B
and_then (Ok p) next = next p.0 p.1
and_then (Err fault) next = Err fault

infixl 10 ◌>>=◌
abbrev pub ◌>>=◌ : {A B : Type 0} → Reader A → (A → Reader B) → Reader B
r >>= next = λ ws. and_then (r ws) next

infixl 10 ◌>>◌
abbrev pub ◌>>◌ : {A B : Type 0} → Reader A → Reader B → Reader B
r >> s = r >>= (λ _. s)

abbrev pub pure : {A : Type 0} → A → Reader A
pure x = λ ws. Ok (x, ws)

-- what a call of the parser answers, and the lexemes that it leaves; want of memory says nothing
abbrev pub Reads : {A : Type 0} → Read A → Result A ReadError → List Lexeme → Type 0
Reads read (Ok x) new = read ≡ Ok (x, new)
Reads read (Err (error.Fault fault)) new = read ≡ Err fault
Reads read (Err error.Memory) new = ⊤

-- the words of ILAsm that this project leaves out
abbrev pub unsupported_words : List (List ℕ)
unsupported_words =
    codes "filter" ∷ codes "fault" ∷ codes "finally" ∷ codes "rethrow" ∷ codes "endfinally" ∷ codes "ldftn" ∷ codes "ldvirtftn" ∷ []

-- the place of the first of these lexemes, or the end of the text
abbrev pub place_of_first : List Lexeme → Option ℕ
place_of_first [] = None
place_of_first (l ∷ ws) = Some l.at

abbrev pub fault_at : List Lexeme → ParseCause → Fault
fault_at ws why = record { at = place_of_first ws; cause = why }

-- why the first of these lexemes can't go on
abbrev pub stuck_cause : List Lexeme → ParseCause
stuck_cause [] = cause.Syntax
stuck_cause (l ∷ ws) = if is_among unsupported_words l.bytes then cause.Unsupported else cause.Syntax

unfoldable pub stuck_fault : List Lexeme → Fault
stuck_fault ws = fault_at ws (stuck_cause ws)

-- no text begins with the lexemes up to the first of these
abbrev pub stuck : {A : Type 0} → Reader A
stuck = λ ws. Err (stuck_fault ws)

-- the first of these lexemes is refused for this
abbrev pub refuse : {A : Type 0} → ParseCause → Reader A
refuse why = λ ws. Err (fault_at ws why)

-- the lexemes that are left
abbrev pub here : Reader (List Lexeme)
here = λ ws. Ok (ws, ws)

-- the first lexeme is this word or mark
unfoldable pub sees : List ℕ → List Lexeme → Bool
sees spelling [] = false
sees spelling (l ∷ ws) = bytes_eq spelling l.bytes

-- the lexemes behind this word or mark, or all where it doesn't stand here
unfoldable pub after : List ℕ → List Lexeme → List Lexeme
after spelling ws = if sees spelling ws then drop 1 ws else ws

-- whether this word or mark stands here; it is read then
abbrev pub eat : List ℕ → Reader Bool
eat spelling = λ ws. Ok (sees spelling ws, after spelling ws)

-- this word or mark, which must stand here
unfoldable pub expect : List ℕ → Reader (Unit {0})
expect spelling = λ ws. if sees spelling ws then Ok (tt, drop 1 ws) else stuck ws

-- the place of this word or mark, which must stand here
unfoldable pub expect_at : List ℕ → Reader ℕ
expect_at spelling [] = stuck []
expect_at spelling (l ∷ ws) = if bytes_eq spelling l.bytes then Ok (l.at, ws) else stuck (l ∷ ws)

abbrev pub is_word_kind : TokenKind → Bool
is_word_kind token.Word = true
is_word_kind token.Variable = false
is_word_kind token.Number = false
is_word_kind token.Text = false
is_word_kind token.Mark = false

-- a name, which is a word other than these
unfoldable pub read_name_but : List (List ℕ) → Reader WrittenName
read_name_but quoted [] = stuck []
read_name_but quoted (l ∷ ws) =
    if is_word_kind l.kind && not (is_among quoted l.bytes) then Ok (name_at l, ws) else stuck (l ∷ ws)

-- a name that may be any word
unfoldable pub read_name : Reader WrittenName
read_name = read_name_but []

module _ {A : Type 0} (item : Reader A) where
  -- parts one after another behind those found, as long as this word begins one; the number is at least that of the lexemes
  unfoldable pub many_from : List ℕ → ℕ → List A → Reader (List A)
  many_from first zero found = pure found
  many_from first (suc n) found = λ ws. if sees first ws then (item >>= (λ x. many_from first n (found ++ x ∷ []))) ws else Ok (found, ws)

  unfoldable pub read_many : List ℕ → Reader (List A)
  read_many first = λ ws. many_from first (length ws) [] ws

  -- one part or several behind those found, with a mark between each two; the number is at least that of the lexemes
  unfoldable pub separated_from : List ℕ → ℕ → List A → Reader (List A)
  separated_from mark zero found = stuck
  separated_from mark (suc n) found = do
    x ← item
    goes_on ← eat mark
    if goes_on then separated_from mark n (found ++ x ∷ []) else pure (found ++ x ∷ [])

  unfoldable pub read_separated : List ℕ → Reader (List A)
  read_separated mark = λ ws. separated_from mark (length ws) [] ws

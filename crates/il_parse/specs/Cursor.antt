-- What a cursor keeps of the tokens that are left, and what their first lexeme shows. This project's own.
use Rattle.std.specs.Prelude.{ℕ, ◌≤◌, ◌<◌, ◌≡◌, if◌then◌else◌, Bool, true, false, List, [], ◌∷◌, length, slice_range, Option, Some, None, Ok}
use Rattle.std.specs.List.{AllByRecursion}
use Rattle.std.specs.Str.{IsAscii}
use Rattle.il_text.specs.declared.token.Token.{Token}
use Rattle.il_text.specs.declared.token.TokenKind.{TokenKind}
use Rattle.il_text.specs.declared.token.TokenKind.TheVariants as token
use Rattle.il_text.specs.Spelling.{spells, IsWithinLimit}
use Rattle.il_model.specs.declared.written.WrittenName.{WrittenName}
use Rattle.il_model.specs.Lexemes.{Lexeme, name_at}
use Rattle.il_parse.specs.declared.fault.Fault.{Fault}
use Rattle.il_parse.specs.declared.fault.ParseCause.TheVariants as cause
use Rattle.il_parse.specs.Reading.{Reader, stuck, stuck_fault, fault_at, is_word_kind}

-- the token is a slice of the text, of ASCII bytes, that spells its kind within its limit
pub record IsReadable (text : List ℕ) (t : Token) : Type 0 where
  pub some : t.from < t.to
  pub inside : t.to ≤ length text
  pub ascii : IsAscii (slice_range text t.from t.to)
  pub spelled : spells t.kind (slice_range text t.from t.to) ≡ true
  pub within : IsWithinLimit t.kind (slice_range text t.from t.to)

abbrev pub AreReadable : List ℕ → List Token → Type 0
AreReadable text tokens = AllByRecursion (IsReadable text) tokens

-- the kind of the first lexeme
abbrev pub kind_of_first : List Lexeme → Option TokenKind
kind_of_first [] = None
kind_of_first (l ∷ ws) = Some l.kind

-- the bytes of the first lexeme, of which there are none at the end
abbrev pub bytes_of_first : List Lexeme → List ℕ
bytes_of_first [] = []
bytes_of_first (l ∷ ws) = l.bytes

-- any lexeme as a name
unfoldable pub read_any : Reader WrittenName
read_any [] = stuck []
read_any (l ∷ ws) = Ok (name_at l, ws)

-- whether the first lexeme is a word
abbrev pub is_word_at : List Lexeme → Bool
is_word_at [] = false
is_word_at (l ∷ ws) = is_word_kind l.kind

-- the kind of the first lexeme, and the lexeme as a name
abbrev pub first_entry : List Lexeme → Option (TokenKind × WrittenName)
first_entry [] = None
first_entry (l ∷ ws) = Some (l.kind, name_at l)

-- the fault where no name may come any more
abbrev pub no_name_fault : List Lexeme → Fault
no_name_fault ws = if is_word_at ws then fault_at ws cause.TooMany else stuck_fault ws

-- the bytes of a number, where the lexeme is of that kind
abbrev pub number_by_kind : TokenKind → List ℕ → Option (List ℕ)
number_by_kind token.Number bytes = Some bytes
number_by_kind token.Word bytes = None
number_by_kind token.Variable bytes = None
number_by_kind token.Text bytes = None
number_by_kind token.Mark bytes = None

abbrev pub text_by_kind : TokenKind → List ℕ → Option (List ℕ)
text_by_kind token.Text bytes = Some bytes
text_by_kind token.Word bytes = None
text_by_kind token.Variable bytes = None
text_by_kind token.Number bytes = None
text_by_kind token.Mark bytes = None

-- the bytes of the first lexeme, where it is a number, and where it is a text
abbrev pub number_of_first : List Lexeme → Option (List ℕ)
number_of_first [] = None
number_of_first (l ∷ ws) = number_by_kind l.kind l.bytes

abbrev pub text_of_first : List Lexeme → Option (List ℕ)
text_of_first [] = None
text_of_first (l ∷ ws) = text_by_kind l.kind l.bytes

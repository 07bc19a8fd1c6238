-- Reading numbers and texts, by what the first lexeme shows.
use Rattle.std.proofs.Common.{◌≡◌, ℕ, List, [], ◌∷◌, drop, Option, Some, None, Ok, Err, refl}
use Rattle.il_text.specs.declared.token.TokenKind.{TokenKind}
use Rattle.il_text.specs.declared.token.TokenKind.TheVariants as token
use Rattle.il_model.specs.Lexemes.{Lexeme}
use Rattle.il_model.specs.Literals.{text_value}
use Rattle.il_parse.specs.Reading.{stuck_fault}
use Rattle.il_parse.specs.Operands.{read_number, number_value, read_text, literal_value}
use Rattle.il_parse.specs.Cursor.{number_of_first, number_by_kind, text_of_first, text_by_kind}

none_kind : {A : Type 0} (value : List ℕ → Option A) (k : TokenKind) (bytes : List ℕ) → None ≡ number_by_kind k bytes → number_value value k bytes ≡ None
none_kind value token.Number bytes e = absurd cc
none_kind value token.Word bytes e = refl
none_kind value token.Variable bytes e = refl
none_kind value token.Text bytes e = refl
none_kind value token.Mark bytes e = refl

some_kind : {A : Type 0} (value : List ℕ → Option A) (k : TokenKind) (bytes found : List ℕ) → Some found ≡ number_by_kind k bytes → number_value value k bytes ≡ value found
some_kind value token.Number bytes found e = let same : found ≡ bytes = cc in rw same refl
some_kind value token.Word bytes found e = absurd cc
some_kind value token.Variable bytes found e = absurd cc
some_kind value token.Text bytes found e = absurd cc
some_kind value token.Mark bytes found e = absurd cc

pub number_none : {A : Type 0} (value : List ℕ → Option A) (ws : List Lexeme) → None ≡ number_of_first ws → read_number value ws ≡ Err (stuck_fault ws)
unfolding read_number
number_none value [] e = refl
number_none value (l ∷ ws) e = rw (none_kind value l.kind l.bytes e) refl

pub number_out : {A : Type 0} (value : List ℕ → Option A) (ws : List Lexeme) (bytes : List ℕ) → Some bytes ≡ number_of_first ws → None ≡ value bytes →
    read_number value ws ≡ Err (stuck_fault ws)
unfolding read_number
number_out value [] bytes e none = absurd cc
number_out value (l ∷ ws) bytes e none = rw (some_kind value l.kind l.bytes bytes e, ← none) refl

pub number_in : {A : Type 0} (value : List ℕ → Option A) (ws : List Lexeme) (bytes : List ℕ) (x : A) → Some bytes ≡ number_of_first ws → Some x ≡ value bytes →
    read_number value ws ≡ Ok (x, drop 1 ws)
unfolding read_number
number_in value [] bytes x e some = absurd cc
number_in value (l ∷ ws) bytes x e some = rw (some_kind value l.kind l.bytes bytes e, ← some) refl

no_text : (k : TokenKind) (bytes : List ℕ) → None ≡ text_by_kind k bytes → literal_value k bytes ≡ None
no_text token.Text bytes e = absurd cc
no_text token.Word bytes e = refl
no_text token.Variable bytes e = refl
no_text token.Number bytes e = refl
no_text token.Mark bytes e = refl

a_text : (k : TokenKind) (bytes found : List ℕ) → Some found ≡ text_by_kind k bytes → literal_value k bytes ≡ Some (text_value found)
a_text token.Text bytes found e = let same : found ≡ bytes = cc in rw same refl
a_text token.Word bytes found e = absurd cc
a_text token.Variable bytes found e = absurd cc
a_text token.Number bytes found e = absurd cc
a_text token.Mark bytes found e = absurd cc

pub text_none : (ws : List Lexeme) → None ≡ text_of_first ws → read_text ws ≡ Err (stuck_fault ws)
unfolding read_text
text_none [] e = refl
text_none (l ∷ ws) e = rw (no_text l.kind l.bytes e) refl

pub text_some : (ws : List Lexeme) (bytes : List ℕ) → Some bytes ≡ text_of_first ws → read_text ws ≡ Ok (text_value bytes, drop 1 ws)
unfolding read_text
text_some [] bytes e = absurd cc
text_some (l ∷ ws) bytes e = rw (a_text l.kind l.bytes bytes e) refl

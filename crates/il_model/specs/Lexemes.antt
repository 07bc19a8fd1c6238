-- Lexemes: the tokens of a text, each with its place and what it spells. This project's own.
use Rattle.std.specs.Prelude.{◌≡◌, ℕ, Bool, true, false, List, [], ◌∷◌, ◌++◌, map, slice_range, bytes_eq}
use Rattle.std.specs.List.{list_any}
use Rattle.il_text.specs.declared.token.TokenKind.{TokenKind}
use Rattle.il_text.specs.declared.token.TokenKind.TheVariants.{Word}
use Rattle.il_text.specs.declared.token.Token.{Token}
use Rattle.il_model.specs.declared.written.WrittenName.{WrittenName}

pub record Lexeme : Type 0 where
  pub kind : TokenKind
  pub at : ℕ
  pub bytes : List ℕ

abbrev pub lexeme_of : List ℕ → Token → Lexeme
lexeme_of text t = record { kind = t.kind; at = t.from; bytes = slice_range text t.from t.to }

abbrev pub lexemes_of : List ℕ → List Token → List Lexeme
lexemes_of text tokens = map (lexeme_of text) tokens

-- the lexeme is just this word or mark
abbrev pub Is : List ℕ → Lexeme → Type 0
Is spelling l = l.bytes ≡ spelling

abbrev pub is_among : List (List ℕ) → List ℕ → Bool
is_among words bytes = list_any (λ word. bytes_eq word bytes) words

-- a name: a word, other than those that the grammar quotes at this place
pub record IsName (quoted : List (List ℕ)) (l : Lexeme) : Type 0 where
  pub word : l.kind ≡ Word
  pub free : is_among quoted l.bytes ≡ false

abbrev pub name_at : Lexeme → WrittenName
name_at l = record { at = l.at; name = l.bytes }

-- a quoted word that may stand there
pub data IsOptional (spelling : List ℕ) : List Lexeme → Bool → Type 0 where
  absent : IsOptional spelling [] false
  present : (l : Lexeme) → Is spelling l → IsOptional spelling (l ∷ []) true

-- parts one after another, as many as there are
pub data Many {A : Type 0} (P : List Lexeme → A → Type 0) : List Lexeme → List A → Type 0 where
  none : Many P [] []
  more : (ws front back : List Lexeme) (x : A) (xs : List A) → ws ≡ front ++ back → P front x → Many P back xs →
      Many P ws (x ∷ xs)

-- one part or several, with a mark between each two
pub data Separated (mark : List ℕ) {A : Type 0} (P : List Lexeme → A → Type 0) : List Lexeme → List A → Type 0 where
  last : (ws : List Lexeme) (x : A) → P ws x → Separated mark P ws (x ∷ [])
  next : (ws front back : List Lexeme) (l : Lexeme) (x : A) (xs : List A) → ws ≡ front ++ l ∷ back → P front x → Is mark l →
      Separated mark P back xs → Separated mark P ws (x ∷ xs)

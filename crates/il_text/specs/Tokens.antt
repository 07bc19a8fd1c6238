-- The tokens of an assembly text. This project's own.
use Rattle.std.specs.Prelude.{◌≡◌, ◌≤◌, ◌<◌, ℕ, true, List, [], ◌∷◌, ◌++◌, codes, length, drop, slice_range, IsTrue}
use Rattle.std.specs.List.{list_all}
use Rattle.il_text.specs.declared.token.Token.{Token}
use Rattle.il_text.specs.declared.token.TokenKind.{TokenKind}
use Rattle.il_text.specs.Bytes.{is_blank, is_comment_byte}
use Rattle.il_text.specs.Spelling.{spells, IsWithinLimit}

-- blanks and comments alone; a comment is `//` and ASCII bytes, up to the end of its line
pub data IsGap : List ℕ → Type 0 where
  nothing : IsGap []
  blank : (b : ℕ) (rest : List ℕ) → is_blank b ≡ true → IsGap rest → IsGap (b ∷ rest)
  comment : (inside rest bytes : List ℕ) → list_all is_comment_byte inside ≡ true → bytes ≡ codes "//" ++ (inside ++ 10 ∷ rest) → IsGap rest → IsGap bytes

-- what stands behind the last token: blanks and comments, where the end of the text may end the last comment
pub data IsLastGap : List ℕ → Type 0 where
  ended : (bytes : List ℕ) → IsGap bytes → IsLastGap bytes
  unended : (front inside bytes : List ℕ) → IsGap front → list_all is_comment_byte inside ≡ true → bytes ≡ front ++ (codes "//" ++ inside) → IsLastGap bytes

-- no kind of token spells the text from here to a place behind the token's end
abbrev pub IsLongest : List ℕ → Token → Type 0
IsLongest text t = (kind : TokenKind) (end : ℕ) → t.to < end → end ≤ length text → ¬ IsTrue (spells kind (slice_range text t.from end))

-- the token is the next one from this place on: blanks and comments alone lie before it, and it is as long as it can be
pub record IsNext (text : List ℕ) (at : ℕ) (t : Token) : Type 0 where
  pub later : at ≤ t.from
  pub apart : IsGap (slice_range text at t.from)
  pub inside : t.to ≤ length text
  pub spelled : IsTrue (spells t.kind (slice_range text t.from t.to))
  pub longest : IsLongest text t
  pub within : IsWithinLimit t.kind (slice_range text t.from t.to)

-- the text from this place on has these tokens, and blanks and comments besides
abbrev pub AreTokensFrom : List ℕ → ℕ → List Token → Type 0
AreTokensFrom text at [] = IsLastGap (drop at text)
AreTokensFrom text at (t ∷ ts) = IsNext text at t × AreTokensFrom text t.to ts

-- the tokens of a text, which has at most 4,194,304 bytes
pub record AreTokens (text : List ℕ) (tokens : List Token) : Type 0 where
  pub short : length text ≤ 4194304
  pub read : AreTokensFrom text 0 tokens

-- the token is a slice of the text
pub record IsSlice (text : List ℕ) (t : Token) : Type 0 where
  pub some : t.from < t.to
  pub inside : t.to ≤ length text

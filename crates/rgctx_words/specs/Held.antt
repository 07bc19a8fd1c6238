-- Words that are held: a function from indexes, which is 0 where nothing is held. This project's own.
use Rattle.std.specs.Prelude.{◌≡◌, ◌≢◌, ℕ, List, [], ◌∷◌, ◌++◌, length, slice_index, Option, Some, None}
use Rattle.rgctx_words.specs.Regions.{word_count}

-- each held word stands in the list
abbrev pub Within : (ℕ → ℕ) → List ℕ → Type 0
Within held words = (j : ℕ) → held j ≢ 0 → slice_index words j ≡ held j

-- what is held stays held
abbrev pub Grows : (ℕ → ℕ) → (ℕ → ℕ) → Type 0
Grows before after = (j : ℕ) → before j ≢ 0 → after j ≡ before j

-- the claims that found 0, where they are listed, with one more at the end
abbrev pub with_claim : Option (List (ℕ × ℕ)) → ℕ → ℕ → Option (List (ℕ × ℕ))
with_claim None i word = None
with_claim (Some claims) i word = Some (claims ++ (i, word) ∷ [])

-- as many words as there are, which fit
pub record AreFit (Fit : List ℕ → Type 0) (words : List ℕ) : Type 0 where
  pub count : length words ≡ word_count
  pub fits : Fit words

-- some list of words fits and has all that is held
pub record IsSound (Fit : List ℕ → Type 0) (held : ℕ → ℕ) : Type 0 where
  pub words : List ℕ
  pub fit : AreFit Fit words
  pub within : Within held words

-- The context words of a run, with the claims that found 0. This project's own.
use Rattle.std.specs.Prelude.{◌≡◌, ◌≢◌, ℕ, suc, ◌≤◌, ◌<◌, ◌==◌, Bool, true, false, if◌then◌else◌, List, [], ◌∷◌, ◌++◌, length, map, slice_index, slice_set}
use Rattle.rgctx_words.specs.Regions.{word_count}

-- the words, and the indexes of the claims that found 0, in order
pub record Listed : Type 0 where
  pub words : List ℕ
  pub claimed : List ℕ

-- each of these indexes has a word
abbrev pub ArePut : List ℕ → List ℕ → Type 0
ArePut words [] = Unit {0}
ArePut words (i ∷ is) = (slice_index words i ≢ 0) × ArePut words is

-- how many words are not 0
abbrev pub used_in : List ℕ → ℕ
used_in [] = 0
used_in (w ∷ ws) = if w == 0 then used_in ws else suc (used_in ws)

pub record IsListed (l : Listed) : Type 0 where
  pub count : length l.words ≡ word_count
  pub few : length l.claimed ≤ used_in l.words
  pub put : ArePut l.words l.claimed

-- the claims that found 0, in order, each with the word that was put
abbrev pub claim_at : List ℕ → ℕ → ℕ × ℕ
claim_at words i = (i, slice_index words i)

abbrev pub claims_of : Listed → List (ℕ × ℕ)
claims_of l = map (claim_at l.words) l.claimed

abbrev pub is_claimed : List ℕ → ℕ → Bool
is_claimed [] j = false
is_claimed (i ∷ is) j = if j == i then true else is_claimed is j

-- the words without those that were claimed
abbrev pub unclaimed : Listed → ℕ → ℕ
unclaimed l j = if is_claimed l.claimed j then 0 else slice_index l.words j

-- a word may be put where 0 stands
pub record MayPut (l : Listed) (i new : ℕ) : Type 0 where
  pub inside : i < word_count
  pub free : slice_index l.words i ≡ 0
  pub used : new ≢ 0

abbrev pub with_put : Listed → ℕ → ℕ → Listed
with_put l i new = record { words = slice_set l.words i new; claimed = l.claimed ++ i ∷ [] }

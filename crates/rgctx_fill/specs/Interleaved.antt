-- Fills that take their turns on the same words, in any order. This project's own.
use Rattle.std.specs.Prelude.{◌≡◌, ℕ, ◌==◌, List, [], ◌∷◌, slice_get, slice_set, Option, Some, None, if◌then◌else◌}
use Rattle.rgctx_template.specs.Catalogue.{CatData}
use Rattle.rgctx_fill.specs.declared.stage.FillNext.{FillNext}
use Rattle.rgctx_fill.specs.declared.stage.FillNext.TheVariants as next
use Rattle.rgctx_fill.specs.Fitting.{AreFitting}
use Rattle.rgctx_fill.specs.Turns.{FillData, next_of, taken}
use Rattle.rgctx_fill.specs.Ready.{IsReady}

-- the words, and the fills under way
pub record Shared : Type 0 where
  pub at : ℕ → ℕ
  pub fills : List FillData

-- the words with one word at an index
abbrev pub with_word : (ℕ → ℕ) → ℕ → ℕ → ℕ → ℕ
with_word at i word j = if j == i then word else at j

-- the words after a load or a claim
abbrev pub words_after : (ℕ → ℕ) → FillNext → ℕ → ℕ
words_after at (next.Load i) = at
words_after at (next.Claim i word) = if at i == 0 then with_word at i word else at
words_after at (next.Full r key) = at
words_after at next.Nothing = at

-- the fill after it
abbrev pub fill_after : (ℕ → ℕ) → FillData → FillNext → FillData
fill_after at f (next.Load i) = taken f (at i)
fill_after at f (next.Claim i word) = taken f (at i)
fill_after at f (next.Full r key) = f
fill_after at f next.Nothing = f

abbrev pub turned_if : Shared → ℕ → Option FillData → Shared
turned_if s k None = s
turned_if s k (Some f) = record { at = words_after s.at (next_of f); fills = slice_set s.fills k (fill_after s.at f (next_of f)) }

-- the fill with this number makes its next turn; a number that no fill has changes nothing
abbrev pub turned : Shared → ℕ → Shared
turned s k = turned_if s k (slice_get s.fills k)

-- the fills with these numbers make a turn each, in this order
abbrev pub interleaved : Shared → List ℕ → Shared
interleaved s [] = s
interleaved s (k ∷ ks) = interleaved (turned s k) ks

-- the words fit, and each fill is one under way on them
pub record AreUnderWay (cat : CatData) (s : Shared) : Type 0 where
  pub fits : AreFitting cat s.at
  pub ready : (k : ℕ) (f : FillData) → slice_get s.fills k ≡ Some f → IsReady cat s.at f

-- the turn that a fill makes on its own: this is the fill after it, and these are the words
pub record IsTurned (before after : ℕ → ℕ) (f new : FillData) : Type 0 where
  pub fill : new ≡ fill_after before f (next_of f)
  pub words : (j : ℕ) → after j ≡ words_after before (next_of f) j

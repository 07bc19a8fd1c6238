-- The words of many types at once, in rounds: in each round a type takes the words that its parts had in the round before. This project's own.
use Rattle.std.specs.Prelude.{◌≡◌, ◌≤◌, ℕ, zero, suc, min, List, map, slice_get, sum_by, unwrap_or, Option, Some, None, option_map}
use Rattle.type_tree.specs.declared.tree.TExpr.{TExpr}
use Rattle.il_model.specs.declared.program.Program.{Program}
use Rattle.il_model.specs.Layouts.{parts_of, words_of}

-- the words of a value of a type, cut to a cap
abbrev pub capped_words : ℕ → Program → TExpr → ℕ
capped_words most program t = min (words_of program t) most

-- the types that stand at the places of a row; a row without places is that of a type without parts
abbrev pub seen_row : List TExpr → Option (List ℕ) → Option (List (Option TExpr))
seen_row kinds row = option_map (map (slice_get kinds)) row

-- the parts of a type, each found
abbrev pub found_parts : Option (List TExpr) → Option (List (Option TExpr))
found_parts parts = option_map (map Some) parts

abbrev pub parts_seen : Program → TExpr → Option (List (Option TExpr))
parts_seen program t = found_parts (parts_of program t)

-- a list of types that has the parts of each, with the places of the parts, and the places of those asked of
pub record IsOpened (program : Program) (asked : List TExpr) (places : List ℕ) (rows : List (Option (List ℕ))) : Type 0 where
  pub kinds : List TExpr
  pub at : map (slice_get kinds) places ≡ map Some asked
  pub parts : map (seen_row kinds) rows ≡ map (parts_seen program) kinds

-- the words at a place
abbrev pub word_in : List ℕ → ℕ → ℕ
word_in now place = unwrap_or (slice_get now place) 0

-- what a type of this row takes, from the words at all places
abbrev pub row_words : ℕ → List ℕ → Option (List ℕ) → ℕ
row_words most now None = min 1 most
row_words most now (Some places) = min (sum_by (word_in now) places) most

-- the words at all places in the next round
abbrev pub next_round : ℕ → List (Option (List ℕ)) → List ℕ → List ℕ
next_round most rows now = map (row_words most now) rows

-- the words at all places after so many rounds
abbrev pub rounds : ℕ → List (Option (List ℕ)) → ℕ → List ℕ
rounds most rows zero = map (λ row. min 1 most) rows
rounds most rows (suc n) = next_round most rows (rounds most rows n)

-- whether more rounds than so many change nothing
pub record AreSettled (most : ℕ) (rows : List (Option (List ℕ))) (n : ℕ) : Type 0 where
  pub more : (m : ℕ) → n ≤ m → rounds most rows m ≡ rounds most rows n

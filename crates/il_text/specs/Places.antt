-- Lines and columns. This project's own.
use Rattle.std.specs.Prelude.{ℕ, ◌+◌, ◌==◌, List, length, count_by}
use Rattle.std.specs.List.{after_last}
use Rattle.il_text.specs.declared.place.Spot.{Spot}

-- the place behind these bytes: both numbers count from 1, and a column is one byte
abbrev pub spot_after : List ℕ → Spot
spot_after before = record {
  line = count_by (λ b. b == 10) before + 1;
  column = length (after_last (λ b. b == 10) before) + 1;
}

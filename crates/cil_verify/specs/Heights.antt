-- How many classes the ways up from a class have. This project's own.
use Rattle.std.specs.Prelude.{◌≡◌, ℕ, ◌<◌, ◌≤◌, nat_le, false, List, [], ◌∷◌, slice_get, Option, Some, None}
use Rattle.std.specs.List.{list_all}
use Rattle.il_model.specs.declared.program.Program.{Program}
use Rattle.il_model.specs.ClassRules.{ends_within}

-- all ways up from these classes end within so many classes exactly where that is at least this height
abbrev pub AreAsHigh : Program → List ℕ → ℕ → Type 0
AreAsHigh program numbers height = (n : ℕ) → list_all (λ number. ends_within program n number) numbers ≡ nat_le height n

-- the heights that are known of classes, by their numbers; 0 where none is known
abbrev pub AreHeights : Program → List ℕ → Type 0
AreHeights program heights = (number height : ℕ) → slice_get heights number ≡ Some height → 0 < height → AreAsHigh program (number ∷ []) height

-- what is answered of these classes: their height, or that some way up does not end within so many classes
abbrev pub EndsAt : Program → ℕ → List ℕ → Option ℕ → Type 0
EndsAt program levels numbers None = list_all (λ number. ends_within program levels number) numbers ≡ false
EndsAt program levels numbers (Some height) = (height ≤ levels) × AreAsHigh program numbers height

-- Labels of one assembler.
use Rattle.std.specs.Prelude.{◌≡◌, ℕ, ◌<◌, List, Some, slice_get}
use Rattle.mn_outside.specs.declared.places.Label.{Label}

-- each of these labels was made by an assembler that has made so many
abbrev pub AreMade : List Label → ℕ → Type 0
AreMade ls count = (i : ℕ) (l : Label) → slice_get ls i ≡ Some l → l.number < count

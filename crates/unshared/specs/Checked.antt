-- Checked arithmetic on words. Only private contracts cite it.
use Rattle.std.specs.Prelude.{ℕ, Option, Some, None, if◌then◌else◌}
use Rattle.cil_meaning.specs.Groups.{Checked}
use Rattle.cil_meaning.specs.Arithmetic.{Width, fits, is_signed_of, exact_of, wrapped_int}

-- the word of the exact result, where it fits
abbrev pub checked_word : Checked → Width → ℕ → ℕ → Option ℕ
checked_word form width a b = if fits (is_signed_of form) width (exact_of form width a b) then Some (wrapped_int width (exact_of form width a b)) else None

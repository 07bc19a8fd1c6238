-- The first method with an entry point. This project's own.
use Rattle.std.specs.Prelude.{ℕ, ◌+◌, if◌then◌else◌, List, [], ◌∷◌, Option, Some, None}
use Rattle.il_model.specs.declared.written.WrittenMethod.{WrittenMethod}
use Rattle.il_parse.specs.NamedClasses.{has_entry_point}

-- the number of the first method with an entry point, where the first method has this number
abbrev pub entry_from : ℕ → List WrittenMethod → Option ℕ
entry_from number [] = None
entry_from number (m ∷ ms) = if has_entry_point m then Some number else entry_from (number + 1) ms

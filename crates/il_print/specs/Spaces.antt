-- Words of a line behind other words. This project's own.
use Rattle.std.specs.Prelude.{ℕ, List, ◌∷◌, bytes_eq, if◌then◌else◌}
use Rattle.il_model.specs.Canonical.{Word, comma}

-- a word behind another one
abbrev pub behind : Word → List ℕ
behind w = if bytes_eq w comma then w else 32 ∷ w

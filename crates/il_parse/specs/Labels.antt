-- The table of the labels of a body, and which number a name finds. This project's own.
use Rattle.std.specs.Prelude.{◌≡◌, ℕ, if◌then◌else◌, List, Option, Some, None, bytes_eq}
use Rattle.std.specs.Option.{option_or}
use Rattle.std.specs.HashMap.{HashMap, get_by}
use Rattle.il_parse.specs.NamedBodies.{number_of_label}

-- the table has the number of the first label of each name, and no other name
pub record FindsLabels {K S : Type 0} (items : K → List ℕ) (table : HashMap K ℕ S) (labels : List (List ℕ × ℕ)) : Type 0 where
  pub number : (name : List ℕ) → get_by (λ k. bytes_eq name (items k)) table ≡ number_of_label labels name

-- what a name finds once this name has this number, unless it had one before
abbrev pub noted : Option ℕ → List ℕ → ℕ → List ℕ → Option ℕ
noted before name number other = option_or before (if bytes_eq name other then Some number else None)

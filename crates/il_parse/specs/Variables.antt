-- The digits of type variables, and the variables that there are. This project's own.
use Rattle.std.specs.Prelude.{ℕ, nat_lt, if◌then◌else◌, List, drop, Option, Some, None, Ok}
use Rattle.il_text.specs.Spelling.{is_class_variable, is_method_variable, digits_value}
use Rattle.il_model.specs.declared.written.WrittenName.{WrittenName}
use Rattle.il_parse.specs.Looking.{Look, unknown}

-- the digits behind `!`
abbrev pub class_digits : List ℕ → Option (List ℕ)
class_digits token = if is_class_variable token then Some (drop 1 token) else None

-- the digits behind `!!`
abbrev pub method_digits : List ℕ → Option (List ℕ)
method_digits token = if is_method_variable token then Some (drop 2 token) else None

-- the number that digits give, where it is below the number of the variables that there are
abbrev pub number_below : List ℕ → ℕ → WrittenName → Look ℕ
number_below digits most v = if nat_lt (digits_value 10 digits) most then Ok (digits_value 10 digits) else unknown v

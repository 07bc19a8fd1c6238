-- The naming that a list of types gives: a type has its place in the list as its number. This project's own.
use Rattle.std.specs.Prelude.{◌≡◌, ℕ, List, Option, Some, None, position, slice_get}
use Rattle.type_tree.specs.declared.tree.TExpr.{TExpr}
use Rattle.type_tree.specs.Same.{is_same}
use Rattle.interaction.specs.Process.{Naming}
use Rattle.cil_meaning.specs.Naming.{Mention, type_of_mention}

-- the number of a type: its first place in the list
abbrev pub number_in : List TExpr → TExpr → Option ℕ
number_in trees t = position (is_same t) trees

-- The number of a mention, by the type whose number it has. What is not a type's has the number 0: no instruction looks at it.
abbrev pub value_in : List TExpr → Option TExpr → Option ℕ
value_in trees None = Some 0
value_in trees (Some t) = number_in trees t

abbrev pub naming_of : List TExpr → Naming Mention TExpr
naming_of trees = record { value_of = λ m. value_in trees (type_of_mention m); tree_at = slice_get trees }

-- each type stands at one place
abbrev pub IsOnce : List TExpr → Type 0
IsOnce trees = (i j : ℕ) (t : TExpr) → slice_get trees i ≡ Some t → slice_get trees j ≡ Some t → i ≡ j

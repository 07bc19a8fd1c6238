-- Lists of types without repeats, and the trees inside one. This project's own.
use Rattle.std.specs.Prelude.{ℕ, zero, suc, Bool, true, false, List, [], ◌∷◌, ◌++◌, fold, flat_map, if◌then◌else◌}
use Rattle.std.specs.List.{list_any}
use Rattle.type_tree.specs.declared.tree.TExpr.{TExpr}
use Rattle.type_tree.specs.declared.tree.TNode.{TNode}
use Rattle.type_tree.specs.declared.tree.TNode.TheVariants.{Node, ClassVar, MethodVar}
use Rattle.type_tree.specs.Tree.{top_of}
use Rattle.type_tree.specs.Positions.{positions_of}
use Rattle.type_tree.specs.Same.{is_same}
use Rattle.il_model.specs.Entries.{arguments_of}

-- whether a type is in the list
abbrev pub is_among : List TExpr → TExpr → Bool
is_among ts t = list_any (λ each. is_same each t) ts

-- the list with the type at its end, where it is not there yet
abbrev pub with_new : List TExpr → TExpr → List TExpr
with_new ts t = if is_among ts t then ts else ts ++ t ∷ []

-- the list with repeats left out: each type stands where it stood first
abbrev pub without_repeats : List TExpr → List TExpr
without_repeats = fold with_new []

-- the type and the arguments in it, down so many levels
abbrev pub trees_within : ℕ → TExpr → List TExpr
trees_within zero t = t ∷ []
trees_within (suc levels) t = t ∷ flat_map (λ part. trees_within levels part) (arguments_of t)

-- the type and the arguments in it at any depth, which is less than its positions
abbrev pub trees_in : TExpr → List TExpr
trees_in t = trees_within (positions_of t) t

abbrev pub is_variable_top : TNode TExpr → Bool
is_variable_top (Node h parts) = false
is_variable_top (ClassVar n) = true
is_variable_top (MethodVar n) = true

abbrev pub is_variable : TExpr → Bool
is_variable t = is_variable_top (top_of t)

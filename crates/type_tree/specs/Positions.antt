-- The positions of a type: one for each head and each variable. This project's own.
use Rattle.std.specs.Prelude.{ℕ, ◌+◌, List, sum, slice_get, unwrap_or}
use Rattle.type_tree.specs.declared.tree.TExpr.{TExpr}
use Rattle.type_tree.specs.declared.tree.TNode.{TNode}
use Rattle.type_tree.specs.declared.tree.TNode.TheVariants.{Node, ClassVar, MethodVar}
use Rattle.type_tree.specs.Tree.{folded}

-- one level, with its positions in place of each tree below
abbrev pub level_positions : TNode ℕ → ℕ
level_positions (Node head parts) = 1 + sum parts
level_positions (ClassVar n) = 1
level_positions (MethodVar n) = 1

-- the positions of a type, a variable being one
abbrev pub positions_of : TExpr → ℕ
positions_of = folded level_positions

-- the size that a list has for a variable, or one
abbrev pub size_or_one : List ℕ → ℕ → ℕ
size_or_one sizes n = unwrap_or (slice_get sizes n) 1

abbrev pub level_weight : List ℕ → List ℕ → TNode ℕ → ℕ
level_weight class_sizes method_sizes (Node head parts) = 1 + sum parts
level_weight class_sizes method_sizes (ClassVar n) = size_or_one class_sizes n
level_weight class_sizes method_sizes (MethodVar n) = size_or_one method_sizes n

-- the positions of a type once its variables have arguments of these sizes
abbrev pub weighted : List ℕ → List ℕ → TExpr → ℕ
weighted class_sizes method_sizes = folded (level_weight class_sizes method_sizes)

-- Type trees, one level at a time. The heads are this project's own.
use Rattle.std.specs.Prelude.{ℕ, Bool, IsTrue, List, nat_lt}
use Rattle.std.specs.List.{list_all}
use Rattle.type_tree.specs.declared.tree.Head.{Head}
use Rattle.type_tree.specs.declared.tree.TExpr.{TExpr}
use Rattle.type_tree.specs.declared.tree.TExpr.TheViews.{out-TExpr, roll-TExpr}
use Rattle.type_tree.specs.declared.tree.TExpr.TheFolds.{fold-TExpr}
use Rattle.type_tree.specs.declared.tree.TNode.{TNode}
use Rattle.type_tree.specs.declared.tree.TNode.TheVariants.{Node, ClassVar, MethodVar}

-- the top of a tree: a variable, or a head and the list of the trees below it
abbrev pub top_of : TExpr → TNode TExpr
top_of t = (out-TExpr t).node

-- the tree with this top
abbrev pub tree_of : TNode TExpr → TExpr
tree_of top = roll-TExpr (record { node = top })

abbrev pub node : Head → List TExpr → TExpr
node head parts = tree_of (Node head parts)

abbrev pub class_var : ℕ → TExpr
class_var n = tree_of (ClassVar n)

abbrev pub method_var : ℕ → TExpr
method_var n = tree_of (MethodVar n)

-- a function of a whole tree, from what it gives at a level where it has answered for each tree below
abbrev pub folded : {A : Type 0} → (TNode A → A) → TExpr → A
folded {A} at_level = fold-TExpr A (λ t. at_level t.node)

-- whether each variable of the class is below the first number, and each of the method below the second
abbrev pub level_below : ℕ → ℕ → TNode Bool → Bool
level_below c m (Node head parts) = list_all (λ is_below. is_below) parts
level_below c m (ClassVar n) = nat_lt n c
level_below c m (MethodVar n) = nat_lt n m

abbrev pub has_variables_below : ℕ → ℕ → TExpr → Bool
has_variables_below c m = folded (level_below c m)

abbrev pub HasVariablesBelow : ℕ → ℕ → TExpr → Type 0
HasVariablesBelow c m t = IsTrue (has_variables_below c m t)

-- a tree without variables
abbrev pub IsClosed : TExpr → Type 0
IsClosed t = HasVariablesBelow 0 0 t

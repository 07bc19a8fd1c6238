-- The test of equal types at a type with a head.
use Rattle.std.proofs.Common.{◌≡◌, Bool, List, map, ap}
use Rattle.type_tree.specs.declared.tree.Head.{Head}
use Rattle.type_tree.specs.declared.tree.TExpr.{TExpr}
use Rattle.type_tree.specs.declared.tree.TNode.TheVariants.{Node}
use Rattle.type_tree.specs.Tree.{top_of, node}
use Rattle.type_tree.specs.Same.{fits_level, is_same}
use Rattle.type_tree.proofs.TreeLemmas.{folded-node}

pub is_same-node : (h : Head) (parts : List TExpr) (t : TExpr) → is_same (node h parts) t ≡ fits_level (Node h (map is_same parts)) (top_of t)
is_same-node h parts t = ap (λ (test : TExpr → Bool). test t) (folded-node (λ level other. fits_level level (top_of other)) h parts)

-- How many positions a tree has.
use Rattle.std.proofs.Common.{◌≡◌, ℕ, ◌+◌, ◌<◌, ◌≤◌, List, [], ◌∷◌, length, get_or, min, sum_by, refl, ap, ◌∙◌, arith}
use Rattle.std.specs.List.{AllByRecursion}
use Rattle.std.proofs.lemmas.List.Sums.{sum_by-cons, sum-map, get_or-le-sum_by}
use Rattle.type_tree.specs.declared.tree.Head.{Head}
use Rattle.type_tree.specs.declared.tree.TExpr.{TExpr}
use Rattle.type_tree.specs.Tree.{node, class_var, method_var}
use Rattle.type_tree.specs.Positions.{level_positions, positions_of}
use Rattle.type_tree.proofs.TreeLemmas.{folded-node, folded-class_var, folded-method_var, holds_of_trees}

pub positions_of-node : (head : Head) (parts : List TExpr) → positions_of (node head parts) ≡ 1 + sum_by positions_of parts
positions_of-node head parts = folded-node level_positions head parts ∙ ap (λ n. 1 + n) (sum-map positions_of parts)

pub positions_of-class_var : (n : ℕ) → positions_of (class_var n) ≡ 1
positions_of-class_var n = folded-class_var level_positions n

pub positions_of-method_var : (n : ℕ) → positions_of (method_var n) ≡ 1
positions_of-method_var n = folded-method_var level_positions n

-- every tree has a position
pub positions_of-positive : (t : TExpr) → 0 < positions_of t
positions_of-positive =
    holds_of_trees (λ t. 0 < positions_of t)
    (λ head parts _. omega (arith, positions_of-node head parts))
    (λ n. omega (arith, positions_of-class_var n))
    (λ n. omega (arith, positions_of-method_var n))

-- an argument has fewer positions than its tree
pub positions_of-argument : (head : Head) (parts : List TExpr) (k : ℕ) (d : TExpr) → k < length parts →
    positions_of (get_or parts k d) < positions_of (node head parts)
positions_of-argument head parts k d inside =
    omega (arith, positions_of-node head parts, get_or-le-sum_by positions_of parts k d inside)

-- two sums whose terms agree up to a cap agree up to it
pub capped_sums : {X : Type 0} (most : ℕ) (f g : X → ℕ) (xs : List X) →
    AllByRecursion (λ x. min (f x) most ≡ min (g x) most) xs → min (sum_by f xs) most ≡ min (sum_by g xs) most
capped_sums most f g [] all = refl
capped_sums most f g (x ∷ xs) all =
    omega (arith, all.0, capped_sums most f g xs all.1, sum_by-cons f x xs, sum_by-cons g x xs)

-- a sum of larger terms is larger
pub larger_sums : {X : Type 0} (f g : X → ℕ) (xs : List X) → AllByRecursion (λ x. f x ≤ g x) xs → sum_by f xs ≤ sum_by g xs
larger_sums f g [] all = omega arith
larger_sums f g (x ∷ xs) all = omega (arith, all.0, larger_sums f g xs all.1, sum_by-cons f x xs, sum_by-cons g x xs)

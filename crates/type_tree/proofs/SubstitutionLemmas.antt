-- The laws of substitution.
use Rattle.std.proofs.Common.{◌≡◌, ℕ, zero, suc, ◌+◌, ◌<◌, ◌≤◌, List, [], ◌∷◌, map, min, sum_by, length, refl, sym, ap, ◌∙◌, subst, arith}
use Rattle.std.specs.List.{All}
use Rattle.std.proofs.lemmas.List.Sums.{sum_by-cons, sum-map}
use Rattle.std.proofs.lemmas.List.Elements.{All-map, All-head, All-tail}
use Rattle.std.proofs.lemmas.List.Folds.{map_fixed}
use Rattle.std.proofs.lemmas.Option.{unwrap_or-slice_get}
use Rattle.type_tree.specs.declared.tree.Head.{Head}
use Rattle.type_tree.specs.declared.tree.TExpr.{TExpr}
use Rattle.type_tree.specs.Tree.{node, class_var, method_var, HasVariablesBelow, IsClosed}
use Rattle.type_tree.specs.Positions.{positions_of, size_or_one, level_weight, weighted}
use Rattle.type_tree.specs.Substitution.{argument_or, level_substituted, substituted}
use Rattle.type_tree.proofs.TreeLemmas.{folded-node, folded-class_var, folded-method_var, holds_of_trees}
use Rattle.type_tree.proofs.PositionsLemmas.{positions_of-node, positions_of-class_var, positions_of-method_var, positions_of-positive, capped_sums, larger_sums}
use Rattle.type_tree.proofs.VariablesLemmas.{all_follow, below_arguments, below_node, below_class_var, below_method_var}

module _ (class_args method_args : List TExpr) where
  pub substituted-node : (head : Head) (parts : List TExpr) →
      substituted class_args method_args (node head parts) ≡ node head (map (substituted class_args method_args) parts)
  substituted-node head parts = folded-node (level_substituted class_args method_args) head parts

  pub substituted-class_var : (n : ℕ) → substituted class_args method_args (class_var n) ≡ argument_or class_args n (class_var n)
  substituted-class_var n = folded-class_var (level_substituted class_args method_args) n

  pub substituted-method_var : (n : ℕ) → substituted class_args method_args (method_var n) ≡ argument_or method_args n (method_var n)
  substituted-method_var n = folded-method_var (level_substituted class_args method_args) n

sum_by-map : {X Y : Type 0} (f : Y → ℕ) (g : X → Y) (xs : List X) → sum_by f (map g xs) ≡ sum_by (λ x. f (g x)) xs
sum_by-map f g [] = refl
sum_by-map f g (x ∷ xs) =
    sum_by-cons f (g x) (map g xs) ∙ ap (λ n. f (g x) + n) (sum_by-map f g xs) ∙ sym (sum_by-cons (λ y. f (g y)) x xs)

module _ (class_args method_args : List TExpr) where
  pub positions_of-substituted_node : (head : Head) (parts : List TExpr) →
      positions_of (substituted class_args method_args (node head parts))
      ≡ 1 + sum_by (λ part. positions_of (substituted class_args method_args part)) parts
  positions_of-substituted_node head parts =
      ap positions_of (substituted-node class_args method_args head parts)
      ∙ positions_of-node head (map (substituted class_args method_args) parts)
      ∙ ap (λ n. 1 + n) (sum_by-map positions_of (substituted class_args method_args) parts)

-- the sizes of the arguments, each at most the cap
abbrev pub capped_sizes : ℕ → List TExpr → List ℕ
capped_sizes most args = map (λ tree. min (positions_of tree) most) args

-- the size that is looked up for a variable is that of its argument, up to the cap
capped_argument : (most : ℕ) (args : List TExpr) (n : ℕ) (variable : TExpr) → positions_of variable ≡ 1 →
    min (size_or_one (capped_sizes most args) n) most ≡ min (positions_of (argument_or args n variable)) most
capped_argument most [] n variable one = ap (λ k. min k most) (sym one)
capped_argument most (arg ∷ args) zero variable one = omega arith
capped_argument most (arg ∷ args) (suc n) variable one = capped_argument most args n variable one

-- counting with the sizes of the arguments counts the positions of the substitution, up to the cap
pub weighted-sizes : (most : ℕ) (class_args method_args : List TExpr) (t : TExpr) →
    min (weighted (capped_sizes most class_args) (capped_sizes most method_args) t) most
    ≡ min (positions_of (substituted class_args method_args t)) most
weighted-sizes most class_args method_args =
    let at_level = level_weight (capped_sizes most class_args) (capped_sizes most method_args) in
    let weight : TExpr → ℕ = weighted (capped_sizes most class_args) (capped_sizes most method_args) in
    let made : TExpr → TExpr = substituted class_args method_args in
    holds_of_trees (λ t. min (weight t) most ≡ min (positions_of (made t)) most)
    (λ head parts all.
    let left : weight (node head parts) ≡ 1 + sum_by weight parts =
    folded-node at_level head parts ∙ ap (λ n. 1 + n) (sum-map weight parts) in
    let right = positions_of-substituted_node class_args method_args head parts in
    let sums = capped_sums most weight (λ part. positions_of (made part)) parts all in
    omega (arith, left, right, sums))
    (λ n.
    ap (λ k. min k most) (folded-class_var at_level n)
    ∙ capped_argument most class_args n (class_var n) (positions_of-class_var n)
    ∙ ap (λ t. min (positions_of t) most) (sym (substituted-class_var class_args method_args n)))
    (λ n.
    ap (λ k. min k most) (folded-method_var at_level n)
    ∙ capped_argument most method_args n (method_var n) (positions_of-method_var n)
    ∙ ap (λ t. min (positions_of t) most) (sym (substituted-method_var class_args method_args n)))

-- two maps in a row are one
same_maps : (f g h : TExpr → TExpr) (ts : List TExpr) → All (λ t. f (g t) ≡ h t) ts → map f (map g ts) ≡ map h ts
same_maps f g h [] all = refl
same_maps f g h (t ∷ ts) all =
    ap (λ x. x ∷ map f (map g ts)) (All-head (λ x. f (g x) ≡ h x) t ts all)
    ∙ ap (λ xs. h t ∷ xs) (same_maps f g h ts (All-tail (λ x. f (g x) ≡ h x) t ts all))

-- the argument that is put for a variable below their number is one of the arguments
argument_or-map : (f : TExpr → TExpr) (args : List TExpr) (n : ℕ) (variable other : TExpr) → n < length args →
    f (argument_or args n variable) ≡ argument_or (map f args) n other
argument_or-map f [] n variable other inside = absurd (omega arith)
argument_or-map f (arg ∷ args) zero variable other inside = refl
argument_or-map f (arg ∷ args) (suc n) variable other inside = argument_or-map f args n variable other (omega arith)

pub argument_satisfies : (P : TExpr → Type 0) (args : List TExpr) (n : ℕ) (variable : TExpr) → n < length args → All P args →
    P (argument_or args n variable)
argument_satisfies P args n variable inside all = subst P (sym (unwrap_or-slice_get args n variable)) (all n variable inside)

-- a substitution never takes positions away
pub positions_of-le-substituted : (class_args method_args : List TExpr) (t : TExpr) →
    positions_of t ≤ positions_of (substituted class_args method_args t)
positions_of-le-substituted class_args method_args =
    let made : TExpr → TExpr = substituted class_args method_args in
    holds_of_trees (λ t. positions_of t ≤ positions_of (made t))
    (λ head parts all.
    let sums = larger_sums positions_of (λ part. positions_of (made part)) parts all in
    omega (arith, positions_of-node head parts, positions_of-substituted_node class_args method_args head parts, sums))
    (λ n. omega (arith, positions_of-class_var n, positions_of-positive (made (class_var n))))
    (λ n. omega (arith, positions_of-method_var n, positions_of-positive (made (method_var n))))

-- where every variable has an argument, the variables of the result are those of the arguments
pub substituted_below : (c m : ℕ) (class_args method_args : List TExpr) → All (HasVariablesBelow c m) class_args →
    All (HasVariablesBelow c m) method_args → (t : TExpr) → HasVariablesBelow (length class_args) (length method_args) t →
    HasVariablesBelow c m (substituted class_args method_args t)
substituted_below c m class_args method_args in_class in_method =
    let made : TExpr → TExpr = substituted class_args method_args in
    let Known : TExpr → Type 0 = HasVariablesBelow (length class_args) (length method_args) in
    let Below : TExpr → Type 0 = HasVariablesBelow c m in
    holds_of_trees (λ t. Known t → Below (made t))
    (λ head parts all known.
    subst Below (sym (substituted-node class_args method_args head parts))
    (below_node c m head (map made parts)
    (All-map Below made parts
    (all_follow Known (λ part. Below (made part)) parts all
    (below_arguments (length class_args) (length method_args) head parts known)))))
    (λ n known.
    subst Below (sym (substituted-class_var class_args method_args n))
    (argument_satisfies Below class_args n (class_var n)
    (below_class_var (length class_args) (length method_args) n known) in_class))
    (λ n known.
    subst Below (sym (substituted-method_var class_args method_args n))
    (argument_satisfies Below method_args n (method_var n)
    (below_method_var (length class_args) (length method_args) n known) in_method))

-- and with arguments without variables the result has none
pub substituted_closed : (class_args method_args : List TExpr) → All IsClosed class_args → All IsClosed method_args →
    (t : TExpr) → HasVariablesBelow (length class_args) (length method_args) t → IsClosed (substituted class_args method_args t)
substituted_closed = substituted_below 0 0

-- a tree without variables stays as it is
pub substituted-closed : (class_args method_args : List TExpr) (t : TExpr) → IsClosed t → substituted class_args method_args t ≡ t
substituted-closed class_args method_args =
    let made : TExpr → TExpr = substituted class_args method_args in
    holds_of_trees (λ t. IsClosed t → made t ≡ t)
    (λ head parts all closed.
    substituted-node class_args method_args head parts
    ∙ ap (node head) (map_fixed made parts
    (all_follow IsClosed (λ part. made part ≡ part) parts all (below_arguments 0 0 head parts closed))))
    (λ n closed. let never : n < 0 = below_class_var 0 0 n closed in absurd (omega arith))
    (λ n closed. let never : n < 0 = below_method_var 0 0 n closed in absurd (omega arith))

-- two substitutions, one after the other, are one of substituted arguments
pub substituted-substituted : (class_args method_args inner_class inner_method : List TExpr) (t : TExpr) →
    HasVariablesBelow (length inner_class) (length inner_method) t →
    substituted class_args method_args (substituted inner_class inner_method t)
    ≡ substituted (map (substituted class_args method_args) inner_class) (map (substituted class_args method_args) inner_method) t
substituted-substituted class_args method_args inner_class inner_method =
    let outer : TExpr → TExpr = substituted class_args method_args in
    let inner : TExpr → TExpr = substituted inner_class inner_method in
    let both : TExpr → TExpr = substituted (map outer inner_class) (map outer inner_method) in
    let Known : TExpr → Type 0 = HasVariablesBelow (length inner_class) (length inner_method) in
    holds_of_trees (λ t. Known t → outer (inner t) ≡ both t)
    (λ head parts all known.
    ap outer (substituted-node inner_class inner_method head parts)
    ∙ substituted-node class_args method_args head (map inner parts)
    ∙ ap (node head) (same_maps outer inner both parts
    (all_follow Known (λ part. outer (inner part) ≡ both part) parts all
    (below_arguments (length inner_class) (length inner_method) head parts known)))
    ∙ sym (substituted-node (map outer inner_class) (map outer inner_method) head parts))
    (λ n known.
    ap outer (substituted-class_var inner_class inner_method n)
    ∙ argument_or-map outer inner_class n (class_var n) (class_var n) (below_class_var (length inner_class) (length inner_method) n known)
    ∙ sym (substituted-class_var (map outer inner_class) (map outer inner_method) n))
    (λ n known.
    ap outer (substituted-method_var inner_class inner_method n)
    ∙ argument_or-map outer inner_method n (method_var n) (method_var n) (below_method_var (length inner_class) (length inner_method) n known)
    ∙ sym (substituted-method_var (map outer inner_class) (map outer inner_method) n))

-- Induction over type trees, and what a function of a whole tree gives at each kind of tree.
use Rattle.std.proofs.Common.{◌≡◌, ℕ, List, [], ◌∷◌, map, subst, sym, ap, ◌∙◌}
use Rattle.std.specs.List.{AllByRecursion}
use Rattle.type_tree.specs.declared.tree.Head.{Head}
use Rattle.type_tree.specs.declared.tree.TExpr.{TExpr}
use Rattle.type_tree.specs.declared.tree.TExpr.TheOpen.{TExpr-F}
use Rattle.type_tree.specs.declared.tree.TExpr.TheViews.{roll-TExpr, out-roll-TExpr, roll-out-TExpr}
use Rattle.type_tree.specs.declared.tree.TExpr.TheFolds.{ind-TExpr, fold-roll-TExpr, map-TExpr}
use Rattle.type_tree.specs.declared.tree.TNode.{TNode}
use Rattle.type_tree.specs.declared.tree.TNode.TheVariants.{Node, ClassVar, MethodVar}
use Rattle.type_tree.specs.Tree.{top_of, tree_of, node, class_var, method_var, folded}

-- a tree is opened and closed without change
pub top_of-tree_of : (top : TNode TExpr) → top_of (tree_of top) ≡ top
top_of-tree_of top = ap (λ (x : TExpr-F TExpr). x.node) (out-roll-TExpr (record { node = top }))

pub tree_of-top_of : (t : TExpr) → tree_of (top_of t) ≡ t
tree_of-top_of t = roll-out-TExpr t

-- a tree is its top
pub tree_of-is : (t : TExpr) (top : TNode TExpr) → top_of t ≡ top → t ≡ tree_of top
tree_of-is t top is = sym (tree_of-top_of t) ∙ ap tree_of is

module _ {A : Type 0} (at_level : TNode A → A) where
  pub folded-node : (head : Head) (parts : List TExpr) →
      folded at_level (node head parts) ≡ at_level (Node head (map (folded at_level) parts))
  folded-node head parts = fold-roll-TExpr A (λ t. at_level t.node) (record { node = Node head parts })

  pub folded-class_var : (n : ℕ) → folded at_level (class_var n) ≡ at_level (ClassVar n)
  folded-class_var n = fold-roll-TExpr A (λ t. at_level t.node) (record { node = ClassVar n })

  pub folded-method_var : (n : ℕ) → folded at_level (method_var n) ≡ at_level (MethodVar n)
  folded-method_var n = fold-roll-TExpr A (λ t. at_level t.node) (record { node = MethodVar n })

module _ (P : TExpr → Type 0) (at_node : (head : Head) (parts : List TExpr) → AllByRecursion P parts → P (node head parts))
    (at_class_var : (n : ℕ) → P (class_var n)) (at_method_var : (n : ℕ) → P (method_var n)) where
  proofs_of : (es : List ((t : TExpr) × P t)) → AllByRecursion P (map (λ e. e.0) es)
  proofs_of [] = tt
  proofs_of (e ∷ es) = (e.1, proofs_of es)

  holds_at : (y : TExpr-F ((t : TExpr) × P t)) → P (roll-TExpr (map-TExpr ((t : TExpr) × P t) TExpr (λ e. e.0) y))
  holds_at y = elim y.node as (λ top. P (roll-TExpr (map-TExpr ((t : TExpr) × P t) TExpr (λ e. e.0) (record { node = top })))) [ Node head es ↦ at_node head (map (λ e. e.0) es) (proofs_of es) | ClassVar n ↦ at_class_var n | MethodVar n ↦ at_method_var n ]

  -- what holds of each variable, and of a node where it holds of each argument, holds of every tree
  pub holds_of_trees : (t : TExpr) → P t
  holds_of_trees = ind-TExpr P (λ x y is. subst (λ z. P (roll-TExpr z)) is (holds_at y))

-- What is written of a tree, from what is written of its parts.
use Rattle.std.proofs.Common.{◌≡◌, ◌∙◌, ℕ, List, ◌++◌, fold, flat_map, sym, ap}
use Rattle.std.specs.Hash as fed
use Rattle.std.proofs.lemmas.List.Sums.{fold-append}
use Rattle.std.proofs.lemmas.List.Folds.{flat_map-map}
use Rattle.type_tree.specs.declared.tree.Head.{Head}
use Rattle.type_tree.specs.declared.tree.TExpr.{TExpr}
use Rattle.type_tree.specs.declared.tree.TNode.TheVariants.{Node, ClassVar, MethodVar}
use Rattle.type_tree.specs.Tree.{top_of}
use Rattle.type_tree.proofs.TreeLemmas.{tree_of-is, folded-node, folded-class_var, folded-method_var}
use Rattle.il_parse.specs.Signatures.{head_writes, level_writes, tree_writes}

module _ {S : Type 0} (write : S → List ℕ → S) (s : S) (t : TExpr) where
  pub fed_node : (h : Head) (parts : List TExpr) → top_of t ≡ Node h parts →
      fold write (fold write s (head_writes h)) (flat_map tree_writes parts) ≡ fold write s (tree_writes t)
  fed_node h parts is =
      sym (fold-append write s (head_writes h) (flat_map tree_writes parts))
      ∙ ap (λ ws. fold write s (head_writes h ++ ws)) (sym (flat_map-map (λ (part : List (List ℕ)). part) tree_writes parts))
      ∙ ap (λ ws. fold write s ws) (sym (ap tree_writes (tree_of-is t (Node h parts) is) ∙ folded-node level_writes h parts))

  pub fed_class_var : (n : ℕ) → top_of t ≡ ClassVar n → fold write (fold write s (fed.u8 5)) (fed.u8 n) ≡ fold write s (tree_writes t)
  fed_class_var n is = ap (λ ws. fold write s ws) (sym (ap tree_writes (tree_of-is t (ClassVar n) is) ∙ folded-class_var level_writes n))

  pub fed_method_var : (n : ℕ) → top_of t ≡ MethodVar n → fold write (fold write s (fed.u8 6)) (fed.u8 n) ≡ fold write s (tree_writes t)
  fed_method_var n is = ap (λ ws. fold write s ws) (sym (ap tree_writes (tree_of-is t (MethodVar n) is) ∙ folded-method_var level_writes n))

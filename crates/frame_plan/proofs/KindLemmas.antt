-- Which types have no variables.
use Rattle.std.proofs.Common.{◌≡◌, ℕ, ◌≤◌, false, nat_lt, List, length, take, drop, ap, sym, ◌∙◌, arith, drop_of_length-le}
use Rattle.std.specs.List.{list_all}
use Rattle.std.proofs.lemmas.Bool.Decides.{nat_tests}
use Rattle.std.proofs.lemmas.List.{take_all}
use Rattle.std.proofs.lemmas.List.Folds.{list_all-map}
use Rattle.il_model.specs.declared.key.KeyPart.{KeyPart}
use Rattle.type_tree.specs.declared.tree.Head.{Head}
use Rattle.type_tree.specs.declared.tree.TExpr.{TExpr}
use Rattle.type_tree.specs.declared.tree.TNode.TheVariants.{Node, ClassVar, MethodVar}
use Rattle.type_tree.specs.Tree.{node, top_of, level_below, has_variables_below}
use Rattle.type_tree.proofs.TreeLemmas.{tree_of-is, folded-node, folded-class_var, folded-method_var}
use Rattle.frame_plan.specs.Widths.{is_closed}

none_below : (n : ℕ) → nat_lt n 0 ≡ false
none_below n = grind (arith, nat_tests)

-- a node has no variables where its arguments have none
pub closed_arguments : (h : Head) (parts : List TExpr) → is_closed (node h parts) ≡ list_all is_closed parts
closed_arguments h parts = folded-node (level_below 0 0) h parts ∙ list_all-map (λ is_below. is_below) (has_variables_below 0 0) parts

pub closed_class_var : (t : TExpr) (n : ℕ) → top_of t ≡ ClassVar n → is_closed t ≡ false
closed_class_var t n top = ap is_closed (tree_of-is t (ClassVar n) top) ∙ folded-class_var (level_below 0 0) n ∙ none_below n

-- a list has no more than its length
pub all_taken : (key : List KeyPart) (count : ℕ) → length key ≤ count → take (length key) key ≡ take count key
all_taken key count past = take_all (length key) key (omega arith) ∙ sym (take_all count key past)

pub none_left : (key : List KeyPart) (count : ℕ) → length key ≤ count → drop (length key) key ≡ drop count key
none_left key count past = drop_of_length-le key {i = length key} (omega arith) ∙ sym (drop_of_length-le key {i = count} past)

-- Which variables a tree has.
use Rattle.std.proofs.Common.{◌≡◌, ℕ, ◌<◌, ◌≤◌, List, [], ◌∷◌, sym, ◌∙◌, arith}
use Rattle.std.specs.List.{All, AllByRecursion, list_all}
use Rattle.std.proofs.lemmas.Bool.{ltb-true, lt-ltb}
use Rattle.std.proofs.lemmas.List.Elements.{All-from_recursion, recursion_from_All}
use Rattle.std.proofs.lemmas.List.Folds.{list_all-map}
use Rattle.std.proofs.lemmas.List.Sums.{AllPass-from_list_all, list_all-from_AllPass}
use Rattle.type_tree.specs.declared.tree.Head.{Head}
use Rattle.type_tree.specs.declared.tree.TExpr.{TExpr}
use Rattle.type_tree.specs.Tree.{node, class_var, method_var, level_below, has_variables_below, HasVariablesBelow, IsClosed}
use Rattle.type_tree.proofs.TreeLemmas.{folded-node, folded-class_var, folded-method_var, holds_of_trees}

-- what follows of each element follows of each that it is known of
pub all_follow : {X : Type 0} (P Q : X → Type 0) (xs : List X) → AllByRecursion (λ x. P x → Q x) xs → All P xs → All Q xs
all_follow P Q xs follow all = All-from_recursion Q xs (each xs follow (recursion_from_All P xs all))
  where
    each : (ys : List _) → AllByRecursion (λ x. P x → Q x) ys → AllByRecursion P ys → AllByRecursion Q ys
    each [] f h = tt
    each (y ∷ ys) f h = (f.0 h.0, each ys f.1 h.1)

module _ (c m : ℕ) where
  pub has_variables_below-node : (head : Head) (parts : List TExpr) →
      has_variables_below c m (node head parts) ≡ list_all (has_variables_below c m) parts
  has_variables_below-node head parts =
      folded-node (level_below c m) head parts ∙ list_all-map (λ is_below. is_below) (has_variables_below c m) parts

  -- the variables of a node are those of its arguments
  pub below_arguments : (head : Head) (parts : List TExpr) → HasVariablesBelow c m (node head parts) → All (HasVariablesBelow c m) parts
  below_arguments head parts below =
      AllPass-from_list_all (has_variables_below c m) parts (sym (has_variables_below-node head parts) ∙ below)

  pub below_node : (head : Head) (parts : List TExpr) → All (HasVariablesBelow c m) parts → HasVariablesBelow c m (node head parts)
  below_node head parts all =
      has_variables_below-node head parts ∙ list_all-from_AllPass (has_variables_below c m) parts all

  pub below_class_var : (n : ℕ) → HasVariablesBelow c m (class_var n) → n < c
  below_class_var n below = ltb-true n c (sym (folded-class_var (level_below c m) n) ∙ below)

  pub below_method_var : (n : ℕ) → HasVariablesBelow c m (method_var n) → n < m
  below_method_var n below = ltb-true n m (sym (folded-method_var (level_below c m) n) ∙ below)

  pub class_var_below : (n : ℕ) → n < c → HasVariablesBelow c m (class_var n)
  class_var_below n below = folded-class_var (level_below c m) n ∙ lt-ltb n c below

  pub method_var_below : (n : ℕ) → n < m → HasVariablesBelow c m (method_var n)
  method_var_below n below = folded-method_var (level_below c m) n ∙ lt-ltb n m below

-- variables below two numbers are below larger ones
pub below_more : (c m c' m' : ℕ) → c ≤ c' → m ≤ m' → (t : TExpr) → HasVariablesBelow c m t → HasVariablesBelow c' m' t
below_more c m c' m' more_c more_m =
    holds_of_trees (λ t. HasVariablesBelow c m t → HasVariablesBelow c' m' t)
    (λ head parts all below.
    below_node c' m' head parts
    (all_follow (HasVariablesBelow c m) (HasVariablesBelow c' m') parts all (below_arguments c m head parts below)))
    (λ n below. let inside : n < c = below_class_var c m n below in class_var_below c' m' n (omega arith))
    (λ n below. let inside : n < m = below_method_var c m n below in method_var_below c' m' n (omega arith))

-- a tree without variables has them below any numbers
pub closed_below : (c m : ℕ) (t : TExpr) → IsClosed t → HasVariablesBelow c m t
closed_below c m = below_more 0 0 c m (omega arith) (omega arith)

-- The test of equality answers true exactly for equal types.
use Rattle.std.proofs.Common.{◌≡◌, ℕ, Bool, true, false, List, [], ◌∷◌, map, subst, sym, ap, ◌∙◌, refl}
use Rattle.std.specs.Bool.{Decides}
use Rattle.std.specs.List.{AllByRecursion}
use Rattle.std.proofs.lemmas.Bool.Decides.{Decides-eqb, Decides-and, Decides-like}
use Rattle.type_tree.specs.declared.tree.Head.{Head}
use Rattle.type_tree.specs.declared.tree.Head.TheVariants as head
use Rattle.type_tree.specs.declared.tree.TExpr.{TExpr}
use Rattle.type_tree.specs.declared.tree.TNode.{TNode}
use Rattle.type_tree.specs.declared.tree.TNode.TheVariants.{Node, ClassVar, MethodVar}
use Rattle.type_tree.specs.Tree.{top_of, tree_of, node, class_var, method_var}
use Rattle.type_tree.specs.Same.{same_head, pass_all, fits_level, is_same}
use Rattle.type_tree.proofs.TreeLemmas.{folded-node, folded-class_var, folded-method_var, top_of-tree_of, tree_of-top_of, holds_of_trees}

no_true : {P : Type 0} → false ≡ true → P
no_true e = cc

same_head-Decides : (a b : Head) → Decides (same_head a b) (a ≡ b)
same_head-Decides head.Int32 head.Int32 = ((λ _. refl), (λ _. refl))
same_head-Decides head.Int64 head.Int64 = ((λ _. refl), (λ _. refl))
same_head-Decides head.Bool head.Bool = ((λ _. refl), (λ _. refl))
same_head-Decides head.Vector head.Vector = ((λ _. refl), (λ _. refl))
same_head-Decides (head.Class m) (head.Class n) = Decides-like (same_head (head.Class m) (head.Class n)) (λ e. ap head.Class e) (λ e. cc) (Decides-eqb m n)
same_head-Decides _ _ = ((λ e. cc), (λ e. cc))

Is : TExpr → Type 0
Is t = (other : TExpr) → Decides (is_same t other) (t ≡ other)

lists_Decides : (ts others : List TExpr) → AllByRecursion Is ts → Decides (pass_all (map is_same ts) others) (ts ≡ others)
unfolding Is
lists_Decides [] [] all = ((λ _. refl), (λ _. refl))
lists_Decides [] (o ∷ os) all = ((λ e. cc), (λ e. cc))
lists_Decides (t ∷ ts) [] all = ((λ e. cc), (λ e. cc))
lists_Decides (t ∷ ts) (o ∷ os) all =
    Decides-like (pass_all (map is_same (t ∷ ts)) (o ∷ os)) (λ p. cc) (λ e. (cc, cc)) (Decides-and (is_same t o) (pass_all (map is_same ts) os) (all.0 o) (lists_Decides ts os all.1))

node_Decides : (h : Head) (ts : List TExpr) (top : TNode TExpr) → AllByRecursion Is ts → Decides (fits_level (Node h (map is_same ts)) top) (Node h ts ≡ top)
node_Decides h ts (Node other os) all =
    Decides-like (fits_level (Node h (map is_same ts)) (Node other os)) (λ p. cc) (λ e. (cc, cc)) (Decides-and (same_head h other) (pass_all (map is_same ts) os) (same_head-Decides h other) (lists_Decides ts os all))
node_Decides h ts (ClassVar n) all = ((λ e. cc), (λ e. cc))
node_Decides h ts (MethodVar n) all = ((λ e. cc), (λ e. cc))

class_var_Decides : (m : ℕ) (top : TNode TExpr) → Decides (fits_level (ClassVar m) top) (ClassVar m ≡ top)
class_var_Decides m (ClassVar n) = Decides-like (fits_level (ClassVar m) (ClassVar n)) (λ e. ap ClassVar e) (λ e. cc) (Decides-eqb m n)
class_var_Decides m (Node h ts) = ((λ e. cc), (λ e. cc))
class_var_Decides m (MethodVar n) = ((λ e. cc), (λ e. cc))

method_var_Decides : (m : ℕ) (top : TNode TExpr) → Decides (fits_level (MethodVar m) top) (MethodVar m ≡ top)
method_var_Decides m (MethodVar n) = Decides-like (fits_level (MethodVar m) (MethodVar n)) (λ e. ap MethodVar e) (λ e. cc) (Decides-eqb m n)
method_var_Decides m (Node h ts) = ((λ e. cc), (λ e. cc))
method_var_Decides m (ClassVar n) = ((λ e. cc), (λ e. cc))

-- a test of tops decides equality of trees
of_tops : (top : TNode TExpr) (t : TExpr) (b : Bool) → Decides b (top ≡ top_of t) → Decides b (tree_of top ≡ t)
of_tops top t b d = Decides-like b (λ e. ap tree_of e ∙ tree_of-top_of t) (λ e. sym (top_of-tree_of top) ∙ ap top_of e) d

at_node : (h : Head) (ts : List TExpr) → AllByRecursion Is ts → Is (node h ts)
unfolding Is
at_node h ts all other =
    subst (λ (test : TExpr → Bool). Decides (test other) (node h ts ≡ other)) (sym (folded-node (λ level other. fits_level level (top_of other)) h ts))
    (of_tops (Node h ts) other _ (node_Decides h ts (top_of other) all))

at_class_var : (n : ℕ) → Is (class_var n)
unfolding Is
at_class_var n other =
    subst (λ (test : TExpr → Bool). Decides (test other) (class_var n ≡ other)) (sym (folded-class_var (λ level other. fits_level level (top_of other)) n))
    (of_tops (ClassVar n) other _ (class_var_Decides n (top_of other)))

at_method_var : (n : ℕ) → Is (method_var n)
unfolding Is
at_method_var n other =
    subst (λ (test : TExpr → Bool). Decides (test other) (method_var n ≡ other)) (sym (folded-method_var (λ level other. fits_level level (top_of other)) n))
    (of_tops (MethodVar n) other _ (method_var_Decides n (top_of other)))

pub is_same-Decides : (t other : TExpr) → Decides (is_same t other) (t ≡ other)
unfolding Is
is_same-Decides = holds_of_trees Is at_node at_class_var at_method_var

-- The tests of equality of types and signatures answer true exactly for equal ones, as the laws of keys say. This project's own.
use Rattle.std.proofs.Common.{◌≡◌, ℕ, ◌==◌, ◌&&◌, Bool, List, [], ◌∷◌, map, Option, Some, None, refl, sym, ap, subst, ◌∙◌, bytes_eq, arith}
use Rattle.std.specs.Bool.{Decides}
use Rattle.std.specs.List.{AllByRecursion}
use Rattle.std.proofs.lemmas.Bool.Decides.{Decides-eqb, Decides-and, Decides-like}
use Rattle.std.proofs.lemmas.Slice.Eq.{bytes_eq-Decides}
use Rattle.type_tree.specs.declared.tree.Head.{Head}
use Rattle.type_tree.specs.declared.tree.Head.TheVariants as head
use Rattle.type_tree.specs.declared.tree.TExpr.{TExpr}
use Rattle.type_tree.specs.declared.tree.TNode.{TNode}
use Rattle.type_tree.specs.declared.tree.TNode.TheVariants.{Node, ClassVar, MethodVar}
use Rattle.type_tree.specs.Tree.{top_of, tree_of, node, class_var, method_var}
use Rattle.type_tree.proofs.TreeLemmas.{folded-node, folded-class_var, folded-method_var, top_of-tree_of, tree_of-top_of, holds_of_trees}
use Rattle.il_model.specs.declared.method.PType.{PType}
use Rattle.il_model.specs.declared.method.PType.TheVariants as ptype
use Rattle.il_parse.specs.declared.signatures.Signature.{Signature}
use Rattle.il_parse.specs.SameTypes.{head_number, all_pass, level_same, same_type, same_result, same_param, same_params}
use Rattle.il_parse.specs.Signatures.{same_signature}

-- heads with one number are one head
one_head : (a b : Head) → head_number a ≡ head_number b → a ≡ b
one_head head.Int32 head.Int32 e = refl
one_head head.Int64 head.Int64 e = refl
one_head head.Bool head.Bool e = refl
one_head head.Vector head.Vector e = refl
one_head (head.Class m) (head.Class n) e = let same : m ≡ n = omega arith in ap head.Class same
one_head (head.Class m) head.Int32 e = absurd (omega arith)
one_head (head.Class m) head.Int64 e = absurd (omega arith)
one_head (head.Class m) head.Bool e = absurd (omega arith)
one_head (head.Class m) head.Vector e = absurd (omega arith)
one_head head.Int32 (head.Class n) e = absurd (omega arith)
one_head head.Int64 (head.Class n) e = absurd (omega arith)
one_head head.Bool (head.Class n) e = absurd (omega arith)
one_head head.Vector (head.Class n) e = absurd (omega arith)
one_head _ _ e = absurd (omega arith)

heads_Decides : (a b : Head) → Decides (head_number a == head_number b) (a ≡ b)
heads_Decides a b = Decides-like (head_number a == head_number b) (one_head a b) (λ e. ap head_number e) (Decides-eqb (head_number a) (head_number b))

-- the test of this type decides equality
Is : TExpr → Type 0
Is t = (other : TExpr) → Decides (same_type t other) (t ≡ other)

lists_Decides : (ts others : List TExpr) → AllByRecursion Is ts → Decides (all_pass (map same_type ts) others) (ts ≡ others)
unfolding Is
lists_Decides [] [] all = ((λ _. refl), (λ _. refl))
lists_Decides [] (o ∷ os) all = ((λ e. cc), (λ e. cc))
lists_Decides (t ∷ ts) [] all = ((λ e. cc), (λ e. cc))
lists_Decides (t ∷ ts) (o ∷ os) all =
    Decides-like (all_pass (map same_type (t ∷ ts)) (o ∷ os)) (λ p. cc) (λ e. (cc, cc)) (Decides-and (same_type t o) (all_pass (map same_type ts) os) (all.0 o) (lists_Decides ts os all.1))

node_Decides : (h : Head) (ts : List TExpr) (top : TNode TExpr) → AllByRecursion Is ts → Decides (level_same (Node h (map same_type ts)) top) (Node h ts ≡ top)
node_Decides h ts (Node other os) all =
    Decides-like (level_same (Node h (map same_type ts)) (Node other os)) (λ p. cc) (λ e. (cc, cc))
    (Decides-and (head_number h == head_number other) (all_pass (map same_type ts) os) (heads_Decides h other) (lists_Decides ts os all))
node_Decides h ts (ClassVar n) all = ((λ e. cc), (λ e. cc))
node_Decides h ts (MethodVar n) all = ((λ e. cc), (λ e. cc))

class_var_Decides : (m : ℕ) (top : TNode TExpr) → Decides (level_same (ClassVar m) top) (ClassVar m ≡ top)
class_var_Decides m (ClassVar n) = Decides-like (level_same (ClassVar m) (ClassVar n)) (λ e. ap ClassVar e) (λ e. cc) (Decides-eqb m n)
class_var_Decides m (Node h ts) = ((λ e. cc), (λ e. cc))
class_var_Decides m (MethodVar n) = ((λ e. cc), (λ e. cc))

method_var_Decides : (m : ℕ) (top : TNode TExpr) → Decides (level_same (MethodVar m) top) (MethodVar m ≡ top)
method_var_Decides m (MethodVar n) = Decides-like (level_same (MethodVar m) (MethodVar n)) (λ e. ap MethodVar e) (λ e. cc) (Decides-eqb m n)
method_var_Decides m (Node h ts) = ((λ e. cc), (λ e. cc))
method_var_Decides m (ClassVar n) = ((λ e. cc), (λ e. cc))

-- a test of tops decides equality of trees
of_tops : (top : TNode TExpr) (t : TExpr) (b : Bool) → Decides b (top ≡ top_of t) → Decides b (tree_of top ≡ t)
of_tops top t b d = Decides-like b (λ e. ap tree_of e ∙ tree_of-top_of t) (λ e. sym (top_of-tree_of top) ∙ ap top_of e) d

at_node : (h : Head) (ts : List TExpr) → AllByRecursion Is ts → Is (node h ts)
unfolding Is same_type
at_node h ts all other =
    subst (λ (test : TExpr → Bool). Decides (test other) (node h ts ≡ other)) (sym (folded-node (λ level other. level_same level (top_of other)) h ts))
    (of_tops (Node h ts) other _ (node_Decides h ts (top_of other) all))

at_class_var : (n : ℕ) → Is (class_var n)
unfolding Is same_type
at_class_var n other =
    subst (λ (test : TExpr → Bool). Decides (test other) (class_var n ≡ other)) (sym (folded-class_var (λ level other. level_same level (top_of other)) n))
    (of_tops (ClassVar n) other _ (class_var_Decides n (top_of other)))

at_method_var : (n : ℕ) → Is (method_var n)
unfolding Is same_type
at_method_var n other =
    subst (λ (test : TExpr → Bool). Decides (test other) (method_var n ≡ other)) (sym (folded-method_var (λ level other. level_same level (top_of other)) n))
    (of_tops (MethodVar n) other _ (method_var_Decides n (top_of other)))

pub same_type-Decides : (t other : TExpr) → Decides (same_type t other) (t ≡ other)
unfolding Is
same_type-Decides = holds_of_trees Is at_node at_class_var at_method_var

pub same_result-Decides : (a b : Option TExpr) → Decides (same_result a b) (a ≡ b)
same_result-Decides None None = ((λ _. refl), (λ _. refl))
same_result-Decides None (Some u) = ((λ e. cc), (λ e. cc))
same_result-Decides (Some t) None = ((λ e. cc), (λ e. cc))
same_result-Decides (Some t) (Some u) = Decides-like (same_type t u) (λ e. ap Some e) (λ e. cc) (same_type-Decides t u)

pub same_param-Decides : (a b : PType) → Decides (same_param a b) (a ≡ b)
same_param-Decides (ptype.Value t) (ptype.Value u) = Decides-like (same_type t u) (λ e. ap ptype.Value e) (λ e. cc) (same_type-Decides t u)
same_param-Decides (ptype.Value t) (ptype.Pointer u) = ((λ e. cc), (λ e. cc))
same_param-Decides (ptype.Value t) ptype.Native = ((λ e. cc), (λ e. cc))
same_param-Decides (ptype.Pointer t) (ptype.Value u) = ((λ e. cc), (λ e. cc))
same_param-Decides (ptype.Pointer t) (ptype.Pointer u) = Decides-like (same_type t u) (λ e. ap ptype.Pointer e) (λ e. cc) (same_type-Decides t u)
same_param-Decides (ptype.Pointer t) ptype.Native = ((λ e. cc), (λ e. cc))
same_param-Decides ptype.Native (ptype.Value u) = ((λ e. cc), (λ e. cc))
same_param-Decides ptype.Native (ptype.Pointer u) = ((λ e. cc), (λ e. cc))
same_param-Decides ptype.Native ptype.Native = ((λ _. refl), (λ _. refl))

pub same_params-Decides : (ps qs : List PType) → Decides (same_params ps qs) (ps ≡ qs)
same_params-Decides [] [] = ((λ _. refl), (λ _. refl))
same_params-Decides [] (q ∷ qs) = ((λ e. cc), (λ e. cc))
same_params-Decides (p ∷ ps) [] = ((λ e. cc), (λ e. cc))
same_params-Decides (p ∷ ps) (q ∷ qs) =
    Decides-like (same_params (p ∷ ps) (q ∷ qs)) (λ e. cc) (λ e. (cc, cc)) (Decides-and (same_param p q) (same_params ps qs) (same_param-Decides p q) (same_params-Decides ps qs))

pub same_signature-Decides : (a b : Signature) → Decides (same_signature a b) (a ≡ b)
same_signature-Decides a b =
    Decides-like (same_signature a b)
    (λ p i. record { name = p.0.0.0 i; vars = p.0.0.1 i; params = p.0.1 i; result = p.1 i })
    (λ e. (((ap (λ (s : Signature). s.name) e, ap (λ (s : Signature). s.vars) e), ap (λ (s : Signature). s.params) e), ap (λ (s : Signature). s.result) e))
    (Decides-and (bytes_eq a.name b.name && (a.vars == b.vars) && same_params a.params b.params) (same_result a.result b.result)
    (Decides-and (bytes_eq a.name b.name && (a.vars == b.vars)) (same_params a.params b.params)
    (Decides-and (bytes_eq a.name b.name) (a.vars == b.vars) (bytes_eq-Decides a.name b.name) (Decides-eqb a.vars b.vars))
    (same_params-Decides a.params b.params)) (same_result-Decides a.result b.result))

-- What substitution keeps of a type: that it has its numbers of arguments everywhere, and the class that it names.
use Rattle.std.proofs.Common.{◌≡◌, ℕ, ◌==◌, true, ◌&&◌, List, [], ◌∷◌, length, map, flat_map, slice_get, unwrap_or, Option, Some, None, refl, sym, ap, ◌∙◌, subst, arith}
use Rattle.std.specs.List.{list_all, AllByRecursion}
use Rattle.std.proofs.lemmas.List.{length-map}
use Rattle.std.proofs.lemmas.List.Elements.{recursion_from_All}
use Rattle.type_tree.specs.declared.tree.Head.{Head}
use Rattle.type_tree.specs.declared.tree.Head.TheVariants as head
use Rattle.type_tree.specs.declared.tree.TExpr.{TExpr}
use Rattle.type_tree.specs.declared.tree.TNode.{TNode}
use Rattle.type_tree.specs.declared.tree.TNode.TheVariants.{Node, ClassVar, MethodVar}
use Rattle.type_tree.specs.Tree.{top_of, node, class_var, method_var, HasVariablesBelow}
use Rattle.type_tree.specs.Positions.{positions_of}
use Rattle.type_tree.specs.Substitution.{substituted}
use Rattle.type_tree.proofs.TreeLemmas.{top_of-tree_of, tree_of-is, holds_of_trees}
use Rattle.type_tree.proofs.PositionsLemmas.{positions_of-class_var}
use Rattle.type_tree.proofs.VariablesLemmas.{below_arguments}
use Rattle.type_tree.proofs.SubstitutionLemmas.{substituted-node, substituted-class_var, substituted-method_var}
use Rattle.il_model.specs.declared.class.ClassDef.{ClassDef}
use Rattle.il_model.specs.declared.program.Program.{Program}
use Rattle.il_model.specs.Find.{class_in_top, class_number_of}
use Rattle.il_model.specs.Trees.{trees_within, trees_in}
use Rattle.il_model.specs.Entries.{arguments_at, arguments_of}
use Rattle.il_model.specs.Admission.{has_count_in, has_count_top, has_count}
use Rattle.il_model.specs.ClassRules.{has_counts}
use Rattle.rgctx_fill.proofs.PartLemmas.{trees_in-node, counts-node}
use Rattle.rgctx_fill.proofs.WholeLists.{item_holds, all_of_test, test_of_all, map_all, flat_all, all_weaker, all_follows}

-- ---- the class that a type names

pub record NamesClass (t : TExpr) (number : ℕ) : Type 0 where
  pub parts : List TExpr
  pub is : t ≡ node (head.Class number) parts

named_at : (t : TExpr) (number : ℕ) (top : TNode TExpr) → top_of t ≡ top → class_in_top top ≡ Some number → NamesClass t number
named_at t number (Node (head.Class n) parts) is e =
    let same : n ≡ number = cc in record { parts = parts; is = tree_of-is t (Node (head.Class n) parts) is ∙ ap (λ k. node (head.Class k) parts) same }
named_at t number (Node head.Int32 parts) is e = cc
named_at t number (Node head.Int64 parts) is e = cc
named_at t number (Node head.Bool parts) is e = cc
named_at t number (Node head.Vector parts) is e = cc
named_at t number (ClassVar n) is e = cc
named_at t number (MethodVar n) is e = cc

pub class_named : (t : TExpr) (number : ℕ) → class_number_of t ≡ Some number → NamesClass t number
class_named t number e = named_at t number (top_of t) refl e

pub number-node : (number : ℕ) (parts : List TExpr) → class_number_of (node (head.Class number) parts) ≡ Some number
number-node number parts = ap class_in_top (top_of-tree_of (Node (head.Class number) parts))

pub arguments-node : (h : Head) (parts : List TExpr) → arguments_of (node h parts) ≡ parts
arguments-node h parts = ap arguments_at (top_of-tree_of (Node h parts))

-- arguments are put without a change of the class
pub number-substituted : (cs ms : List TExpr) (t : TExpr) (number : ℕ) → class_number_of t ≡ Some number → class_number_of (substituted cs ms t) ≡ Some number
number-substituted cs ms t number e =
    let n : NamesClass t number = class_named t number e in
    ap class_number_of (ap (substituted cs ms) n.is ∙ substituted-node cs ms (head.Class number) n.parts) ∙ number-node number (map (substituted cs ms) n.parts)

-- ---- numbers of arguments

module _ (program : Program) where
  abbrev pub IsCounted : TExpr → Type 0
  IsCounted t = has_counts program t ≡ true

  -- a type with these variables, as many arguments as variables everywhere
  pub record IsWritten (c m : ℕ) (t : TExpr) : Type 0 where
    pub below : HasVariablesBelow c m t
    pub counts : IsCounted t

  count_in_same : (d : Option ClassDef) (us parts : List TExpr) → length us ≡ length parts → has_count_in d us ≡ has_count_in d parts
  count_in_same None us parts e = refl
  count_in_same (Some c) us parts e = ap (λ (n : ℕ). n == length c.vars) e

  count_top_same : (h : Head) (us parts : List TExpr) → length us ≡ length parts → has_count_top program (Node h us) ≡ has_count_top program (Node h parts)
  count_top_same head.Int32 us parts e = ap (λ (n : ℕ). n == 0) e
  count_top_same head.Int64 us parts e = ap (λ (n : ℕ). n == 0) e
  count_top_same head.Bool us parts e = ap (λ (n : ℕ). n == 0) e
  count_top_same head.Vector us parts e = ap (λ (n : ℕ). n == 1) e
  count_top_same (head.Class number) us parts e = count_in_same (slice_get program.classes number) us parts e

  count_same : (h : Head) (us parts : List TExpr) → length us ≡ length parts → has_count program (node h us) ≡ has_count program (node h parts)
  count_same h us parts e =
      ap (has_count_top program) (top_of-tree_of (Node h us)) ∙ count_top_same h us parts e ∙ ap (has_count_top program) (sym (top_of-tree_of (Node h parts)))

  pub counts-of_parts : (h : Head) (parts : List TExpr) → has_count program (node h parts) ≡ true → AllByRecursion IsCounted parts → IsCounted (node h parts)
  counts-of_parts h parts own all =
      let below : AllByRecursion (λ t. has_count program t ≡ true) (flat_map trees_in parts) =
      flat_all (λ t. has_count program t ≡ true) trees_in parts
      (all_weaker IsCounted (λ x. AllByRecursion (λ t. has_count program t ≡ true) (trees_in x)) (λ x c. all_of_test (has_count program) (trees_in x) c) parts all) in
      ap (list_all (has_count program)) (trees_in-node h parts) ∙ test_of_all (has_count program) (node h parts ∷ flat_map trees_in parts) (own, below)

  -- a variable has no arguments
  var_trees : (n k : ℕ) → k ≡ 1 → trees_within k (class_var n) ≡ class_var n ∷ []
  var_trees n k e =
      ap (λ i. trees_within i (class_var n)) e
      ∙ ap (λ (top : TNode TExpr). class_var n ∷ flat_map (λ part. trees_within 0 part) (arguments_at top)) (top_of-tree_of (ClassVar n))

  pub counts-class_var : (n : ℕ) → IsCounted (class_var n)
  counts-class_var n =
      ap (list_all (has_count program)) (var_trees n (positions_of (class_var n)) (positions_of-class_var n))
      ∙ ap (λ b. b && true) (ap (has_count_top program) (top_of-tree_of (ClassVar n)))

  put_for : (o : Option TExpr) (args : List TExpr) (n : ℕ) (variable : TExpr) → slice_get args n ≡ o → AllByRecursion IsCounted args → IsCounted variable → IsCounted (unwrap_or o variable)
  put_for None args n variable is all own = own
  put_for (Some t) args n variable is all own = item_holds IsCounted args n t all is

  module _ (cs ms : List TExpr) (in_class : AllByRecursion IsCounted cs) (in_method : AllByRecursion IsCounted ms) where
    -- with arguments that have their numbers of arguments, a type keeps its own
    pub counts-substituted : (t : TExpr) → IsCounted t → IsCounted (substituted cs ms t)
    counts-substituted =
        holds_of_trees (λ t. IsCounted t → IsCounted (substituted cs ms t))
        (λ h parts each counted.
        let p : (has_count program (node h parts) ≡ true) × AllByRecursion IsCounted parts = counts-node program h parts counted in
        subst IsCounted (sym (substituted-node cs ms h parts))
        (counts-of_parts h (map (substituted cs ms) parts)
        (count_same h (map (substituted cs ms) parts) parts (length-map parts (substituted cs ms)) ∙ p.0)
        (map_all IsCounted (substituted cs ms) parts (all_follows IsCounted (λ t. IsCounted (substituted cs ms t)) parts each p.1))))
        (λ n counted. subst IsCounted (sym (substituted-class_var cs ms n)) (put_for (slice_get cs n) cs n (class_var n) refl in_class counted))
        (λ n counted. subst IsCounted (sym (substituted-method_var cs ms n)) (put_for (slice_get ms n) ms n (method_var n) refl in_method counted))

  -- ---- the arguments of a type of a class

  -- a type of this class, with one argument for each variable
  pub record IsOf (c m : ℕ) (t : TExpr) (number : ℕ) : Type 0 where
    pub class : ClassDef
    pub is : slice_get program.classes number ≡ Some class
    pub count : length (arguments_of t) ≡ length class.vars
    pub below : AllByRecursion (HasVariablesBelow c m) (arguments_of t)
    pub counts : AllByRecursion IsCounted (arguments_of t)

  record CountIs (d : Option ClassDef) (parts : List TExpr) : Type 0 where
    class : ClassDef
    is : d ≡ Some class
    count : length parts ≡ length class.vars

  count_is : (d : Option ClassDef) (parts : List TExpr) → has_count_in d parts ≡ true → CountIs d parts
  count_is None parts h = cc
  count_is (Some c) parts h = record { class = c; is = refl; count = grind arith }

  pub type-of : (c m : ℕ) (t : TExpr) (number : ℕ) → class_number_of t ≡ Some number → HasVariablesBelow c m t → IsCounted t → IsOf c m t number
  type-of c m t number e below counted =
      let n : NamesClass t number = class_named t number e in
      let args : arguments_of t ≡ n.parts = ap arguments_of n.is ∙ arguments-node (head.Class number) n.parts in
      let p : (has_count program (node (head.Class number) n.parts) ≡ true) × AllByRecursion IsCounted n.parts = counts-node program (head.Class number) n.parts (subst IsCounted n.is counted) in
      let d : CountIs (slice_get program.classes number) n.parts =
      count_is (slice_get program.classes number) n.parts (ap (has_count_top program) (sym (top_of-tree_of (Node (head.Class number) n.parts))) ∙ p.0) in
      record {
        class = d.class;
        is = d.is;
        count = ap length args ∙ d.count;
        below = subst (AllByRecursion (HasVariablesBelow c m)) (sym args) (recursion_from_All (HasVariablesBelow c m) n.parts (below_arguments c m (head.Class number) n.parts (subst (HasVariablesBelow c m) n.is below)));
        counts = subst (AllByRecursion IsCounted) (sym args) p.1;
      }

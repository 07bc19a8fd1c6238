-- The arguments of a type that may have a node may have nodes themselves.
use Rattle.std.proofs.Common.{◌≡◌, ℕ, zero, suc, ◌+◌, ◌≤◌, Bool, true, false, ◌&&◌, ◌||◌, List, [], ◌∷◌, ◌++◌, flat_map, sum_by, Option, Some, None, if◌then◌else◌, refl, sym, ap, ◌∙◌, subst, arith}
use Rattle.std.specs.Prelude.{is_none}
use Rattle.std.specs.List.{list_all, list_any, AllByRecursion}
use Rattle.std.proofs.lemmas.List.Sums.{sum_by-cons}
use Rattle.std.proofs.lemmas.List.Elements.{recursion_from_All}
use Rattle.type_tree.specs.declared.tree.Head.{Head}
use Rattle.type_tree.specs.declared.tree.TExpr.{TExpr}
use Rattle.type_tree.specs.declared.tree.TNode.{TNode}
use Rattle.type_tree.specs.declared.tree.TNode.TheVariants.{Node, ClassVar, MethodVar}
use Rattle.type_tree.specs.Tree.{top_of, node, class_var, method_var, IsClosed}
use Rattle.type_tree.specs.Positions.{positions_of}
use Rattle.type_tree.proofs.TreeLemmas.{top_of-tree_of, holds_of_trees}
use Rattle.type_tree.proofs.PositionsLemmas.{positions_of-node, positions_of-class_var, positions_of-method_var, positions_of-positive}
use Rattle.type_tree.proofs.VariablesLemmas.{below_arguments}
use Rattle.il_model.specs.declared.layout.Limit.{Limit}
use Rattle.il_model.specs.declared.layout.Limit.TheVariants as limit
use Rattle.il_model.specs.declared.program.Program.{Program}
use Rattle.il_model.specs.Trees.{trees_within, trees_in}
use Rattle.il_model.specs.Entries.{arguments_at}
use Rattle.il_model.specs.Admission.{has_count, closure_of, limited_trees_of, is_large, is_wide, limit_of}
use Rattle.il_model.specs.ClassRules.{has_counts}
use Rattle.rgctx_template.specs.Admitted.{is_admitted}
use Rattle.rgctx_fill.specs.Nodes.{IsAdmittedType}

-- ---- the trees in a type

flat_agree : (f g : TExpr → List TExpr) (xs : List TExpr) → AllByRecursion (λ x. f x ≡ g x) xs → flat_map f xs ≡ flat_map g xs
flat_agree f g [] all = refl
flat_agree f g (x ∷ xs) all = ap (λ ys. ys ++ flat_map f xs) all.0 ∙ ap (λ ys. g x ++ ys) (flat_agree f g xs all.1)

-- as many levels as a type has positions, or more, reach all arguments in it
abbrev Reaches : TExpr → Type 0
Reaches t = (n : ℕ) → positions_of t ≤ n → trees_within n t ≡ trees_in t

reach_each : (k : ℕ) (xs : List TExpr) → AllByRecursion Reaches xs → sum_by positions_of xs ≤ k → AllByRecursion (λ x. trees_within k x ≡ trees_in x) xs
reach_each k [] all le = tt
reach_each k (x ∷ xs) all le =
    let both : sum_by positions_of (x ∷ xs) ≡ positions_of x + sum_by positions_of xs = sum_by-cons positions_of x xs in
    (all.0 k (omega (arith, le, both)), reach_each k xs all.1 (omega (arith, le, both)))

opened : (t : TExpr) (top : TNode TExpr) (m : ℕ) → top_of t ≡ top → trees_within (suc m) t ≡ t ∷ flat_map (λ part. trees_within m part) (arguments_at top)
opened t top m is = ap (λ (o : TNode TExpr). t ∷ flat_map (λ part. trees_within m part) (arguments_at o)) is

node_reaches : (head : Head) (parts : List TExpr) (k : ℕ) → AllByRecursion Reaches parts → sum_by positions_of parts ≤ k →
    trees_within (suc k) (node head parts) ≡ node head parts ∷ flat_map trees_in parts
node_reaches head parts k all le =
    opened (node head parts) (Node head parts) k (top_of-tree_of (Node head parts))
    ∙ ap (λ ys. node head parts ∷ ys) (flat_agree (λ part. trees_within k part) trees_in parts (reach_each k parts all le))

node_whole : (head : Head) (parts : List TExpr) → AllByRecursion Reaches parts → trees_in (node head parts) ≡ node head parts ∷ flat_map trees_in parts
node_whole head parts all =
    let count : positions_of (node head parts) ≡ suc (sum_by positions_of parts) = omega (arith, positions_of-node head parts) in
    let le : sum_by positions_of parts ≤ sum_by positions_of parts = omega arith in
    ap (λ (k : ℕ). trees_within k (node head parts)) count ∙ node_reaches head parts (sum_by positions_of parts) all le

at_node : (head : Head) (parts : List TExpr) → AllByRecursion Reaches parts → Reaches (node head parts)
at_node head parts all zero le = absurd (omega (arith, le, positions_of-positive (node head parts)))
at_node head parts all (suc k) le =
    node_reaches head parts k all (omega (arith, le, positions_of-node head parts)) ∙ sym (node_whole head parts all)

alone : (t : TExpr) (top : TNode TExpr) → top_of t ≡ top → arguments_at top ≡ [] → positions_of t ≡ 1 → Reaches t
alone t top is none one zero le = absurd (omega (arith, le, one))
alone t top is none one (suc k) le =
    let single : (m : ℕ) → trees_within (suc m) t ≡ t ∷ [] = λ m. opened t top m is ∙ ap (λ (ps : List TExpr). t ∷ flat_map (λ part. trees_within m part) ps) none in
    let count : positions_of t ≡ suc zero = omega (arith, one) in
    single k ∙ sym (ap (λ (m : ℕ). trees_within m t) count ∙ single zero)

reaches : (t : TExpr) → Reaches t
reaches =
    holds_of_trees Reaches at_node
    (λ n. alone (class_var n) (ClassVar n) (top_of-tree_of (ClassVar n)) refl (positions_of-class_var n))
    (λ n. alone (method_var n) (MethodVar n) (top_of-tree_of (MethodVar n)) refl (positions_of-method_var n))

all_reach : (xs : List TExpr) → AllByRecursion Reaches xs
all_reach [] = tt
all_reach (x ∷ xs) = (reaches x, all_reach xs)

-- the trees in a node are itself and those in its arguments
pub trees_in-node : (head : Head) (parts : List TExpr) → trees_in (node head parts) ≡ node head parts ∷ flat_map trees_in parts
trees_in-node head parts = node_whole head parts (all_reach parts)

-- ---- tests of many lists

no_or : (a b : Bool) → (a || b) ≡ false → (a ≡ false) × (b ≡ false)
no_or true b h = cc
no_or false b h = (refl, h)

both_false : (a b : Bool) → a ≡ false → b ≡ false → (a || b) ≡ false
both_false true b h k = cc
both_false false b h k = k

both_true : (a b : Bool) → (a && b) ≡ true → (a ≡ true) × (b ≡ true)
both_true true b h = (refl, h)
both_true false b h = cc

module _ (test : TExpr → Bool) where
  none_append : (xs ys : List TExpr) → list_any test (xs ++ ys) ≡ false → (list_any test xs ≡ false) × (list_any test ys ≡ false)
  none_append [] ys h = (refl, h)
  none_append (x ∷ xs) ys h =
      let p : (test x ≡ false) × (list_any test (xs ++ ys) ≡ false) = no_or (test x) (list_any test (xs ++ ys)) h in
      let q : (list_any test xs ≡ false) × (list_any test ys ≡ false) = none_append xs ys p.1 in
      (both_false (test x) (list_any test xs) p.0 q.0, q.1)

  append_none : (xs ys : List TExpr) → list_any test xs ≡ false → list_any test ys ≡ false → list_any test (xs ++ ys) ≡ false
  append_none [] ys h k = k
  append_none (x ∷ xs) ys h k =
      let p : (test x ≡ false) × (list_any test xs ≡ false) = no_or (test x) (list_any test xs) h in
      both_false (test x) (list_any test (xs ++ ys)) p.0 (append_none xs ys p.1 k)

  none_flat : (f : TExpr → List TExpr) (xs : List TExpr) → list_any test (flat_map f xs) ≡ false → AllByRecursion (λ x. list_any test (f x) ≡ false) xs
  none_flat f [] h = tt
  none_flat f (x ∷ xs) h =
      let p : (list_any test (f x) ≡ false) × (list_any test (flat_map f xs) ≡ false) = none_append (f x) (flat_map f xs) h in
      (p.0, none_flat f xs p.1)

  flat_none : (f : TExpr → List TExpr) (xs : List TExpr) → AllByRecursion (λ x. list_any test (f x) ≡ false) xs → list_any test (flat_map f xs) ≡ false
  flat_none f [] all = refl
  flat_none f (x ∷ xs) all = append_none (f x) (flat_map f xs) all.0 (flat_none f xs all.1)

  all_append : (xs ys : List TExpr) → list_all test (xs ++ ys) ≡ true → (list_all test xs ≡ true) × (list_all test ys ≡ true)
  all_append [] ys h = (refl, h)
  all_append (x ∷ xs) ys h =
      let p : (test x ≡ true) × (list_all test (xs ++ ys) ≡ true) = both_true (test x) (list_all test (xs ++ ys)) h in
      let q : (list_all test xs ≡ true) × (list_all test ys ≡ true) = all_append xs ys p.1 in
      (ap (λ b. b && list_all test xs) p.0 ∙ q.0, q.1)

  all_flat : (f : TExpr → List TExpr) (xs : List TExpr) → list_all test (flat_map f xs) ≡ true → AllByRecursion (λ x. list_all test (f x) ≡ true) xs
  all_flat f [] h = tt
  all_flat f (x ∷ xs) h =
      let p : (list_all test (f x) ≡ true) × (list_all test (flat_map f xs) ≡ true) = all_append (f x) (flat_map f xs) h in
      (p.0, all_flat f xs p.1)

split_all : (Q : TExpr → Type 0) (xs ys : List TExpr) → AllByRecursion Q (xs ++ ys) → AllByRecursion Q xs × AllByRecursion Q ys
split_all Q [] ys all = (tt, all)
split_all Q (x ∷ xs) ys all = let p = split_all Q xs ys all.1 in ((all.0, p.0), p.1)

split_flat : (Q : TExpr → Type 0) (f : TExpr → List TExpr) (xs : List TExpr) → AllByRecursion Q (flat_map f xs) → AllByRecursion (λ x. AllByRecursion Q (f x)) xs
split_flat Q f [] all = tt
split_flat Q f (x ∷ xs) all = let p = split_all Q (f x) (flat_map f xs) all in (p.0, split_flat Q f xs p.1)

each_part : (P Q : TExpr → Type 0) (xs : List TExpr) → ((x : TExpr) → P x → Q x) → AllByRecursion P xs → AllByRecursion Q xs
each_part P Q [] f all = tt
each_part P Q (x ∷ xs) f all = (f x all.0, each_part P Q xs f all.1)

-- ---- limits

lim_none : (a b : Bool) → ◌≡◌ {A = Option Limit} (if a then Some limit.Positions else (if b then Some limit.ValueWords else None)) None → (a ≡ false) × (b ≡ false)
lim_none true b h = cc
lim_none false true h = cc
lim_none false false h = (refl, refl)

none_lim : (a b : Bool) → a ≡ false → b ≡ false → ◌≡◌ {A = Option Limit} (if a then Some limit.Positions else (if b then Some limit.ValueWords else None)) None
none_lim true b h k = cc
none_lim false true h k = cc
none_lim false false h k = refl

module _ (program : Program) where
  none_of_parts : (test : TExpr → Bool) (head : Head) (parts : List TExpr) → list_any test (limited_trees_of program (node head parts)) ≡ false
      → AllByRecursion (λ p. list_any test (limited_trees_of program p) ≡ false) parts
  none_of_parts test head parts none =
      let all : AllByRecursion (λ u. list_any test (closure_of program u) ≡ false) (node head parts ∷ flat_map trees_in parts) =
      subst (AllByRecursion (λ u. list_any test (closure_of program u) ≡ false)) (trees_in-node head parts) (none_flat test (closure_of program) (trees_in (node head parts)) none) in
      each_part (λ p. AllByRecursion (λ u. list_any test (closure_of program u) ≡ false) (trees_in p)) (λ p. list_any test (limited_trees_of program p) ≡ false) parts
      (λ p h. flat_none test (closure_of program) (trees_in p) h)
      (split_flat (λ u. list_any test (closure_of program u) ≡ false) trees_in parts all.1)

  join_limits : (xs : List TExpr) → AllByRecursion (λ p. list_any is_large (limited_trees_of program p) ≡ false) xs → AllByRecursion (λ p. list_any (is_wide program) (limited_trees_of program p) ≡ false) xs
      → AllByRecursion (λ p. limit_of program p ≡ None) xs
  join_limits [] a b = tt
  join_limits (x ∷ xs) a b =
      (none_lim (list_any is_large (limited_trees_of program x)) (list_any (is_wide program) (limited_trees_of program x)) a.0 b.0, join_limits xs a.1 b.1)

  parts_limited : (head : Head) (parts : List TExpr) → limit_of program (node head parts) ≡ None → AllByRecursion (λ p. limit_of program p ≡ None) parts
  parts_limited head parts none =
      let p : (list_any is_large (limited_trees_of program (node head parts)) ≡ false) × (list_any (is_wide program) (limited_trees_of program (node head parts)) ≡ false) =
      lim_none (list_any is_large (limited_trees_of program (node head parts))) (list_any (is_wide program) (limited_trees_of program (node head parts))) none in
      join_limits parts (none_of_parts is_large head parts p.0) (none_of_parts (is_wide program) head parts p.1)

  -- ---- numbers of arguments

  pub counts-node : (head : Head) (parts : List TExpr) → has_counts program (node head parts) ≡ true → (has_count program (node head parts) ≡ true) × AllByRecursion (λ p. has_counts program p ≡ true) parts
  counts-node head parts h =
      let g : list_all (has_count program) (node head parts ∷ flat_map trees_in parts) ≡ true = ap (list_all (has_count program)) (sym (trees_in-node head parts)) ∙ h in
      let p : (has_count program (node head parts) ≡ true) × (list_all (has_count program) (flat_map trees_in parts) ≡ true) = both_true (has_count program (node head parts)) (list_all (has_count program) (flat_map trees_in parts)) g in
      (p.0, all_flat (has_count program) trees_in parts p.1)

  is_none_is : (l : Option Limit) → l ≡ None → is_none l ≡ true
  is_none_is None h = refl
  is_none_is (Some l) h = cc

  none_is : (l : Option Limit) → is_none l ≡ true → l ≡ None
  none_is None h = refl
  none_is (Some l) h = cc

  pub admitted-limit : (t : TExpr) → limit_of program t ≡ None → is_admitted program t ≡ true
  admitted-limit t h = is_none_is (limit_of program t) h

  pub limit-admitted : (t : TExpr) → is_admitted program t ≡ true → limit_of program t ≡ None
  limit-admitted t h = none_is (limit_of program t) h

  three : (xs : List TExpr) → AllByRecursion IsClosed xs → AllByRecursion (λ p. has_counts program p ≡ true) xs → AllByRecursion (λ p. limit_of program p ≡ None) xs → AllByRecursion (IsAdmittedType program) xs
  three [] a b c = tt
  three (x ∷ xs) a b c = (record { closed = a.0; counts = b.0; admitted = admitted-limit x c.0 }, three xs a.1 b.1 c.1)

  -- the arguments of an admitted type are admitted types
  pub parts-admitted : (head : Head) (parts : List TExpr) → IsAdmittedType program (node head parts) → AllByRecursion (IsAdmittedType program) parts
  parts-admitted head parts h =
      three parts
      (recursion_from_All IsClosed parts (below_arguments 0 0 head parts h.closed))
      (counts-node head parts h.counts).1
      (parts_limited head parts (limit-admitted (node head parts) h.admitted))

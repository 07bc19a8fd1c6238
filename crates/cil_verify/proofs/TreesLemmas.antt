-- A test of a type and each argument in it, one level at a time.
use Rattle.std.proofs.Common.{◌≡◌, ℕ, zero, suc, ◌+◌, ◌<◌, ◌≤◌, Bool, true, false, ◌&&◌, List, [], ◌∷◌, ◌++◌, length, get_or, take, drop, zip, flat_map, sum_by, refl, sym, ap, ◌∙◌, subst, arith}
use Rattle.std.specs.List.{list_all, AllByRecursion}
use Rattle.std.proofs.lemmas.List.{drop_all}
use Rattle.std.proofs.lemmas.List.Sums.{sum_by-cons}
use Rattle.std.proofs.lemmas.List.Folds.{list_all-append, list_all_at, list_all_more}
use Rattle.type_tree.specs.declared.tree.Head.{Head}
use Rattle.type_tree.specs.declared.tree.TExpr.{TExpr}
use Rattle.type_tree.specs.declared.tree.TNode.{TNode}
use Rattle.type_tree.specs.declared.tree.TNode.TheVariants.{Node, ClassVar, MethodVar}
use Rattle.type_tree.specs.Tree.{top_of, node, class_var, method_var}
use Rattle.type_tree.specs.Positions.{positions_of}
use Rattle.type_tree.proofs.TreeLemmas.{top_of-tree_of, tree_of-is, holds_of_trees}
use Rattle.type_tree.proofs.PositionsLemmas.{positions_of-node, positions_of-class_var, positions_of-method_var, positions_of-positive}
use Rattle.il_model.specs.Trees.{trees_within, trees_in}
use Rattle.il_model.specs.Entries.{arguments_at}

flat_agree : (f g : TExpr → List TExpr) (xs : List TExpr) → AllByRecursion (λ x. f x ≡ g x) xs → flat_map f xs ≡ flat_map g xs
flat_agree f g [] all = refl
flat_agree f g (x ∷ xs) all = ap (λ ys. ys ++ flat_map f xs) all.0 ∙ ap (λ ys. g x ++ ys) (flat_agree f g xs all.1)

-- as many levels as a type has positions, or more, reach all arguments in it
abbrev Reaches : TExpr → Type 0
Reaches t = (n : ℕ) → positions_of t ≤ n → trees_within n t ≡ trees_in t

reach_each : (k : ℕ) (xs : List TExpr) → AllByRecursion Reaches xs → sum_by positions_of xs ≤ k → AllByRecursion (λ x. trees_within k x ≡ trees_in x) xs
reach_each k [] all le = tt
reach_each k (x ∷ xs) all le =
    let both : sum_by positions_of (x ∷ xs) ≡ positions_of x + sum_by positions_of xs = sum_by-cons positions_of x xs in
    (all.0 k (omega (arith, le, both)), reach_each k xs all.1 (omega (arith, le, both)))

opened : (t : TExpr) (top : TNode TExpr) (m : ℕ) → top_of t ≡ top → trees_within (suc m) t ≡ t ∷ flat_map (λ part. trees_within m part) (arguments_at top)
opened t top m is = ap (λ (o : TNode TExpr). t ∷ flat_map (λ part. trees_within m part) (arguments_at o)) is

node_reaches : (head : Head) (parts : List TExpr) (k : ℕ) → AllByRecursion Reaches parts → sum_by positions_of parts ≤ k →
    trees_within (suc k) (node head parts) ≡ node head parts ∷ flat_map trees_in parts
node_reaches head parts k all le =
    opened (node head parts) (Node head parts) k (top_of-tree_of (Node head parts))
    ∙ ap (λ ys. node head parts ∷ ys) (flat_agree (λ part. trees_within k part) trees_in parts (reach_each k parts all le))

node_whole : (head : Head) (parts : List TExpr) → AllByRecursion Reaches parts → trees_in (node head parts) ≡ node head parts ∷ flat_map trees_in parts
node_whole head parts all =
    let count : positions_of (node head parts) ≡ suc (sum_by positions_of parts) = omega (arith, positions_of-node head parts) in
    let le : sum_by positions_of parts ≤ sum_by positions_of parts = omega arith in
    ap (λ (k : ℕ). trees_within k (node head parts)) count ∙ node_reaches head parts (sum_by positions_of parts) all le

at_node : (head : Head) (parts : List TExpr) → AllByRecursion Reaches parts → Reaches (node head parts)
at_node head parts all zero le = absurd (omega (arith, le, positions_of-positive (node head parts)))
at_node head parts all (suc k) le =
    node_reaches head parts k all (omega (arith, le, positions_of-node head parts)) ∙ sym (node_whole head parts all)

alone : (t : TExpr) (top : TNode TExpr) → top_of t ≡ top → arguments_at top ≡ [] → positions_of t ≡ 1 → Reaches t
alone t top is none one zero le = absurd (omega (arith, le, one))
alone t top is none one (suc k) le =
    let single : (m : ℕ) → trees_within (suc m) t ≡ t ∷ [] = λ m. opened t top m is ∙ ap (λ (ps : List TExpr). t ∷ flat_map (λ part. trees_within m part) ps) none in
    let count : positions_of t ≡ suc zero = omega (arith, one) in
    single k ∙ sym (ap (λ (m : ℕ). trees_within m t) count ∙ single zero)

reaches : (t : TExpr) → Reaches t
reaches =
    holds_of_trees Reaches at_node
    (λ n. alone (class_var n) (ClassVar n) (top_of-tree_of (ClassVar n)) refl (positions_of-class_var n))
    (λ n. alone (method_var n) (MethodVar n) (top_of-tree_of (MethodVar n)) refl (positions_of-method_var n))

all_reach : (xs : List TExpr) → AllByRecursion Reaches xs
all_reach [] = tt
all_reach (x ∷ xs) = (reaches x, all_reach xs)

trees_top : (t : TExpr) (top : TNode TExpr) → top_of t ≡ top → trees_in t ≡ t ∷ flat_map trees_in (arguments_at top)
trees_top t (Node head parts) is =
    subst (λ (u : TExpr). trees_in u ≡ u ∷ flat_map trees_in parts) (sym (tree_of-is t (Node head parts) is)) (node_whole head parts (all_reach parts))
trees_top t (ClassVar n) is =
    let le : positions_of t ≤ suc (positions_of t) = omega arith in
    sym (reaches t (suc (positions_of t)) le) ∙ opened t (ClassVar n) (positions_of t) is
trees_top t (MethodVar n) is =
    let le : positions_of t ≤ suc (positions_of t) = omega arith in
    sym (reaches t (suc (positions_of t)) le) ∙ opened t (MethodVar n) (positions_of t) is

module _ (test : TExpr → Bool) where
  all_flat : (f : TExpr → List TExpr) (xs : List TExpr) → list_all test (flat_map f xs) ≡ list_all (λ x. list_all test (f x)) xs
  all_flat f [] = refl
  all_flat f (x ∷ xs) = list_all-append test (f x) (flat_map f xs) ∙ ap (λ b. list_all test (f x) && b) (all_flat f xs)

  -- the test passes of a type and all in it where it passes of the type and of all in each argument
  pub all_opened : (t : TExpr) (top : TNode TExpr) → top_of t ≡ top →
      list_all test (trees_in t) ≡ (test t && list_all (λ part. list_all test (trees_in part)) (arguments_at top))
  all_opened t top is =
      ap (λ ts. list_all test ts) (trees_top t top is) ∙ ap (λ b. test t && b) (all_flat trees_in (arguments_at top))

  -- where the test passes of a type with arguments, it is asked of these
  pub node_passes : (t : TExpr) (head : Head) (parts : List TExpr) → top_of t ≡ Node head parts → test t ≡ true →
      list_all (λ part. list_all test (trees_in part)) parts ≡ list_all test (trees_in t)
  node_passes t head parts is passes =
      sym (all_opened t (Node head parts) is ∙ ap (λ b. b && list_all (λ part. list_all test (trees_in part)) parts) passes)

module _ {A B : Type 0} (test : B → Bool) (f : A → List B) where
  all_parts : (xs : List A) → list_all test (flat_map f xs) ≡ list_all (λ x. list_all test (f x)) xs
  all_parts [] = refl
  all_parts (x ∷ xs) = list_all-append test (f x) (flat_map f xs) ∙ ap (λ b. list_all test (f x) && b) (all_parts xs)

  -- what fails in one part fails in all
  pub part_fails : (xs : List A) (i : ℕ) (x : A) → i < length xs → x ≡ get_or xs i x → list_all test (f x) ≡ false → list_all test (flat_map f xs) ≡ false
  part_fails xs i x inside is fails =
      all_parts xs ∙ list_all_at (λ y. list_all test (f y)) xs i x inside (ap (λ y. list_all test (f y)) (sym is) ∙ fails)

  pub part_passes : (xs : List A) (i : ℕ) (x : A) → i < length xs → x ≡ get_or xs i x → list_all test (f x) ≡ true →
      list_all test (flat_map f (take i xs)) ≡ true → list_all test (flat_map f (take (i + 1) xs)) ≡ true
  part_passes xs i x inside is passes before =
      all_parts (take (i + 1) xs)
      ∙ list_all_more (λ y. list_all test (f y)) xs i x inside
      ∙ ap (λ b. b && list_all test (f (get_or xs i x))) (sym (all_parts (take i xs)) ∙ before)
      ∙ ap (λ y. list_all test (f y)) (sym is)
      ∙ passes

module _ {A B : Type 0} (test : A × B → Bool) where
  zip_none : (xs : List A) → list_all test (zip xs []) ≡ true
  zip_none [] = refl
  zip_none (x ∷ xs) = refl

  -- past the shorter list nothing is asked
  pub zip_over : (xs : List A) (ys : List B) (i : ℕ) → length ys ≤ i → list_all test (zip (drop i xs) (drop i ys)) ≡ true
  zip_over xs ys i over = ap (λ (zs : List B). list_all test (zip (drop i xs) zs)) (drop_all i ys over) ∙ zip_none (drop i xs)

-- A class's definition, and how few variables the rule on hierarchies leaves it.
use Rattle.std.proofs.Common.{◌≡◌, ℕ, zero, suc, ◌+◌, ◌*◌, ◌<◌, ◌≤◌, Bool, true, false, ◌||◌, nat_lt, List, [], ◌∷◌, ◌++◌, length, map, take, slice_get, Some, sum_by, refl, ap, ◌∙◌, arith}
use Rattle.std.specs.List.{list_any}
use Rattle.std.proofs.lemmas.List.{map-append}
use Rattle.std.proofs.lemmas.List.Sums.{sum_by-cons}
use Rattle.std.proofs.lemmas.Bool.Decides.{nat_tests}
use Rattle.type_tree.specs.declared.tree.Head.TheVariants as head
use Rattle.type_tree.specs.declared.tree.TExpr.{TExpr}
use Rattle.type_tree.specs.Tree.{node, class_var}
use Rattle.type_tree.specs.Positions.{positions_of}
use Rattle.type_tree.proofs.PositionsLemmas.{positions_of-node, positions_of-class_var}
use Rattle.il_model.specs.declared.class.ClassDef.{ClassDef}
use Rattle.il_model.specs.declared.program.Program.{Program}
use Rattle.il_model.specs.LookUp.{numbers_from}
use Rattle.il_model.specs.Layouts.{most_trees}
use Rattle.il_model.specs.Admission.{is_large, closure_within}
use Rattle.il_model.specs.Bases.{own_of_class, own_of}
use Rattle.il_model.specs.ClassRules.{HasTypes}

numbers_more : {A : Type 0} (n : ℕ) (xs : List A) (i : ℕ) → i < length xs → numbers_from n (take (suc i) xs) ≡ numbers_from n (take i xs) ++ (n + i) ∷ []
numbers_more n [] i inside = absurd (omega (arith, inside))
numbers_more n (x ∷ xs) zero inside = let same : n ≡ n + 0 = omega arith in ap (λ (m : ℕ). m ∷ []) same
numbers_more n (x ∷ xs) (suc i) inside =
    let same : (n + 1) + i ≡ n + suc i = omega arith in
    ap (λ (ms : List ℕ). n ∷ ms) (numbers_more (n + 1) xs i (omega (arith, inside)) ∙ ap (λ (m : ℕ). numbers_from (n + 1) (take i xs) ++ m ∷ []) same)

-- one variable more
pub variables_more : {A : Type 0} (xs : List A) (i : ℕ) → i < length xs →
    map class_var (numbers_from 0 (take (i + 1) xs)) ≡ map class_var (numbers_from 0 (take i xs)) ++ class_var i ∷ []
variables_more xs i inside =
    let next : i + 1 ≡ suc i = omega arith in
    let last : 0 + i ≡ i = omega arith in
    ap (λ (k : ℕ). map class_var (numbers_from 0 (take k xs))) next
    ∙ ap (map class_var) (numbers_more 0 xs i inside ∙ ap (λ (m : ℕ). numbers_from 0 (take i xs) ++ m ∷ []) last)
    ∙ map-append class_var (numbers_from 0 (take i xs)) (i ∷ [])

ones : {A : Type 0} (n : ℕ) (xs : List A) → sum_by positions_of (map class_var (numbers_from n xs)) ≡ length xs
ones n [] = refl
ones n (x ∷ xs) = omega (arith, sum_by-cons positions_of (class_var n) (map class_var (numbers_from (n + 1) xs)), positions_of-class_var n, ones (n + 1) xs)

first_of_none : (a b : Bool) → (a || b) ≡ false → a ≡ false
first_of_none false b e = refl
first_of_none true b e = e

start_is_small : (program : Program) (n : ℕ) (t : TExpr) → list_any is_large (closure_within program n t) ≡ false → is_large t ≡ false
start_is_small program zero t e = first_of_none (is_large t) false e
start_is_small program (suc n) t e = first_of_none (is_large t) _ e

small : (n : ℕ) → nat_lt 256 n ≡ false → n ≤ 256
small n e = grind (arith, nat_tests)

-- a class has fewer than 256 variables
pub few_variables : (program : Program) (number : ℕ) (c : ClassDef) → HasTypes program → slice_get program.classes number ≡ Some c → length c.vars < 256
few_variables program number c types is =
    let own : own_of program number ≡ node (head.Class number) (map class_var (numbers_from 0 c.vars)) = ap (own_of_class number) is in
    let rule = types.hierarchy.each number c is in
    let few : positions_of (own_of program number) ≤ 256 =
    small (positions_of (own_of program number)) (start_is_small program (most_trees * positions_of (own_of program number)) (own_of program number) rule.no_large) in
    let count : positions_of (own_of program number) ≡ 1 + sum_by positions_of (map class_var (numbers_from 0 c.vars)) =
    ap positions_of own ∙ positions_of-node (head.Class number) (map class_var (numbers_from 0 c.vars)) in
    omega (arith, few, count, ones 0 c.vars)

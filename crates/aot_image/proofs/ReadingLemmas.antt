-- Reading step by step.
use Rattle.std.proofs.Common.{◌≡◌, ◌∙◌, ℕ, zero, suc, ◌+◌, ◌-◌, ◌<◌, ◌≤◌, List, [], Some, Result, Ok, Err, IsErr, IsErrAnd, nat_lt, refl, sym, ap, subst, arith}
use Rattle.std.proofs.lemmas.Bool.{lt-ltb}
use Rattle.type_tree.specs.declared.tree.Head.{Head}
use Rattle.type_tree.specs.declared.tree.TExpr.{TExpr}
use Rattle.type_tree.specs.Tree.{node}
use Rattle.il_model.specs.declared.program.Program.{Program}
use Rattle.aot_image.specs.declared.image.ImageFault.{ImageFault}
use Rattle.aot_image.specs.declared.image.ImageCause.TheVariants as cause
use Rattle.aot_image.specs.declared.image.ReadError.{ReadError}
use Rattle.aot_image.specs.declared.image.ReadError.TheVariants as error
use Rattle.aot_image.specs.ImageReading.{Left, Read, Reader, Reads, and_then, fault_at, found_or_bad, bad_table, read_half, head_of_number, read_trees_from, read_defined, read_tree_within, inner_trees}
use Rattle.aot_image.proofs.StepLaws.{by_step, by_check, by_found}

-- an equal reading
pub reads_as : {A : Type 0} (a b : Read A) (r : Result A ReadError) (left : Left) → a ≡ b → Reads b r left → Reads a r left
reads_as a b r left e h = subst (λ x. Reads x r left) (sym e) h

-- a refusal for this fault
pub refused : {A : Type 0} (a : Read A) (e : ReadError) (f : ImageFault) (left : Left) → e ≡ error.Fault f → a ≡ Err f → Reads a (Err e) left
refused a e f left is h = subst (λ x. Reads a (Err x) left) (sym is) h

-- what a `?` hands on
pub handed_on : {T : Type 0} (r : Result T ReadError) (x : ReadError) → IsErr r × IsErrAnd r (λ e. e ≡ x) → r ≡ Err x
handed_on (Ok v) x h = absurd h.1
handed_on (Err e) x h = ap Err h.1

-- in a turn: one turn, and those behind it
pub turn_left : {X : Type 0} {whole : X} (rest : ℕ → X) (turns at : ℕ) → at < turns → whole ≡ rest (turns - at) → whole ≡ rest (suc (turns - (at + 1)))
turn_left rest turns at below kept = let count : turns - at ≡ suc (turns - (at + 1)) = omega arith in kept ∙ ap rest count

-- behind the last turn
pub none_left : {X : Type 0} {whole : X} (rest : ℕ → X) (turns at : ℕ) → turns ≤ at → whole ≡ rest (turns - at) → whole ≡ rest 0
none_left rest turns at past kept = let count : turns - at ≡ 0 = omega arith in kept ∙ ap rest count

-- ---- trees

module _ (program : Program) (row positions : ℕ) (left : Left) where
  pub tree_short : (levels : ℕ) (f : ImageFault) → read_half left ≡ Err f → read_tree_within program row levels positions left ≡ Err f
  unfolding read_tree_within
  tree_short zero f e = ap (λ (r : Read ℕ). and_then r (λ n. bad_table row)) e
  tree_short (suc levels) f e = ap (λ (r : Read ℕ). and_then r (λ n. read_defined (λ more. read_tree_within program row levels more) program row positions n)) e

  pub tree_flat : (levels n : ℕ) (mid : Left) → levels ≡ 0 → read_half left ≡ Ok (n, mid) → read_tree_within program row levels positions left ≡ Err (fault_at row cause.BadTable)
  unfolding read_tree_within
  tree_flat zero n mid none e = ap (λ (r : Read ℕ). and_then r (λ n. bad_table row)) e
  tree_flat (suc levels) n mid none e = absurd omega arith

  pub tree_deep : (levels n : ℕ) (mid : Left) → (levels ≡ 0 → ⊥) → read_half left ≡ Ok (n, mid) →
      read_tree_within program row levels positions left ≡ read_defined (inner_trees program row levels) program row positions n mid
  unfolding read_tree_within
  tree_deep zero n mid some e = absurd (some refl)
  tree_deep (suc levels) n mid some e =
      let less : levels ≡ suc levels - 1 = omega arith in
      ap (λ (r : Read ℕ). and_then r (λ n. read_defined (λ more. read_tree_within program row levels more) program row positions n)) e
      ∙ ap (λ (m : ℕ). read_defined (λ more. read_tree_within program row m more) program row positions n mid) less

  tree_refused : (levels : ℕ) (new : Left) (e : ReadError) → (let s : Result ℕ ReadError = Err e in Reads (read_half left) s new) →
      (let s : Result (TExpr × ℕ) ReadError = Err e in Reads (read_tree_within program row levels positions left) s new)
  tree_refused levels new error.Memory h = tt
  tree_refused levels new (error.Fault f) h = tree_short levels f h

  pub tree_handed : (levels : ℕ) (new : Left) (e : ReadError) (r : Result (TExpr × ℕ) ReadError) → r ≡ Err e → (let s : Result ℕ ReadError = Err e in Reads (read_half left) s new) →
      Reads (read_tree_within program row levels positions left) r new
  tree_handed levels new e r is h = subst (λ (s : Result (TExpr × ℕ) ReadError). Reads (read_tree_within program row levels positions left) s new) (sym is) (tree_refused levels new e h)

-- a definition that is there, and the trees that it wants
pub defined_is : (inner : ℕ → Reader (TExpr × ℕ)) (program : Program) (row positions n : ℕ) (left : Left) (h : Head) (count : ℕ) (parts : List TExpr) (remain : ℕ) (new : Left) →
    (positions ≡ 0 → ⊥) → head_of_number program n ≡ Some (h, count) → read_trees_from inner count [] (positions - 1) left ≡ Ok ((parts, remain), new) →
    read_defined inner program row positions n left ≡ Ok ((node h parts, remain), new)
unfolding read_defined
defined_is inner program row positions n left h count parts remain new some is read =
    by_check row (nat_lt 0 positions) left
    (λ _ more. and_then (found_or_bad row (head_of_number program n) more) (λ d more. and_then (read_trees_from inner d.1 [] (positions - 1) more) (λ p more. Ok ((node d.0 p.0, p.1), more)))) _
    (lt-ltb 0 positions (omega (arith, some)))
    (by_found row (head_of_number program n) (h, count) left (λ d more. and_then (read_trees_from inner d.1 [] (positions - 1) more) (λ p more. Ok ((node d.0 p.0, p.1), more))) _ is
    (by_step (read_trees_from inner count [] (positions - 1) left) (λ p more. Ok ((node h p.0, p.1), more)) _ (parts, remain) new read refl))

-- A tree that is read was spelled so and is one that may be read; and such a tree is read again.
use Rattle.std.proofs.Common.{◌≡◌, ◌∙◌, ℕ, zero, suc, ◌+◌, ◌-◌, ◌<◌, ◌≤◌, ◌^◌, ◌==◌, Bool, true, false, ◌&&◌, cond, ltb, eqb, List, [], ◌∷◌, ◌++◌, length, map, flat_map, fold, max, sum_by, slice_get, Option, Some, None, option_map, nat_lt, Ok, refl, sym, ap, subst, append_assoc, arith}
use Rattle.std.specs.Int.{w16}
use Rattle.std.specs.List.{list_all, AllByRecursion}
use Rattle.std.proofs.lemmas.Bool.{true≢false, eqb-true, eq-eqb, ne_eqb, ltb-true, ltb-false, lt-ltb, le-ltb, and_parts, and_from}
use Rattle.std.proofs.lemmas.List.{append-nil}
use Rattle.std.proofs.lemmas.List.Sums.{sum_by-cons}
use Rattle.std.proofs.lemmas.Option.{same_Some}
use Rattle.type_tree.specs.declared.tree.Head.{Head}
use Rattle.type_tree.specs.declared.tree.Head.TheVariants as head
use Rattle.type_tree.specs.declared.tree.TExpr.{TExpr}
use Rattle.type_tree.specs.declared.tree.TNode.{TNode}
use Rattle.type_tree.specs.declared.tree.TNode.TheVariants.{Node, ClassVar, MethodVar}
use Rattle.type_tree.specs.Tree.{top_of, node, class_var, method_var, level_below, has_variables_below}
use Rattle.type_tree.specs.Positions.{positions_of}
use Rattle.type_tree.proofs.TreeLemmas.{top_of-tree_of, tree_of-is, folded-node, folded-class_var, folded-method_var}
use Rattle.type_tree.proofs.PositionsLemmas.{positions_of-node}
use Rattle.il_model.specs.declared.class.ClassDef.{ClassDef}
use Rattle.il_model.specs.declared.program.Program.{Program}
use Rattle.il_model.specs.Admission.{has_count, has_count_in, has_count_top}
use Rattle.il_model.specs.ClassRules.{has_counts}
use Rattle.rgctx_template.specs.GotEntries.{largest, level_depth, levels_of}
use Rattle.cil_verify.proofs.TreesLemmas.{all_opened}
use Rattle.aot_image.specs.declared.image.ImageCause.TheVariants as cause
use Rattle.aot_image.specs.ImageSpelling.{half, first_class, definition_number, tree_bytes}
use Rattle.aot_image.specs.ImageReading.{Left, Reader, and_then, found_or_bad, fault_at, bad_table, read_half, class_head, head_of_number, read_trees_from, read_defined, read_tree_within, read_tree}
use Rattle.aot_image.specs.ImageForm.{tree_fits}
use Rattle.aot_image.proofs.JudgingLemmas.{closed_node}
use Rattle.aot_image.proofs.WritingLemmas.{fits_node, bytes_node}
use Rattle.aot_image.proofs.StepLaws.{refusal, value_of, rest_of, stepped, stepped_check, stepped_found, by_step, IsBytes, Took, took_none, took_then, Goes, goes_then, goes_check, goes_found, wide16, number_sound, number_goes}

-- ---- folds at a node

pub levels_node : (h : Head) (parts : List TExpr) → levels_of (node h parts) ≡ suc (largest (map levels_of parts))
levels_node h parts = folded-node level_depth h parts

counts_node : (program : Program) (h : Head) (parts : List TExpr) →
    has_counts program (node h parts) ≡ (has_count_top program (Node h parts) && list_all (has_counts program) parts)
counts_node program h parts =
    all_opened (has_count program) (node h parts) (Node h parts) (top_of-tree_of (Node h parts))
    ∙ ap (λ (top : TNode TExpr). has_count_top program top && list_all (has_counts program) parts) (top_of-tree_of (Node h parts))

-- ---- definitions

-- what a definition's number stands for has this number, and wants so many arguments
pub record HeadIs (program : Program) (n : ℕ) (h : Head) (count : ℕ) : Type 0 where
  pub number : definition_number h ≡ n
  pub wants : (parts : List TExpr) → length parts ≡ count → has_count_top program (Node h parts) ≡ true

head_is : (program : Program) (n : ℕ) (h : Head) (count : ℕ) (x : Head × ℕ) → Some x ≡ Some (h, count) → HeadIs program n x.0 x.1 → HeadIs program n h count
head_is program n h count x e is = subst (λ (y : Head × ℕ). HeadIs program n y.0 y.1) (same_Some x (h, count) e) is

class_is : (program : Program) (n : ℕ) (o : Option ClassDef) (h : Head) (count : ℕ) → first_class ≤ n → slice_get program.classes (n - first_class) ≡ o →
    option_map (class_head (n - first_class)) o ≡ Some (h, count) → HeadIs program n h count
class_is program n (Some c) h count le at e =
    head_is program n h count (class_head (n - first_class) c) e
    (record { number = omega arith; wants = λ parts len. ap (λ (o : Option ClassDef). has_count_in o parts) at ∙ eq-eqb (length parts) (length c.vars) len })
class_is program n None h count le at e = absurd cc

head_below : (program : Program) (n : ℕ) (h : Head) (count : ℕ) (b : Bool) → ltb n first_class ≡ b →
    cond b None (option_map (class_head (n - first_class)) (slice_get program.classes (n - first_class))) ≡ Some (h, count) → HeadIs program n h count
head_below program n h count true is e = absurd cc
head_below program n h count false is e = class_is program n (slice_get program.classes (n - first_class)) h count (ltb-false _ _ is) refl e

module _ (program : Program) (n : ℕ) (h : Head) (count : ℕ) where
  scalar : (x : Head) (k : ℕ) (rest : Option (Head × ℕ)) (number : definition_number x ≡ k) (wants : (parts : List TExpr) → has_count_top program (Node x parts) ≡ (length parts == 0)) →
      (rest ≡ Some (h, count) → HeadIs program n h count) → (b : Bool) → eqb n k ≡ b → cond b (Some (x, 0)) rest ≡ Some (h, count) → HeadIs program n h count
  scalar x k rest number wants others true is e =
      head_is program n h count (x, 0) e (record { number = number ∙ sym (eqb-true n k is); wants = λ parts len. wants parts ∙ eq-eqb (length parts) 0 len })
  scalar x k rest number wants others false is e = others e

  vector : (rest : Option (Head × ℕ)) → (rest ≡ Some (h, count) → HeadIs program n h count) → (b : Bool) → eqb n 4 ≡ b → cond b (Some (head.Vector, 1)) rest ≡ Some (h, count) →
      HeadIs program n h count
  vector rest others true is e =
      head_is program n h count (head.Vector, 1) e (record { number = sym (eqb-true n 4 is); wants = λ parts len. eq-eqb (length parts) 1 len })
  vector rest others false is e = others e

pub head_found : (program : Program) (n : ℕ) (h : Head) (count : ℕ) → head_of_number program n ≡ Some (h, count) → HeadIs program n h count
unfolding head_of_number
head_found program n h count e =
    scalar program n h count head.Int32 1 _ refl (λ parts. refl)
    (scalar program n h count head.Int64 2 _ refl (λ parts. refl)
    (scalar program n h count head.Bool 3 _ refl (λ parts. refl)
    (vector program n h count _ (head_below program n h count (ltb n first_class) refl) (eqb n 4) refl)
    (eqb n 3) refl)
    (eqb n 2) refl)
    (eqb n 1) refl e

-- ---- what was read

-- a tree of at most so many levels, behind which of so many positions those may still come
pub record IsRead (program : Program) (levels positions : ℕ) (t : TExpr) (remain : ℕ) : Type 0 where
  pub counts : has_counts program t ≡ true
  pub closed : has_variables_below 0 0 t ≡ true
  pub fits : tree_fits t ≡ true
  pub deep : levels_of t ≤ levels
  pub sum : positions_of t + remain ≡ positions

pub record AreRead (program : Program) (levels positions : ℕ) (ts : List TExpr) (remain : ℕ) : Type 0 where
  pub counts : list_all (has_counts program) ts ≡ true
  pub closed : list_all (has_variables_below 0 0) ts ≡ true
  pub fits : list_all tree_fits ts ≡ true
  pub deep : AllByRecursion (λ t. levels_of t ≤ levels) ts
  pub sum : sum_by positions_of ts + remain ≡ positions

none_read : (program : Program) (levels positions : ℕ) → AreRead program levels positions [] positions
none_read program levels positions = record { counts = refl; closed = refl; fits = refl; deep = tt; sum = omega arith }

more_read : (program : Program) (levels positions mid remain : ℕ) (t : TExpr) (ts : List TExpr) → IsRead program levels positions t mid → AreRead program levels mid ts remain →
    AreRead program levels positions (t ∷ ts) remain
more_read program levels positions mid remain t ts one others =
    record {
      counts = and_from _ _ one.counts others.counts;
      closed = and_from _ _ one.closed others.closed;
      fits = and_from _ _ one.fits others.fits;
      deep = (one.deep, others.deep);
      sum = omega (arith, one.sum, others.sum, sum_by-cons positions_of t ts);
    }

largest_below : (most acc : ℕ) (ts : List TExpr) → acc ≤ most → AllByRecursion (λ t. levels_of t ≤ most) ts → fold max acc (map levels_of ts) ≤ most
largest_below most acc [] le all = le
largest_below most acc (t ∷ ts) le all = let both : max acc (levels_of t) ≤ most = omega (arith, le, all.0) in largest_below most (max acc (levels_of t)) ts both all.1

below_largest : (most acc : ℕ) (ts : List TExpr) → fold max acc (map levels_of ts) ≤ most → (acc ≤ most) × AllByRecursion (λ t. levels_of t ≤ most) ts
below_largest most acc [] le = (le, tt)
below_largest most acc (t ∷ ts) le =
    let rest = below_largest most (max acc (levels_of t)) ts le in
    let both : max acc (levels_of t) ≤ most = rest.0 in
    (omega (arith, both), (omega (arith, both), rest.1))

node_read : (program : Program) (levels positions mid remain n : ℕ) (h : Head) (parts : List TExpr) → HeadIs program n h (length parts) → n < 2 ^ 16 → mid + 1 ≡ positions →
    AreRead program levels mid parts remain → IsRead program (suc levels) positions (node h parts) remain
node_read program levels positions mid remain n h parts is lt count all =
    let few : definition_number h < 2 ^ 16 = subst (λ k. k < 2 ^ 16) (sym is.number) lt in
    record {
      counts = counts_node program h parts ∙ and_from _ _ (is.wants parts refl) all.counts;
      closed = closed_node h parts ∙ all.closed;
      fits = fits_node h parts ∙ and_from _ _ (lt-ltb _ _ few) all.fits;
      deep = omega (arith, levels_node h parts, largest_below levels 0 parts (omega arith) all.deep);
      sum = omega (arith, positions_of-node h parts, all.sum, count);
    }

-- ---- soundness

-- trees that were read behind those found
pub record TreesRead (program : Program) (levels positions n : ℕ) (found ts : List TExpr) (remain : ℕ) (left back : Left) : Type 0 where
  pub new : List TExpr
  pub is : ts ≡ found ++ new
  pub took : Took left (flat_map tree_bytes new) back
  pub count : length new ≡ n
  pub read : AreRead program levels positions new remain

module _ (program : Program) (levels : ℕ) (inner : ℕ → Reader (TExpr × ℕ)) (sound : (positions : ℕ) (left : Left) (t : TExpr) (remain : ℕ) (back : Left) → IsBytes left.bytes → inner positions left ≡ Ok ((t, remain), back) →
    Took left (tree_bytes t) back × IsRead program levels positions t remain) where
  pub trees_sound : (n : ℕ) (found : List TExpr) (positions : ℕ) (left : Left) (ts : List TExpr) (remain : ℕ) (back : Left) → IsBytes left.bytes →
      read_trees_from inner n found positions left ≡ Ok ((ts, remain), back) → TreesRead program levels positions n found ts remain left back
  unfolding read_trees_from
  trees_sound zero found positions left ts remain back fits e =
      let value : (let x : List TExpr × ℕ = (found, positions) in x ≡ (ts, remain)) = value_of (found, positions) (ts, remain) left back e in
      let same : found ≡ ts = ap (λ (x : List TExpr × ℕ). x.0) value in
      let none : positions ≡ remain = ap (λ (x : List TExpr × ℕ). x.1) value in
      let stays : left ≡ back = rest_of (found, positions) (ts, remain) left back e in
      record {
        new = [];
        is = sym same ∙ sym (append-nil found);
        took = subst (λ (l : Left). Took left [] l) stays (took_none left fits);
        count = refl;
        read = subst (λ (k : ℕ). AreRead program levels positions [] k) none (none_read program levels positions);
      }
  trees_sound (suc n) found positions left ts remain back fits e =
      stepped (inner positions left) (λ p. read_trees_from inner n (found ++ p.0 ∷ []) p.1) (ts, remain) back e
      (λ p mid e1 e2.
      let a = sound positions left p.0 p.1 mid fits e1 in
      let b = trees_sound n (found ++ p.0 ∷ []) p.1 mid ts remain back a.0.fits e2 in
      record {
        new = p.0 ∷ b.new;
        is = b.is ∙ append_assoc found (p.0 ∷ []) b.new;
        took = took_then left mid back (tree_bytes p.0) (flat_map tree_bytes b.new) a.0 b.took;
        count = ap suc b.count;
        read = more_read program levels positions p.1 remain p.0 b.new a.1 b.read;
      })

-- what follows the number of a definition
pub record DefinedRead (program : Program) (levels positions n : ℕ) (t : TExpr) (remain : ℕ) (left back : Left) : Type 0 where
  pub rest : List ℕ
  pub took : Took left rest back
  pub spelled : half n ++ rest ≡ tree_bytes t
  pub read : IsRead program (suc levels) positions t remain

module _ (program : Program) (row levels : ℕ) (inner : ℕ → Reader (TExpr × ℕ)) (sound : (positions : ℕ) (left : Left) (t : TExpr) (remain : ℕ) (back : Left) → IsBytes left.bytes → inner positions left ≡ Ok ((t, remain), back) →
    Took left (tree_bytes t) back × IsRead program levels positions t remain) where
  made_sound : (positions n : ℕ) (h : Head) (count : ℕ) (left : Left) (t : TExpr) (remain : ℕ) (back : Left) → IsBytes left.bytes → n < 2 ^ 16 → 0 < positions → HeadIs program n h count →
      and_then {B = TExpr × ℕ} (read_trees_from inner count [] (positions - 1) left) (λ p more. Ok ((node h p.0, p.1), more)) ≡ Ok ((t, remain), back) →
      DefinedRead program levels positions n t remain left back
  made_sound positions n h count left t remain back fits lt above is e =
      stepped (read_trees_from inner count [] (positions - 1) left) (λ p more. Ok ((node h p.0, p.1), more)) (t, remain) back e
      (λ p last e5 e6.
      let parts = trees_sound program levels inner sound count [] (positions - 1) left p.0 p.1 last fits e5 in
      let one : (positions - 1) + 1 ≡ positions = omega arith in
      let wants : HeadIs program n h (length parts.new) = subst (λ k. HeadIs program n h k) (sym parts.count) is in
      let made : IsRead program (suc levels) positions (node h parts.new) p.1 = node_read program levels positions (positions - 1) p.1 n h parts.new wants lt one parts.read in
      let spelled : half n ++ flat_map tree_bytes parts.new ≡ tree_bytes (node h parts.new) =
      ap (λ k. half k ++ flat_map tree_bytes parts.new) (sym is.number) ∙ sym (bytes_node h parts.new) in
      let value : (let x : TExpr × ℕ = (node h p.0, p.1) in x ≡ (t, remain)) = value_of (node h p.0, p.1) (t, remain) last back e6 in
      let tree_is : node h parts.new ≡ t = ap (node h) (sym parts.is) ∙ ap (λ (x : TExpr × ℕ). x.0) value in
      let remain_is : p.1 ≡ remain = ap (λ (x : TExpr × ℕ). x.1) value in
      let stays : last ≡ back = rest_of (node h p.0, p.1) (t, remain) last back e6 in
      record {
        rest = flat_map tree_bytes parts.new;
        took = subst (λ (l : Left). Took left (flat_map tree_bytes parts.new) l) stays parts.took;
        spelled = spelled ∙ ap tree_bytes tree_is;
        read = subst (λ (k : ℕ). IsRead program (suc levels) positions t k) remain_is (subst (λ (u : TExpr). IsRead program (suc levels) positions u p.1) tree_is made);
      })

  pub defined_sound : (positions n : ℕ) (left : Left) (t : TExpr) (remain : ℕ) (back : Left) → IsBytes left.bytes → n < 2 ^ 16 →
      read_defined inner program row positions n left ≡ Ok ((t, remain), back) → DefinedRead program levels positions n t remain left back
  unfolding read_defined
  defined_sound positions n left t remain back fits lt e =
      stepped_check row (nat_lt 0 positions) left
      (λ _ more. and_then (found_or_bad row (head_of_number program n) more) (λ h more. and_then (read_trees_from inner h.1 [] (positions - 1) more) (λ p more. Ok ((node h.0 p.0, p.1), more))))
      (t, remain) back e
      (λ some e3.
      stepped_found row (head_of_number program n) left
      (λ h more. and_then (read_trees_from inner h.1 [] (positions - 1) more) (λ p more. Ok ((node h.0 p.0, p.1), more)))
      (t, remain) back e3
      (λ h is e4. made_sound positions n h.0 h.1 left t remain back fits lt (ltb-true _ _ some) (head_found program n h.0 h.1 is) e4))

pub tree_within_sound : (program : Program) (row levels positions : ℕ) (left : Left) (t : TExpr) (remain : ℕ) (back : Left) → IsBytes left.bytes →
    read_tree_within program row levels positions left ≡ Ok ((t, remain), back) → Took left (tree_bytes t) back × IsRead program levels positions t remain
unfolding read_tree_within
tree_within_sound program row zero positions left t remain back fits e =
    stepped (read_half left) (λ n. bad_table row) (t, remain) back e (λ n mid e1 e2. refusal (fault_at row cause.BadTable) (t, remain) back e2)
tree_within_sound program row (suc levels) positions left t remain back fits e =
    stepped (read_half left) (λ n. read_defined (λ more. read_tree_within program row levels more) program row positions n) (t, remain) back e
    (λ n mid e1 e2.
    let first = number_sound w16 (2 ^ 16) wide16 left n mid fits e1 in
    let d = defined_sound program row levels (λ more. read_tree_within program row levels more) (λ most from u rest to ok r. tree_within_sound program row levels most from u rest to ok r)
    positions n mid t remain back first.0.fits first.1 e2 in
    (subst (λ (bs : List ℕ). Took left bs back) d.spelled (took_then left mid back (half n) d.rest first.0 d.took), d.read))

pub tree_sound : (program : Program) (row levels positions : ℕ) (left : Left) (t : TExpr) (back : Left) → IsBytes left.bytes → read_tree program row levels positions left ≡ Ok (t, back) →
    Took left (tree_bytes t) back × ((remain : ℕ) × IsRead program levels positions t remain)
unfolding read_tree
tree_sound program row levels positions left t back fits e =
    stepped (read_tree_within program row levels positions left) (λ p more. Ok (p.0, more)) t back e
    (λ p mid e1 e2.
    let both = tree_within_sound program row levels positions left p.0 p.1 mid fits e1 in
    let same : p.0 ≡ t = value_of p.0 t mid back e2 in
    let stays : mid ≡ back = rest_of p.0 t mid back e2 in (
      subst (λ (u : TExpr). Took left (tree_bytes u) back) same (subst (λ (l : Left). Took left (tree_bytes p.0) l) stays both.0),
      (p.1, subst (λ (u : TExpr). IsRead program levels positions u p.1) same both.1),
    ))

-- ---- completeness

class_stands : (number : ℕ) (o : Option ClassDef) (parts : List TExpr) → has_count_in o parts ≡ true → option_map (class_head number) o ≡ Some (head.Class number, length parts)
class_stands number (Some c) parts counts = ap (λ k. Some (head.Class number, k)) (sym (eqb-true (length parts) (length c.vars) counts))
class_stands number None parts counts = absurd cc

-- the number of a definition stands for it
number_stands : (program : Program) (h : Head) (parts : List TExpr) → has_count_top program (Node h parts) ≡ true →
    head_of_number program (definition_number h) ≡ Some (h, length parts)
unfolding head_of_number
number_stands program head.Int32 parts counts = ap (λ k. Some (head.Int32, k)) (sym (eqb-true (length parts) 0 counts))
number_stands program head.Int64 parts counts = ap (λ k. Some (head.Int64, k)) (sym (eqb-true (length parts) 0 counts))
number_stands program head.Bool parts counts = ap (λ k. Some (head.Bool, k)) (sym (eqb-true (length parts) 0 counts))
number_stands program head.Vector parts counts = ap (λ k. Some (head.Vector, k)) (sym (eqb-true (length parts) 1 counts))
number_stands program (head.Class number) parts counts =
    let n : ℕ = first_class + number in
    let back : n - first_class ≡ number = omega arith in
    rw (ne_eqb n 1 (λ e. omega (arith, e)), ne_eqb n 2 (λ e. omega (arith, e)), ne_eqb n 3 (λ e. omega (arith, e)), ne_eqb n 4 (λ e. omega (arith, e)), le-ltb n first_class (omega arith), back)
    (class_stands number (slice_get program.classes number) parts counts)

-- ---- trees that fit are read

-- a tree that may be read where so many levels and positions may come
pub record MayRead (program : Program) (levels positions : ℕ) (t : TExpr) : Type 0 where
  pub counts : has_counts program t ≡ true
  pub closed : has_variables_below 0 0 t ≡ true
  pub fits : tree_fits t ≡ true
  pub deep : levels_of t ≤ levels
  pub few : positions_of t ≤ positions

pub record MayReadAll (program : Program) (levels positions : ℕ) (ts : List TExpr) : Type 0 where
  pub counts : list_all (has_counts program) ts ≡ true
  pub closed : list_all (has_variables_below 0 0) ts ≡ true
  pub fits : list_all tree_fits ts ≡ true
  pub deep : AllByRecursion (λ t. levels_of t ≤ levels) ts
  pub few : sum_by positions_of ts ≤ positions

first_may : (program : Program) (levels positions : ℕ) (t : TExpr) (ts : List TExpr) → MayReadAll program levels positions (t ∷ ts) → MayRead program levels positions t
first_may program levels positions t ts all =
    record {
      counts = (and_parts _ _ all.counts).0;
      closed = (and_parts _ _ all.closed).0;
      fits = (and_parts _ _ all.fits).0;
      deep = all.deep.0;
      few = omega (arith, all.few, sum_by-cons positions_of t ts);
    }

others_may : (program : Program) (levels positions : ℕ) (t : TExpr) (ts : List TExpr) → MayReadAll program levels positions (t ∷ ts) →
    MayReadAll program levels (positions - positions_of t) ts
others_may program levels positions t ts all =
    record {
      counts = (and_parts _ _ all.counts).1;
      closed = (and_parts _ _ all.closed).1;
      fits = (and_parts _ _ all.fits).1;
      deep = all.deep.1;
      few = omega (arith, all.few, sum_by-cons positions_of t ts);
    }

abbrev pub IsComplete : Program → ℕ → (ℕ → Reader (TExpr × ℕ)) → Type 0
IsComplete program levels inner =
    (t : TExpr) (positions : ℕ) (left : Left) (rest : List ℕ) → MayRead program levels positions t → left.bytes ≡ tree_bytes t ++ rest →
    Goes (inner positions left) (t, positions - positions_of t) rest

module _ (program : Program) (levels : ℕ) (inner : ℕ → Reader (TExpr × ℕ)) (complete : IsComplete program levels inner) where
  pub trees_goes : (ts found : List TExpr) (positions : ℕ) (left : Left) (rest : List ℕ) → MayReadAll program levels positions ts → left.bytes ≡ flat_map tree_bytes ts ++ rest →
      Goes (read_trees_from inner (length ts) found positions left) (found ++ ts, positions - sum_by positions_of ts) rest
  unfolding read_trees_from
  trees_goes [] found positions left rest all is =
      let same : positions ≡ positions - 0 = omega arith in
      record { back = left; is = ap (λ (x : List TExpr × ℕ). Ok (x, left)) (λ k. (sym (append-nil found) k, same k)); remains = is }
  trees_goes (t ∷ ts) found positions left rest all is =
      let first = complete t positions left (flat_map tree_bytes ts ++ rest) (first_may program levels positions t ts all) (is ∙ append_assoc (tree_bytes t) (flat_map tree_bytes ts) rest) in
      let less : (positions - positions_of t) - sum_by positions_of ts ≡ positions - sum_by positions_of (t ∷ ts) = omega (arith, sum_by-cons positions_of t ts) in
      let whole : (found ++ t ∷ []) ++ ts ≡ found ++ t ∷ ts = append_assoc found (t ∷ []) ts in
      subst (λ (x : List TExpr × ℕ). Goes (read_trees_from inner (length (t ∷ ts)) found positions left) x rest) (λ k. (whole k, less k))
      (goes_then (inner positions left) (λ p. read_trees_from inner (length ts) (found ++ p.0 ∷ []) p.1) (t, positions - positions_of t) _ (flat_map tree_bytes ts ++ rest) rest first
      (λ back at. trees_goes ts (found ++ t ∷ []) (positions - positions_of t) back rest (others_may program levels positions t ts all) at))

  pub defined_goes : (row : ℕ) (h : Head) (parts : List TExpr) (positions : ℕ) (left : Left) (rest : List ℕ) → MayRead program (suc levels) positions (node h parts) →
      left.bytes ≡ flat_map tree_bytes parts ++ rest →
      Goes (read_defined inner program row positions (definition_number h) left) (node h parts, positions - positions_of (node h parts)) rest
  unfolding read_defined
  defined_goes row h parts positions left rest may is =
      let counts = and_parts _ _ (sym (counts_node program h parts) ∙ may.counts) in
      let fit = and_parts _ _ (sym (fits_node h parts) ∙ may.fits) in
      let deep : fold max 0 (map levels_of parts) ≤ levels = omega (arith, may.deep, levels_node h parts) in
      let few : sum_by positions_of parts ≤ positions - 1 = omega (arith, may.few, positions_of-node h parts) in
      let above : 0 < positions = omega (arith, may.few, positions_of-node h parts) in
      let less : (positions - 1) - sum_by positions_of parts ≡ positions - positions_of (node h parts) = omega (arith, positions_of-node h parts) in
      let all : MayReadAll program levels (positions - 1) parts = record { counts = counts.1; closed = sym (closed_node h parts) ∙ may.closed; fits = fit.1; deep = (below_largest levels 0 parts deep).1; few = few } in
      let each = trees_goes parts [] (positions - 1) left rest all is in
      goes_check row (nat_lt 0 positions) left
      (λ _ more. and_then (found_or_bad row (head_of_number program (definition_number h)) more) (λ d more. and_then (read_trees_from inner d.1 [] (positions - 1) more) (λ p more. Ok ((node d.0 p.0, p.1), more))))
      (node h parts, positions - positions_of (node h parts)) rest (lt-ltb _ _ above)
      (goes_found row (head_of_number program (definition_number h)) (h, length parts) left
      (λ d more. and_then (read_trees_from inner d.1 [] (positions - 1) more) (λ p more. Ok ((node d.0 p.0, p.1), more)))
      (node h parts, positions - positions_of (node h parts)) rest (number_stands program h parts counts.0)
      (record {
        back = each.back;
        is = by_step (read_trees_from inner (length parts) [] (positions - 1) left) (λ p more. Ok ((node h p.0, p.1), more)) _ (parts, (positions - 1) - sum_by positions_of parts) each.back each.is
            (ap (λ (k : ℕ). Ok ((node h parts, k), each.back)) less);
        remains = each.remains;
      }))

no_levels : (h : Head) (parts : List TExpr) → levels_of (node h parts) ≤ 0 → ⊥
no_levels h parts le = omega (arith, le, levels_node h parts)

class_var_open : (n : ℕ) → has_variables_below 0 0 (class_var n) ≡ true → ⊥
class_var_open n e = true≢false (sym e ∙ folded-class_var (level_below 0 0) n ∙ le-ltb n 0 (omega arith))

method_var_open : (n : ℕ) → has_variables_below 0 0 (method_var n) ≡ true → ⊥
method_var_open n e = true≢false (sym e ∙ folded-method_var (level_below 0 0) n ∙ le-ltb n 0 (omega arith))

module _ (program : Program) (row : ℕ) where
  abbrev AtNodes : ℕ → Type 0
  AtNodes levels =
      (h : Head) (parts : List TExpr) (positions : ℕ) (left : Left) (rest : List ℕ) → MayRead program levels positions (node h parts) →
      left.bytes ≡ tree_bytes (node h parts) ++ rest → Goes (read_tree_within program row levels positions left) (node h parts, positions - positions_of (node h parts)) rest

  by_top : (levels : ℕ) → AtNodes levels → (top : TNode TExpr) (t : TExpr) (positions : ℕ) (left : Left) (rest : List ℕ) → top_of t ≡ top → MayRead program levels positions t →
      left.bytes ≡ tree_bytes t ++ rest → Goes (read_tree_within program row levels positions left) (t, positions - positions_of t) rest
  by_top levels at_nodes (Node h parts) t positions left rest top may is =
      let same : t ≡ node h parts = tree_of-is t (Node h parts) top in
      subst (λ (u : TExpr). Goes (read_tree_within program row levels positions left) (u, positions - positions_of u) rest) (sym same)
      (at_nodes h parts positions left rest (subst (λ (u : TExpr). MayRead program levels positions u) same may) (is ∙ ap (λ (u : TExpr). tree_bytes u ++ rest) same))
  by_top levels at_nodes (ClassVar n) t positions left rest top may is =
      absurd (class_var_open n (ap (has_variables_below 0 0) (sym (tree_of-is t (ClassVar n) top)) ∙ may.closed))
  by_top levels at_nodes (MethodVar n) t positions left rest top may is =
      absurd (method_var_open n (ap (has_variables_below 0 0) (sym (tree_of-is t (MethodVar n) top)) ∙ may.closed))

  nodes_zero : AtNodes 0
  nodes_zero h parts positions left rest may is = absurd (no_levels h parts may.deep)

  nodes_more : (levels : ℕ) → IsComplete program levels (λ more. read_tree_within program row levels more) → AtNodes (suc levels)
  unfolding read_tree_within
  nodes_more levels complete h parts positions left rest may is =
      let two : left.bytes ≡ half (definition_number h) ++ (flat_map tree_bytes parts ++ rest) =
      is ∙ ap (λ (bs : List ℕ). bs ++ rest) (bytes_node h parts) ∙ append_assoc (half (definition_number h)) (flat_map tree_bytes parts) rest in
      let lt : definition_number h < 2 ^ 16 = ltb-true _ _ (and_parts _ _ (sym (fits_node h parts) ∙ may.fits)).0 in
      goes_then (read_half left) (λ n. read_defined (λ more. read_tree_within program row levels more) program row positions n) (definition_number h) _ (flat_map tree_bytes parts ++ rest) rest
      (number_goes w16 (2 ^ 16) wide16 left (definition_number h) (flat_map tree_bytes parts ++ rest) two lt)
      (λ back at. defined_goes program levels (λ more. read_tree_within program row levels more) complete row h parts positions back rest may at)

  pub tree_goes : (levels : ℕ) → IsComplete program levels (λ more. read_tree_within program row levels more)
  tree_goes zero t positions left rest may is = by_top 0 nodes_zero (top_of t) t positions left rest refl may is
  tree_goes (suc levels) t positions left rest may is =
      by_top (suc levels) (nodes_more levels (λ u most from remain m at. tree_goes levels u most from remain m at)) (top_of t) t positions left rest refl may is

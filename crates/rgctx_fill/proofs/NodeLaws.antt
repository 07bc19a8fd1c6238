-- The laws of words that fit, for the layers above: no two nodes in use spell the same, what they spell is admitted, and what entries, roots and links hold.
use Rattle.std.proofs.Common.{◌≡◌, ◌≢◌, ⊎_elim, ℕ, zero, suc, ◌+◌, ◌*◌, ◌<◌, ◌≤◌, ◌==◌, Bool, true, false, Option, Some, None, if◌then◌else◌, refl, sym, ap, ◌∙◌, subst, arith, eq-eqb}
use Rattle.std.specs.Prelude.{nat_lt, slice_get, option_and_then, length, ◌++◌}
use Rattle.std.proofs.lemmas.Bool.{cases_eq, cases_lt}
use Rattle.std.proofs.lemmas.Bool.Decides.{nat_tests}
use Rattle.type_tree.specs.declared.tree.TExpr.{TExpr}
use Rattle.il_model.specs.declared.entry.Entry.{Entry}
use Rattle.il_model.specs.declared.entry.Entry.TheVariants as entry
use Rattle.il_model.specs.declared.layout.MethodTree.{MethodTree}
use Rattle.il_model.specs.Entries.{arguments_of}
use Rattle.share_canon.proofs.RowLemmas.{picks-only}
use Rattle.rgctx_words.specs.Regions.{node_count, row_count, row_words, root_index, row_index}
use Rattle.rgctx_words.specs.NodeWords.{node_read}
use Rattle.rgctx_template.specs.Catalogue.{CatData}
use Rattle.rgctx_fill.specs.declared.spelled.NodeTree.{NodeTree}
use Rattle.rgctx_fill.specs.declared.spelled.NodeTree.TheVariants as tree
use Rattle.rgctx_fill.specs.Spelled.{spelled_below, spelled, type_in, naming_of}
use Rattle.rgctx_fill.specs.Leaves.{IsLeaf, opening}
use Rattle.rgctx_fill.specs.Nodes.{IsAdmittedType, IsAdmittedMethod, MayStand}
use Rattle.rgctx_fill.specs.NamedValues.{entry_in, IsEntryWord, IsMethodValue, method_in_slot, IsSlotValue, IsValue, IsNamed, entry_at}
use Rattle.rgctx_fill.specs.Fitting.{IsRowOf, IsNext, IsEntry, AreFitting}
use Rattle.rgctx_fill.specs.Claims.{Allows}
use Rattle.rgctx_fill.specs.SpelledLaws.{below-is, below-past, spelled-grows}
use Rattle.rgctx_fill.specs.GrowthLaws.{stands-used}
use Rattle.rgctx_fill.specs.ClaimLaws.{claim-grows}
use Rattle.rgctx_fill.proofs.SpellingLemmas.{is_named, Reads, from-reads, AreDifferent, same-word, TellsMore, reads-more}

-- ---- no two nodes spell the same

not_other : {P : Type 0} (t : TExpr) → tree.Other ≡ tree.Kind t → P
not_other t e = cc

used_word : (w : ℕ) → (w == 0) ≡ false → w ≢ 0
used_word w e z = let h : true ≡ false = sym (eq-eqb w 0 z) ∙ e in cc

-- a type below a number is what its node spells
pub type_below : (at : ℕ → ℕ) (n i : ℕ) (t : TExpr) → spelled_below at n i ≡ tree.Kind t → (i < n) × (spelled at i ≡ tree.Kind t)
type_below at n i t h = ⊎_elim
    (λ (less : i < n). (less, sym (below-is at n i less) ∙ h))
    (λ (past : n ≤ i). not_other t (sym (below-past at n i past) ∙ h))
    (cases_lt i n)

below_tells : (at : ℕ → ℕ) (j n : ℕ) → j ≤ n → TellsMore (spelled_below at j) (spelled_below at n)
below_tells at j n low i t h =
    let p : (i < j) × (spelled at i ≡ tree.Kind t) = type_below at j i t h in
    below-is at n i (let less : i < j = p.0 in omega arith) ∙ p.1

reads_below : (at : ℕ → ℕ) (i n : ℕ) (s : NodeTree) → i ≤ n → is_named s ≡ true → spelled at i ≡ s → (at i ≢ 0) × Reads (spelled_below at n) (node_read (at i)) s
reads_below at i n s low named h =
    let r : ((at i == 0) ≡ false) × Reads (spelled_below at i) (node_read (at i)) s = from-reads (spelled_below at i) i (at i) s named h in
    (used_word (at i) r.0, reads-more (spelled_below at i) (spelled_below at n) (below_tells at i n low) (node_read (at i)) s r.1)

module _ (cat : CatData) (at : ℕ → ℕ) (fits : AreFitting cat at) where
  not_before : (i j : ℕ) → i < j → j < node_count → at i ≢ 0 → at j ≢ 0 → at i ≢ at j
  not_before i j less high first second = ⊎_elim
      (λ (e : i ≡ 0). absurd (first (ap at e ∙ fits.unused)))
      (λ (ne : i ≢ 0). fits.nodes_listed.different i j (omega arith) less high second)
      (cases_eq i 0)

  -- words of nodes in use differ
  same_place : (i j : ℕ) → i < node_count → j < node_count → at i ≢ 0 → at j ≢ 0 → at i ≡ at j → i ≡ j
  same_place i j low high first second e = ⊎_elim
      (λ (is : i ≡ j). is)
      (λ (ne : i ≢ j). ⊎_elim
      (λ (less : i < j). absurd (not_before i j less high first second e))
      (λ (more : j ≤ i). absurd (not_before j i (omega arith) low second first (sym e)))
      (cases_lt i j))
      (cases_eq i j)

  same_read : (i j n : ℕ) (s : NodeTree) → AreDifferent (spelled_below at n) → i ≤ n → j ≤ n → i < node_count → j < node_count → is_named s ≡ true → spelled at i ≡ s → spelled at j ≡ s → i ≡ j
  same_read i j n s different low high first second named h k =
      let a : (at i ≢ 0) × Reads (spelled_below at n) (node_read (at i)) s = reads_below at i n s low named h in
      let b : (at j ≢ 0) × Reads (spelled_below at n) (node_read (at j)) s = reads_below at j n s high named k in
      same_place i j first second a.0 b.0 (same-word (spelled_below at n) different (at i) (at j) s named a.1 b.1)

  different_below : (n : ℕ) → n ≤ node_count → AreDifferent (spelled_below at n)
  different_below zero low i j t h k = let less : i < 0 = (type_below at 0 i t h).0 in absurd (omega arith)
  different_below (suc n) low i j t h k =
      let a : (i < suc n) × (spelled at i ≡ tree.Kind t) = type_below at (suc n) i t h in
      let b : (j < suc n) × (spelled at j ≡ tree.Kind t) = type_below at (suc n) j t k in
      let less : i < suc n = a.0 in
      let more : j < suc n = b.0 in
      same_read i j n (tree.Kind t) (different_below n (omega arith)) (omega arith) (omega arith) (omega arith) (omega arith) refl a.1 b.1

  -- two nodes in use never spell the same type or method
  pub nodes-differ : (i j : ℕ) (s : NodeTree) → i < node_count → j < node_count → is_named s ≡ true → spelled at i ≡ s → spelled at j ≡ s → i ≡ j
  nodes-differ i j s low high named h k = ⊎_elim
      (λ (less : i < j). same_read i j j s (different_below j (omega arith)) (omega arith) (omega arith) low high named h k)
      (λ (more : j ≤ i). same_read i j i s (different_below i (omega arith)) (omega arith) more low high named h k)
      (cases_lt i j)

  -- ---- what nodes in use are

  -- each leaf's word stands at its number
  pub leaf-stands : (i : ℕ) → IsLeaf i → at i ≡ opening cat.program i
  leaf-stands = fits.leaves

  spelled_used : (i : ℕ) (s : NodeTree) → is_named s ≡ true → spelled at i ≡ s → at i ≢ 0
  spelled_used i s named h = (reads_below at i i s (omega arith) named h).0

  stands : (i : ℕ) (s : NodeTree) → i < node_count → is_named s ≡ true → spelled at i ≡ s → MayStand cat.program i s
  stands i s low named h = ⊎_elim
      (λ (e : i ≡ 0). absurd (spelled_used i s named h (ap at e ∙ fits.unused)))
      (λ (ne : i ≢ 0). subst (MayStand cat.program i) h (fits.nodes i (omega arith) low (spelled_used i s named h)))
      (cases_eq i 0)

  -- a type node in use spells an admitted type
  pub type-admitted : (i : ℕ) (t : TExpr) → i < node_count → spelled at i ≡ tree.Kind t → IsAdmittedType cat.program t
  type-admitted i t low h = stands i (tree.Kind t) low refl h

  -- a method node in use spells an admitted method
  pub method-admitted : (i : ℕ) (m : MethodTree) → i < node_count → spelled at i ≡ tree.Method m → IsAdmittedMethod cat.program m
  method-admitted i m low h = stands i (tree.Method m) low refl h

  -- ---- entries, roots and links

  -- an entry that is not 0 is the value that it names
  pub entry-named : (row slot : ℕ) → row < row_count → 0 < slot → slot < row_words → at (row_index row slot) ≢ 0 → IsEntry cat at row slot (at (row_index row slot))
  entry-named = fits.entries

  -- a root that is not 0 is the address of its node's row of depth 0
  pub root-is : (i : ℕ) → i < node_count → at (root_index i) ≢ 0 → IsRowOf at i 0 (at (root_index i))
  root-is = fits.roots

  -- a link that is not 0 is the address of the row of the next depth
  pub link-is : (row : ℕ) → row < row_count → at (row_index row 0) ≢ 0 → IsNext at row (at (row_index row 0))
  link-is = fits.links

  -- ---- the value of an entry is one

  type_named : (b : Bool) (s : NodeTree) (t : TExpr) → (if b then type_in s else None) ≡ Some t → (b ≡ true) × (s ≡ tree.Kind t)
  type_named true (tree.Kind u) t h = (refl, cc)
  type_named true (tree.Method m) t h = cc
  type_named true tree.Other t h = cc
  type_named true (tree.Zero n) t h = cc
  type_named false s t h = cc

  -- the naming gives no type to two numbers
  pub naming-distinct : (v w : ℕ) (t : TExpr) → naming_of at v ≡ Some t → naming_of at w ≡ Some t → v ≡ w
  naming-distinct v w t h k =
      let a : (nat_lt v node_count ≡ true) × (spelled at v ≡ tree.Kind t) = type_named (nat_lt v node_count) (spelled at v) t h in
      let b : (nat_lt w node_count ≡ true) × (spelled at w ≡ tree.Kind t) = type_named (nat_lt w node_count) (spelled at w) t k in
      nodes-differ v w (tree.Kind t) (let e : nat_lt v node_count ≡ true = a.0 in grind (arith, nat_tests)) (let e : nat_lt w node_count ≡ true = b.0 in grind (arith, nat_tests)) refl a.1 b.1

  one_entry_word : (m : MethodTree) (v w : ℕ) → IsEntryWord cat m v → IsEntryWord cat m w → v ≡ w
  one_entry_word m v w h k =
      h.is
      ∙ ap (λ p. entry_in (option_and_then (slice_get cat.bodies) p)) (picks-only cat.program cat.bodies m.method (arguments_of m.class ++ m.args) (length cat.bodies) h.place k.place h.best k.best)
      ∙ sym k.is

  one_method : (m : MethodTree) (v w : ℕ) → IsMethodValue cat at m v → IsMethodValue cat at m w → v ≡ w
  one_method m v w h k =
      let a : h.node ≡ k.node = nodes-differ h.node k.node (tree.Method m) h.low k.low refl h.spells k.spells in
      let b : h.word ≡ k.word = one_entry_word m h.word k.word h.serves k.serves in
      h.is ∙ ap (λ x. 65536 * x + h.node) b ∙ ap (λ x. 65536 * k.word + x) a ∙ sym k.is

  one_slot : (m : Option MethodTree) (v w : ℕ) → IsSlotValue cat at m v → IsSlotValue cat at m w → v ≡ w
  one_slot (Some m) v w h k = one_method m v w h k
  one_slot None v w h k = absurd h

  -- no entry has two values
  pub value-only : (s : NodeTree) (e : Entry) (v w : ℕ) → IsValue cat at s e v → IsValue cat at s e w → v ≡ w
  value-only s (entry.Kind t) v w h k = naming-distinct v w t h k
  value-only s (entry.Method number class args) v w h k = one_method (record { method = number; class = class; args = args }) v w h k
  value-only s (entry.Size t) v w h k = h ∙ sym k
  value-only s (entry.Extent t) v w h k = h ∙ sym k
  value-only s (entry.Offset t place) v w h k = cc
  value-only s (entry.Slot number) v w h k = one_slot (method_in_slot cat.program s number) v w h k

  -- what an entry of a node names is one value
  pub named-only : (i number v w : ℕ) → IsNamed cat at i number v → IsNamed cat at i number w → v ≡ w
  named-only i number v w h k =
      let e : h.entry ≡ k.entry = (let p : Some h.entry ≡ Some k.entry = sym h.is ∙ k.is in cc) in
      value-only (spelled at i) (entry_at (spelled at i) k.entry) v w (subst (λ x. IsValue cat at (spelled at i) (entry_at (spelled at i) x) v) e h.names) k.names

  -- ---- claims

  -- an allowed claim that finds 0 keeps what each node in use spells; that the words fit afterwards is `claim-keeps`
  pub claim-spells : (new held : ℕ → ℕ) (i word : ℕ) → ((j : ℕ) → held j ≢ 0 → at j ≡ held j) → at i ≡ 0 → Allows cat held i word → new i ≡ word → ((j : ℕ) → j ≢ i → new j ≡ at j)
      → (k : ℕ) → 0 < k → k < node_count → at k ≢ 0 → spelled new k ≡ spelled at k
  claim-spells new held i word within was may here others k low high used =
      spelled-grows at new (claim-grows cat at new held i word fits within was may here others) k (stands-used cat.program k (spelled at k) (fits.nodes k low high used))

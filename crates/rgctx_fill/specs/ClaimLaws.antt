-- An allowed claim keeps the fit; and what is always there, or named by a word, holds a word.
use Rattle.std.proofs.Common.{◌≡◌, ◌≢◌, ⊎_elim, ℕ, ◌-◌, ◌<◌, ◌≤◌, List, length, refl, sym, ap, ◌∙◌, subst, arith, get_or-set_same, get_or-set_other}
use Rattle.std.specs.Prelude.{slice_index, slice_set}
use Rattle.std.proofs.lemmas.Bool.{cases_eq, cases_lt}
use Rattle.rgctx_words.specs.declared.place.ContextPlace.{ContextPlace}
use Rattle.rgctx_words.specs.declared.place.ContextPlace.TheVariants as place
use Rattle.rgctx_words.specs.Regions.{word_count, node_count, row_count, row_words, directory_at, directory_index, root_index, row_index}
use Rattle.rgctx_words.specs.Places.{place_of}
use Rattle.rgctx_words.specs.Directory.{directory_read}
use Rattle.rgctx_words.specs.Held.{Within, Grows}
use Rattle.rgctx_template.specs.Catalogue.{CatData}
use Rattle.rgctx_fill.specs.Spelled.{spelled_below, spelled_from, spelled}
use Rattle.rgctx_fill.specs.Leaves.{IsLeaf, last_leaf, opening}
use Rattle.rgctx_fill.specs.Nodes.{MayStand}
use Rattle.rgctx_fill.specs.Fitting.{AreListed, directory, use_of, IsRow, IsRowOf, IsNext, IsEntry, AreFitting}
use Rattle.rgctx_fill.specs.Claims.{ArePassed, MayNode, MayRow, MayClaim, Allows}
use Rattle.rgctx_fill.specs.SpelledLaws.{from-agrees, below-grows}
use Rattle.rgctx_fill.specs.PlaceLaws.{node-place, directory-place, root-place, link-place, entry-place}
use Rattle.rgctx_fill.specs.GrowthLaws.{stands-used, stands-grows, row-grows, row_of-grows, next-grows, entry-grows}

-- ---- lists of words that differ

pub listed-same : (old new : ℕ → ℕ) (first count : ℕ) → ((j : ℕ) → j < count → new j ≡ old j) → AreListed old first count → AreListed new first count
listed-same old new first count same listed = record {
  packed = λ i j low less high used z. listed.packed i j low less high (λ y. used (same j high ∙ y)) (sym (same i (omega arith)) ∙ z);
  different = λ i j low less high used e. listed.different i j low less high (λ y. used (same j high ∙ y)) (sym (same i (omega arith)) ∙ e ∙ same j high);
}

module _ (old new hold : ℕ → ℕ) (first count k word : ℕ) (listed : AreListed old first count) (grows : Grows old new) (holds : Grows hold new)
    (was : old k ≡ 0) (here : new k ≡ word) (others : (j : ℕ) → j ≢ k → new j ≡ old j) (passed : ArePassed hold first k word) where
  at_place : (i j : ℕ) → first ≤ i → i < j → j ≡ k → (new i ≢ 0) × (new i ≢ new j)
  at_place i j low less e =
      let below : i < k = omega arith in
      let h : new i ≡ hold i = holds i (passed.held i low below) in
      ((λ z. passed.held i low below (sym h ∙ z)), λ d. passed.other i low below (sym h ∙ d ∙ ap new e ∙ here))

  elsewhere : (i j : ℕ) → first ≤ i → i < j → j < count → new j ≢ 0 → j ≢ k → (new i ≢ 0) × (new i ≢ new j)
  elsewhere i j low less high used ne =
      let stood : old j ≢ 0 = λ z. used (others j ne ∙ z) in
      let before : old i ≢ 0 = listed.packed i j low less high stood in
      ((λ z. before (sym (grows i before) ∙ z)), λ d. listed.different i j low less high stood (sym (grows i before) ∙ d ∙ others j ne))

  both : (i j : ℕ) → first ≤ i → i < j → j < count → new j ≢ 0 → (new i ≢ 0) × (new i ≢ new j)
  both i j low less high used = ⊎_elim (λ (e : j ≡ k). at_place i j low less e) (λ (ne : j ≢ k). elsewhere i j low less high used ne) (cases_eq j k)

  pub listed-claimed : AreListed new first count
  listed-claimed = record {
    packed = λ i j low less high used. (both i j low less high used).0;
    different = λ i j low less high used. (both i j low less high used).1;
  }

-- ---- a claim

module _ (cat : CatData) (at new held : ℕ → ℕ) (i word : ℕ) (fits : AreFitting cat at) (within : (j : ℕ) → held j ≢ 0 → at j ≡ held j) (was : at i ≡ 0) (may : Allows cat held i word) (here : new i ≡ word) (others : (j : ℕ) → j ≢ i → new j ≡ at j) where
  pub claim-grows : Grows at new
  claim-grows j used = others j (λ e. used (ap at e ∙ was))

  held_grows : Grows held new
  held_grows j used = claim-grows j (λ z. used (sym (within j used) ∙ z)) ∙ within j used

  claimed : (k : ℕ) (p : ContextPlace) → k ≡ i → place_of k ≡ p → MayClaim cat held word p
  claimed k p e is = subst (MayClaim cat held word) (ap place_of (sym e) ∙ is) may

  may_node : (k : ℕ) → k < node_count → k ≡ i → MayNode cat held k word
  may_node k low e = claimed k (place.Node k) e (node-place k low)

  may_row : (row : ℕ) → row < row_count → directory_index row ≡ i → MayRow cat held row word
  may_row row low e = claimed (directory_index row) (place.Directory row) e (directory-place row low)

  claimed_word : (k : ℕ) → k ≡ i → new k ≡ word
  claimed_word k e = ap new e ∙ here

  claimed_node : (k : ℕ) → k < node_count → k ≡ i → MayStand cat.program k (spelled new k)
  claimed_node k low e =
      let m : MayNode cat held k word = may_node k low e in
      let agrees : spelled_from (spelled_below new k) k word ≡ spelled_from (spelled_below held k) k word = from-agrees (spelled_below held k) (spelled_below new k) (below-grows held new held_grows k) k word (stands-used cat.program k _ m.stands) in
      subst (MayStand cat.program k) (sym (ap (spelled_from (spelled_below new k) k) (claimed_word k e) ∙ agrees)) m.stands

  nodes_kept : (k : ℕ) → 0 < k → k < node_count → new k ≢ 0 → MayStand cat.program k (spelled new k)
  nodes_kept k low high used = ⊎_elim
      (λ (e : k ≡ i). claimed_node k high e)
      (λ (ne : k ≢ i). stands-grows cat at new claim-grows k (fits.nodes k low high (λ z. used (others k ne ∙ z))))
      (cases_eq k i)

  leaves_kept : (k : ℕ) → IsLeaf k → new k ≡ opening cat.program k
  leaves_kept k leaf = ⊎_elim
      (λ (e : k ≡ i). let m : last_leaf < k = (may_node k (omega arith) e).later in absurd (omega arith))
      (λ (ne : k ≢ i). others k ne ∙ fits.leaves k leaf)
      (cases_eq k i)

  nodes_listed_kept : AreListed new 1 node_count
  nodes_listed_kept = ⊎_elim
      (λ (low : i < node_count). listed-claimed at new held 1 node_count i word fits.nodes_listed claim-grows held_grows was here others (may_node i low refl).passed)
      (λ (high : node_count ≤ i). listed-same at new 1 node_count (λ j low. others j (λ e. omega arith)) fits.nodes_listed)
      (cases_lt i node_count)

  row_claimed : (row : ℕ) → row < row_count → directory_index row ≡ i → AreListed (directory new) 0 row_count
  row_claimed row low e =
      listed-claimed (directory at) (directory new) (directory held) 0 row_count row word fits.rows_listed (λ j used. claim-grows _ used) (λ j used. held_grows _ used)
      (ap at e ∙ was) (claimed_word _ e) (λ j ne. others _ (λ d. ne (omega arith))) (may_row row low e).passed

  rows_listed_kept : AreListed (directory new) 0 row_count
  rows_listed_kept = ⊎_elim
      (λ (e : directory_index (i - directory_at) ≡ i). ⊎_elim
      (λ (low : i - directory_at < row_count). row_claimed (i - directory_at) low e)
      (λ (high : row_count ≤ i - directory_at). listed-same (directory at) (directory new) 0 row_count (λ j low. others _ (λ d. omega arith)) fits.rows_listed)
      (cases_lt (i - directory_at) row_count))
      (λ (ne : directory_index (i - directory_at) ≢ i). listed-same (directory at) (directory new) 0 row_count (λ j low. others _ (λ d. ne (omega arith))) fits.rows_listed)
      (cases_eq (directory_index (i - directory_at)) i)

  rows_kept : (row : ℕ) → row < row_count → directory new row ≢ 0 → IsRow cat new (use_of new row)
  rows_kept row low used = ⊎_elim
      (λ (e : directory_index row ≡ i). subst (λ w. IsRow cat new (directory_read w)) (sym (claimed_word _ e)) (row-grows cat held new held_grows (directory_read word) (may_row row low e).rightly))
      (λ (ne : directory_index row ≢ i). subst (λ w. IsRow cat new (directory_read w)) (sym (others _ ne)) (row-grows cat at new claim-grows (use_of at row) (fits.rows row low (λ z. used (others _ ne ∙ z)))))
      (cases_eq (directory_index row) i)

  roots_kept : (k : ℕ) → k < node_count → new (root_index k) ≢ 0 → IsRowOf new k 0 (new (root_index k))
  roots_kept k low used = ⊎_elim
      (λ (e : root_index k ≡ i). subst (IsRowOf new k 0) (sym (claimed_word _ e)) (row_of-grows cat held new held_grows k 0 word (claimed (root_index k) (place.Root k) e (root-place k low))))
      (λ (ne : root_index k ≢ i). subst (IsRowOf new k 0) (sym (others _ ne)) (row_of-grows cat at new claim-grows k 0 (at (root_index k)) (fits.roots k low (λ z. used (others _ ne ∙ z)))))
      (cases_eq (root_index k) i)

  links_kept : (row : ℕ) → row < row_count → new (row_index row 0) ≢ 0 → IsNext new row (new (row_index row 0))
  links_kept row low used = ⊎_elim
      (λ (e : row_index row 0 ≡ i). subst (IsNext new row) (sym (claimed_word _ e)) (next-grows cat at new claim-grows row word (claimed (row_index row 0) (place.Link row) e (link-place row) at fits within)))
      (λ (ne : row_index row 0 ≢ i). subst (IsNext new row) (sym (others _ ne)) (next-grows cat at new claim-grows row (at (row_index row 0)) (fits.links row low (λ z. used (others _ ne ∙ z)))))
      (cases_eq (row_index row 0) i)

  entries_kept : (row slot : ℕ) → row < row_count → 0 < slot → slot < row_words → new (row_index row slot) ≢ 0 → IsEntry cat new row slot (new (row_index row slot))
  entries_kept row slot low first last used = ⊎_elim
      (λ (e : row_index row slot ≡ i). subst (IsEntry cat new row slot) (sym (claimed_word _ e)) (entry-grows cat at new claim-grows row slot word (claimed (row_index row slot) (place.Entry row slot) e (entry-place row slot first last) at fits within)))
      (λ (ne : row_index row slot ≢ i). subst (IsEntry cat new row slot) (sym (others _ ne)) (entry-grows cat at new claim-grows row slot (at (row_index row slot)) (fits.entries row slot low first last (λ z. used (others _ ne ∙ z)))))
      (cases_eq (row_index row slot) i)

  unused_kept : new 0 ≡ 0
  unused_kept = ⊎_elim
      (λ (e : 0 ≡ i). let m : last_leaf < 0 = (may_node 0 (omega arith) e).later in absurd (omega arith))
      (λ (ne : ¬ (0 ≡ i)). others 0 ne ∙ fits.unused)
      (cases_eq 0 i)

  pub claim-keeps : AreFitting cat new
  claim-keeps = record {
    nodes = nodes_kept;
    leaves = leaves_kept;
    nodes_listed = nodes_listed_kept;
    rows_listed = rows_listed_kept;
    rows = rows_kept;
    roots = roots_kept;
    links = links_kept;
    entries = entries_kept;
    unused = unused_kept;
  }

-- the list of words with one claimed fits
pub claim_fits : (cat : CatData) (words : List ℕ) (held : ℕ → ℕ) (i word : ℕ) → length words ≡ word_count → AreFitting cat (λ k. slice_index words k) → Within held words → i < word_count → slice_index words i ≡ 0 → Allows cat held i word
    → AreFitting cat (λ k. slice_index (slice_set words i word) k)
claim_fits cat words held i word count fits within low was may =
    claim-keeps cat (λ k. slice_index words k) (λ k. slice_index (slice_set words i word) k) held i word fits within was may
    (get_or-set_same words i word 0 (omega arith)) (λ j ne. get_or-set_other words i j word 0 ne)

-- What entries, roots and links show to one who holds them: whose row it is, and the node that an entry of a type, a method or a slot names.
use Rattle.std.proofs.Common.{◌≡◌, ◌≢◌, ℕ, ◌+◌, ◌*◌, ◌%◌, ◌<◌, false, Option, Some, None, sym, ap, ◌∙◌, subst, arith}
use Rattle.std.specs.Prelude.{nat_lt, slice_get}
use Rattle.il_model.specs.declared.entry.Entry.{Entry}
use Rattle.il_model.specs.declared.entry.Entry.TheVariants as entry
use Rattle.il_model.specs.declared.layout.MethodTree.{MethodTree}
use Rattle.rgctx_words.specs.declared.directory.DirectoryWord.{DirectoryWord}
use Rattle.rgctx_words.specs.Regions.{node_count, row_count, row_words, root_index, row_index, row_address}
use Rattle.rgctx_words.specs.Places.{entry_of}
use Rattle.rgctx_template.specs.Catalogue.{CatData}
use Rattle.rgctx_fill.specs.declared.spelled.NodeTree.{NodeTree}
use Rattle.rgctx_fill.specs.Spelled.{spelled_below, spelled}
use Rattle.rgctx_fill.specs.Templates.{template_at}
use Rattle.rgctx_fill.specs.NamedValues.{IsMethodValue, IsSlotValue, IsValue, IsNamed, entry_at, method_in_slot, node_in}
use Rattle.rgctx_fill.specs.Fitting.{directory, use_of, IsRowOf, IsNext, IsEntry}
use Rattle.rgctx_fill.specs.Claims.{IsSure, Shows}
use Rattle.rgctx_fill.specs.SpelledLaws.{is_zero, no_zero_word, spelled-grows}
use Rattle.rgctx_fill.specs.GrowthLaws.{type_used, use-grows}

abbrev row_for : ℕ → ℕ → DirectoryWord
row_for i depth = record { node = i; depth = depth }

-- ---- the node that a value names is in use

module _ (cat : CatData) (at : ℕ → ℕ) where
  spelled_used : (i : ℕ) → is_zero (spelled at i) ≡ false → at i ≢ 0
  spelled_used i h = no_zero_word (spelled_below at i) i (at i) h

  same_used : (i j : ℕ) → i ≡ j → at i ≢ 0 → at j ≢ 0
  same_used i j e used = subst (λ k. at k ≢ 0) e used

  some_same : (i j : ℕ) → Some i ≡ Some j → i ≡ j
  some_same i j e = cc

  method_used : (m : MethodTree) (value j : ℕ) → IsMethodValue cat at m value → Some (value % 65536) ≡ Some j → at j ≢ 0
  method_used m value j h named =
      let low : h.node < node_count = h.low in
      let is : value ≡ 65536 * h.word + h.node = h.is in
      let e : h.node ≡ value % 65536 = omega arith in
      same_used h.node j (e ∙ some_same (value % 65536) j named) (spelled_used h.node (ap is_zero h.spells))

  slot_used : (m : Option MethodTree) (value j : ℕ) → IsSlotValue cat at m value → Some (value % 65536) ≡ Some j → at j ≢ 0
  slot_used (Some m) value j h named = method_used m value j h named
  slot_used None value j h named = absurd h

  none_named : {P : Type 0} (j : ℕ) → ◌≡◌ {A = Option ℕ} None (Some j) → P
  none_named j e = cc

  value_used : (s : NodeTree) (e : Entry) (value j : ℕ) → IsValue cat at s (entry_at s e) value → node_in e value ≡ Some j → at j ≢ 0
  value_used s (entry.Kind t) value j h named = same_used value j (some_same value j named) (spelled_used value (type_used (nat_lt value node_count) (spelled at value) _ h))
  value_used s (entry.Method number class args) value j h named = method_used _ value j h named
  value_used s (entry.Size t) value j h named = none_named j named
  value_used s (entry.Extent t) value j h named = none_named j named
  value_used s (entry.Offset t place) value j h named = none_named j named
  value_used s (entry.Slot number) value j h named = slot_used (method_in_slot cat.program s number) value j h named

  -- what an entry names is in use
  pub named-used : (i number value j : ℕ) (e : Entry) → IsNamed cat at i number value → slice_get (template_at cat at i) number ≡ Some e → node_in e value ≡ Some j → at j ≢ 0
  named-used i number value j e h is named =
      let same : h.entry ≡ e = (let p : Some h.entry ≡ Some e = sym h.is ∙ is in cc) in
      value_used (spelled at i) e value j (subst (λ x. IsValue cat at (spelled at i) (entry_at (spelled at i) x) value) same h.names) named

-- ---- what held words show

module _ (cat : CatData) (held : ℕ → ℕ) where
  -- a held directory word says whose row it is, and at which depth
  pub sure-directory : (row : ℕ) → directory held row ≢ 0 → IsSure cat held (λ at. use_of at row ≡ use_of held row)
  sure-directory row used at fits within = use-grows cat held at within row used

  same_row : (row next : ℕ) → row_address row ≡ row_address next → row ≡ next
  same_row row next e = omega arith

  of_address : (at : ℕ → ℕ) (i depth address row : ℕ) → IsRowOf at i depth address → address ≡ row_address row → use_of at row ≡ row_for i depth
  of_address at i depth address row h is = subst (λ r. use_of at r ≡ row_for i depth) (same_row h.row row (sym h.is ∙ is)) h.of

  -- so does a held root, of the row to which it points
  pub sure-root : (i row : ℕ) → i < node_count → row < row_count → held (root_index i) ≡ row_address row → IsSure cat held (λ at. use_of at row ≡ row_for i 0)
  sure-root i row low inside is at fits within =
      let used : held (root_index i) ≢ 0 = λ z. omega arith in
      let e : at (root_index i) ≡ row_address row = within (root_index i) used ∙ is in
      of_address at i 0 (at (root_index i)) row (fits.roots i low (λ z. omega arith)) e

  -- so does a held link, where whose row it stands in is sure
  pub sure-link : (row next i depth : ℕ) → row < row_count → next < row_count → IsSure cat held (λ at. use_of at row ≡ row_for i depth) → held (row_index row 0) ≡ row_address next
      → IsSure cat held (λ at. use_of at next ≡ row_for i (depth + 1))
  sure-link row next i depth low inside sure is at fits within =
      let used : held (row_index row 0) ≢ 0 = λ z. omega arith in
      let e : at (row_index row 0) ≡ row_address next = within (row_index row 0) used ∙ is in
      let h : IsNext at row (at (row_index row 0)) = fits.links row low (λ z. omega arith) in
      subst (λ (u : DirectoryWord). use_of at next ≡ row_for u.node (u.depth + 1)) (sure at fits within)
      (of_address at (use_of at row).node ((use_of at row).depth + 1) (at (row_index row 0)) next h.next e)

  -- what a node is read to spell through held words it spells
  pub sure-spelled : (i : ℕ) → is_zero (spelled held i) ≡ false → IsSure cat held (λ at. spelled at i ≡ spelled held i)
  sure-spelled i h at fits within = spelled-grows held at within i h

  -- a held entry of a type, a method or a slot shows that the node which it names is in use
  pub shows-entry : (row slot i depth j : ℕ) (e : Entry) → row < row_count → 0 < slot → slot < row_words
      → IsSure cat held (λ at. use_of at row ≡ row_for i depth)
      → IsSure cat held (λ at. slice_get (template_at cat at i) (entry_of depth slot) ≡ Some e)
      → held (row_index row slot) ≢ 0 → node_in e (held (row_index row slot)) ≡ Some j → Shows cat held j
  shows-entry row slot i depth j e low first last of listed used named at fits within =
      let same : at (row_index row slot) ≡ held (row_index row slot) = within (row_index row slot) used in
      let h : IsEntry cat at row slot (at (row_index row slot)) = fits.entries row slot low first last (λ z. used (sym same ∙ z)) in
      named-used cat at i (entry_of depth slot) (at (row_index row slot)) j e
      (subst (λ (u : DirectoryWord). IsNamed cat at u.node (entry_of u.depth slot) (at (row_index row slot))) (of at fits within) h.named)
      (listed at fits within) (ap (node_in e) same ∙ named)

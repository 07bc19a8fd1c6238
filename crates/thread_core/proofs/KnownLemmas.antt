-- A word that is known stands: where the words fit, each node that a word in use names is in use.
use Rattle.std.proofs.Common.{◌≡◌, ◌≢◌, ℕ, ◌*◌, ◌<◌, List, Some, sym, ap, ◌∙◌, subst, arith}
use Rattle.std.specs.Prelude.{slice_get}
use Rattle.interaction.specs.Thread.{Turn, Turns, Want}
use Rattle.interaction.specs.RunLaws.{Grows}
use Rattle.interaction.proofs.Later.{told_stands}
use Rattle.rgctx_words.specs.declared.directory.DirectoryWord.{DirectoryWord}
use Rattle.rgctx_words.specs.Regions.{row_count, row_index}
use Rattle.rgctx_words.specs.Places.{row_entries, entry_of}
use Rattle.rgctx_template.specs.Catalogue.{CatData}
use Rattle.rgctx_fill.specs.Claims.{NamesFrom}
use Rattle.rgctx_fill.specs.Fitting.{directory, use_of, IsRow, IsEntry, AreFitting}
use Rattle.rgctx_fill.specs.GrowthLaws.{within-used, use-grows}
use Rattle.rgctx_fill.specs.LeafLaws.{leaf-used}
use Rattle.rgctx_fill.specs.NamedValues.{node_in}
use Rattle.rgctx_fill.specs.PlaceLaws.{node-place}
use Rattle.rgctx_fill.specs.Spelled.{spelled}
use Rattle.rgctx_fill.specs.SpelledLaws.{spelled-grows}
use Rattle.rgctx_fill.specs.Templates.{template_at, tree_template}
use Rattle.rgctx_fill.proofs.EntryLaws.{named-used}
use Rattle.rgctx_fill.proofs.ShownLaws.{names-used}
use Rattle.store_object.specs.declared.request.Request.{Request}
use Rattle.store_object.specs.declared.reply.Reply.{Reply}
use Rattle.thread_core.specs.Known.{NamesNode, argument, user, entry, IsKnown, told, leaf, named}

module _ (cat : CatData) (w v : ℕ → ℕ) (fits : AreFitting cat w) (grows : Grows w v) where
  -- the row's use is the same later, and so is the template of its node
  same_use : (row : ℕ) → directory w row ≢ 0 → use_of v row ≡ use_of w row
  same_use row used = use-grows cat w v grows row used

  same_template : (row : ℕ) → row < row_count → directory w row ≢ 0 → template_at cat v (use_of w row).node ≡ template_at cat w (use_of w row).node
  same_template row low used =
      let r : IsRow cat w (use_of w row) = fits.rows row low used in
      ap (tree_template cat) (spelled-grows w v grows (use_of w row).node (within-used cat (spelled w (use_of w row).node) (row_entries * (use_of w row).depth) r.within))

  named_stands : (j i : ℕ) → w j ≢ 0 → NamesNode cat v j i → w i ≢ 0
  named_stands j i used (argument low some less among) =
      names-used cat w fits j i (omega arith) used (subst (λ p. NamesFrom p (w j) i) (sym (node-place j low)) (some, less))
  named_stands j _ used (user {row = row} low at) =
      let there : directory w row ≢ 0 = λ z. used (ap w at ∙ z) in
      let r : IsRow cat w (use_of w row) = fits.rows row low there in
      subst (λ (u : DirectoryWord). w u.node ≢ 0) (sym (same_use row there)) r.used
  named_stands j i used (entry {row = row} {slot = slot} {e = e} low first last at item names) =
      let there : w (row_index row slot) ≢ 0 = λ z. used (ap w at ∙ z) in
      let h : IsEntry cat w row slot (w (row_index row slot)) = fits.entries row slot low first last there in
      let uses : use_of v row ≡ use_of w row = same_use row h.used in
      let here : slice_get (template_at cat v (use_of w row).node) (entry_of (use_of w row).depth slot) ≡ Some e =
      subst (λ (u : DirectoryWord). slice_get (template_at cat v u.node) (entry_of u.depth slot) ≡ Some e) uses item in
      let mine : slice_get (template_at cat w (use_of w row).node) (entry_of (use_of w row).depth slot) ≡ Some e =
      ap (λ es. slice_get es (entry_of (use_of w row).depth slot)) (sym (same_template row low h.used)) ∙ here in
      let value : v j ≡ w (row_index row slot) = grows j used ∙ ap w at in
      named-used cat w (use_of w row).node (entry_of (use_of w row).depth slot) (w (row_index row slot)) i e h.named mine (ap (node_in e) (sym value) ∙ names)

  pub known_stands : {S : Type 0} {want : S → Want Request Reply S} {s t : S} {turns : List (Turn Request Reply)} → Turns want w s turns t → (i : ℕ) → IsKnown cat v turns i → w i ≢ 0
  known_stands ts i (told h) = told_stands ts i h
  known_stands ts i (leaf h) = leaf-used cat w i fits h
  known_stands ts i (named {j = j} k n) = named_stands j i (known_stands ts j k) n

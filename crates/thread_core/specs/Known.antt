-- Which context words the turns of a thread make known, so that no later turn of the thread finds nothing there. This project's own.
use Rattle.std.specs.Prelude.{◌≡◌, ℕ, ◌<◌, List, slice_get, Some}
use Rattle.std.specs.List.{Contains}
use Rattle.interaction.specs.Thread.{Turn}
use Rattle.interaction.specs.LooseRun.{Told}
use Rattle.rgctx_words.specs.NodeWords.{node_read}
use Rattle.rgctx_words.specs.Places.{entry_of}
use Rattle.rgctx_words.specs.Regions.{node_count, row_count, row_words, directory_index, row_index}
use Rattle.rgctx_template.specs.Catalogue.{CatData}
use Rattle.rgctx_fill.specs.Fitting.{use_of}
use Rattle.rgctx_fill.specs.Leaves.{IsLeaf}
use Rattle.rgctx_fill.specs.NamedValues.{node_in}
use Rattle.rgctx_fill.specs.Spelled.{argument_fields}
use Rattle.rgctx_fill.specs.Templates.{template_at}
use Rattle.il_model.specs.declared.entry.Entry.{Entry}
use Rattle.store_object.specs.declared.request.Request.{Request}
use Rattle.store_object.specs.declared.reply.Reply.{Reply}

-- The nodes that the word at an index names: a node word those of its arguments, a directory word that of its row, and an entry of
-- a type, a method or a slot the one in its value.
pub data NamesNode (cat : CatData) (at : ℕ → ℕ) (j : ℕ) : ℕ → Type 0 where
  argument : {n : ℕ} → j < node_count → 0 < n → n < j → Contains (argument_fields (node_read (at j))) n → NamesNode cat at j n
  user : {row : ℕ} → row < row_count → j ≡ directory_index row → NamesNode cat at j (use_of at row).node
  entry : {row slot n : ℕ} {e : Entry} → row < row_count → 0 < slot → slot < row_words → j ≡ row_index row slot →
      slice_get (template_at cat at (use_of at row).node) (entry_of (use_of at row).depth slot) ≡ Some e → node_in e (at j) ≡ Some n → NamesNode cat at j n

-- A word that the turns put or found, that of a leaf, and that of a node which one of these names.
pub data IsKnown (cat : CatData) (at : ℕ → ℕ) (turns : List (Turn Request Reply)) : ℕ → Type 0 where
  told : {i : ℕ} → Told turns i → IsKnown cat at turns i
  leaf : {i : ℕ} → IsLeaf i → IsKnown cat at turns i
  named : {j i : ℕ} → IsKnown cat at turns j → NamesNode cat at j i → IsKnown cat at turns i

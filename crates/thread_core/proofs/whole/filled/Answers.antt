use Rattle.std.proofs.Common.{◌*◌, ◌<◌, ◌^◌, ℕ, List, length, sym, subst}
use Rattle.std.specs.Prelude.{slice_index}
use Rattle.rgctx_words.specs.Regions.{word_count, row_count}
use Rattle.rgctx_template.specs.Catalogue.{data_of}
use Rattle.rgctx_fill.specs.Fitting.{directory}
use Rattle.thread_core.proofs.FillNotes.{claimed-inside, directory-small}
use Rattle.thread_core.proofs.whole.filled.Goals as goal

pub fills_in-requires-clause-inside : goal.fills_in-requires-clause-inside
fills_in-requires-clause-inside c =
    subst (λ (is : List ℕ). (i : ℕ) → i < length is → slice_index is i < word_count) (sym c.claimed.ensures.claimed) (claimed-inside c.args.words.now c.listed.ensures)

pub fills_in-requires-clause-small : goal.fills_in-requires-clause-small
fills_in-requires-clause-small c =
    subst (λ (ws : List ℕ). (row : ℕ) → row < row_count → directory (slice_index ws) row < 256 * 2 ^ 16) (sym c.words.ensures.words) (directory-small (data_of c.args.image.now.cat) c.args.words.now.words c.requires)

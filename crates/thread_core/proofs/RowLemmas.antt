-- The row that is picked for the entry point.
use Rattle.std.proofs.Common.{◌≡◌, ℕ, List, length, Option, Some, None, ap, ◌∙◌}
use Rattle.std.specs.Prelude.{slice_get, option_and_then}
use Rattle.std.proofs.lemmas.Option.{none-some}
use Rattle.type_tree.specs.declared.tree.TExpr.{TExpr}
use Rattle.il_model.specs.declared.key.BodyRow.{BodyRow}
use Rattle.il_model.specs.declared.program.Program.{Program}
use Rattle.share_canon.specs.Rows.{Picks}
use Rattle.share_canon.proofs.RowLemmas.{picks-only}
use Rattle.crossings.specs.Calls.{IsBodyFrame}
use Rattle.rgctx_fill.specs.BestRows.{best_row}
use Rattle.rgctx_fill.specs.ThreadStates.{ImageData}
use Rattle.rgctx_fill.specs.Serving.{IsServable}
use Rattle.rgctx_fill.proofs.BestLemmas.{Chosen, best_chosen}

-- the row at the place that is picked is the best
pub picked : (program : Program) (rows : List BodyRow) (method : ℕ) (types : List TExpr) (place : Option ℕ) → Picks program rows method types (length rows) place
    → option_and_then (slice_get rows) place ≡ best_row program rows method types
picked program rows method types place p =
    let c : Chosen program rows method types (length rows) (best_row program rows method types) = best_chosen program rows method types in
    ap (option_and_then (slice_get rows)) (picks-only program rows method types (length rows) place c.place p c.picks) ∙ c.is

-- the best row is one of the rows
among_rows : (rows : List BodyRow) (P : BodyRow → Type 0) → ((number : ℕ) (row : BodyRow) → slice_get rows number ≡ Some row → P row)
    → (place : Option ℕ) (row : BodyRow) → option_and_then (slice_get rows) place ≡ Some row → P row
among_rows rows P each None row is = absurd (none-some row is)
among_rows rows P each (Some number) row is = each number row is

pub best_frame : (im : ImageData) → IsServable im → (method : ℕ) (types : List TExpr) (row : BodyRow) → best_row im.cat.program im.cat.bodies method types ≡ Some row → IsBodyFrame row.frame
best_frame im s method types row e =
    let c : Chosen im.cat.program im.cat.bodies method types (length im.cat.bodies) (best_row im.cat.program im.cat.bodies method types) = best_chosen im.cat.program im.cat.bodies method types in
    among_rows im.cat.bodies (λ r. IsBodyFrame r.frame) s.bodies c.place row (c.is ∙ e)

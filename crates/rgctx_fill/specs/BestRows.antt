-- The body that serves a method at given types best, as a function of the rows. This project's own.
use Rattle.std.specs.Prelude.{ℕ, ◌==◌, ◌&&◌, ◌||◌, ◌++◌, nat_lt, Bool, true, List, fold, Option, Some, None, if◌then◌else◌}
use Rattle.std.specs.Cmp.Lexicographic.{pointwise}
use Rattle.type_tree.specs.declared.tree.TExpr.{TExpr}
use Rattle.type_tree.specs.Same.{is_same}
use Rattle.il_model.specs.declared.key.BodyRow.{BodyRow}
use Rattle.il_model.specs.declared.key.KeyPart.{KeyPart}
use Rattle.il_model.specs.declared.key.KeyPart.TheVariants.{Ref, Any, Exact}
use Rattle.il_model.specs.declared.layout.MethodTree.{MethodTree}
use Rattle.il_model.specs.declared.program.Program.{Program}
use Rattle.il_model.specs.Entries.{arguments_of}
use Rattle.il_model.specs.Kinds.{is_reference}
use Rattle.share_canon.specs.Keys.{exact_parts, reference_parts}
use Rattle.rgctx_template.specs.Catalogue.{CatData}
use Rattle.rgctx_fill.specs.NamedValues.{entry_in}

abbrev pub part_serves : Program → KeyPart → TExpr → Bool
part_serves program Ref t = is_reference program t
part_serves program Any t = true
part_serves program (Exact tree) t = is_same t tree

abbrev pub row_serves : Program → ℕ → List TExpr → BodyRow → Bool
row_serves program method types row = (row.method == method) && pointwise (part_serves program) row.key.parts types

abbrev pub is_closer : List KeyPart → List KeyPart → Bool
is_closer key other =
    nat_lt (exact_parts other) (exact_parts key) || ((exact_parts other == exact_parts key) && nat_lt (reference_parts other) (reference_parts key))

abbrev pub closer_of : Option BodyRow → BodyRow → Option BodyRow
closer_of None row = Some row
closer_of (Some best) row = if is_closer row.key.parts best.key.parts then Some row else Some best

-- the best match so far, once one more row was looked at
abbrev pub better : Program → ℕ → List TExpr → Option BodyRow → BodyRow → Option BodyRow
better program method types best row = if row_serves program method types row then closer_of best row else best

-- the best match among the rows, the first where several are as close
abbrev pub best_row : Program → List BodyRow → ℕ → List TExpr → Option BodyRow
best_row program rows method types = fold (better program method types) None rows

-- the entry word of an instantiated method, 0 where it is interpreted
abbrev pub entry_word_of : CatData → MethodTree → ℕ
entry_word_of cat m = entry_in (best_row cat.program cat.bodies m.method (arguments_of m.class ++ m.args))

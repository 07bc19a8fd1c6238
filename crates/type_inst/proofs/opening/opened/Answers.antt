use Rattle.std.proofs.Common.{◌≡◌, ◌<◌, List, Option, Some, slice_get, length, get_or, sym, ap, ◌∙◌}
use Rattle.std.proofs.lemmas.Option.{slice_get_within, get_or_from_slice_get}
use Rattle.type_tree.specs.declared.tree.TExpr.{TExpr}
use Rattle.type_inst.specs.Sizing.{seen_row, found_parts, parts_seen}
use Rattle.type_inst.proofs.OpeningLemmas.{opening_more}
use Rattle.type_inst.proofs.opening.opened.Goals as goal

pub loop-i-preserved : goal.loop-i-preserved
loop-i-preserved c =
    let p = c.args.program.now in
    let all = c.loop-i.all in
    let t = c.in-Some.kind.now in
    let row = c.in_ok-row.ensures {u = tt} in
    let read : slice_get all c.loop-i.i ≡ Some t = sym c.in-Some.ensures in
    let inside : c.loop-i.i < length all = slice_get_within all c.loop-i.i t read in
    let is : t ≡ get_or all c.loop-i.i t = sym (get_or_from_slice_get all c.loop-i.i t t read) in
    let here : seen_row c.row_of.new.all c.in_ok-row.row ≡ parts_seen p t = row.row ∙ ap (λ (ps : Option (List TExpr)). found_parts ps) (c.in_ok-parts.ensures {u = tt}) in
    opening_more p c.args.kinds.now c.loop-i.places c.loop-i.i all c.row_of.new.all c.loop-i.rows c.put_row.new.rows c.in_ok-row.row t
    c.loop-i.invariant row.kept inside is here (c.in_ok-put_row.ensures {u = tt})

use Rattle.std.proofs.Common.{◌==◌, false, slice_get, unwrap_or, sym, ap, ◌∙◌, arith}
use Rattle.std.specs.List.{list_any}
use Rattle.il_print.proofs.MarkLemmas.{has_mark}
use Rattle.il_print.proofs.labels.Labels.has.Goals as goal

pub returns : goal.returns
returns c =
    c.is_marked.ensures
    ∙ ap (λ ms. unwrap_or (slice_get ms c.args.at) false) c.as_slice.ensures.value
    ∙ sym (has_mark c.self.inside.marks.items 0 c.args.at c.args.at (omega arith))
    ∙ ap (λ places. list_any (λ to. to == c.args.at) places) c.self.view_is

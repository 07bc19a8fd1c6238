use Rattle.std.proofs.Common.{false, slice_get, unwrap_or, sym, ap, ◌∙◌}
use Rattle.il_print.proofs.MarkLemmas.{label_number, no_label_number}
use Rattle.il_print.proofs.labels.Labels.number.Goals as goal

pub returns-then-is_marked : goal.returns-then-is_marked
returns-then-is_marked c =
    c.rank_at.ensures
    ∙ ap (λ ranks. unwrap_or (slice_get ranks c.args.at) 0) c.as_slice-then-is_marked.ensures.value
    ∙ label_number c.self.inside.marks.items c.self.inside.ranks.items c.args.self.now c.args.at c.self.invariant c.self.view_is
    (sym (c.is_marked.ensures ∙ ap (λ ms. unwrap_or (slice_get ms c.args.at) false) c.as_slice.ensures.value) ∙ c.if-is_marked.true)

pub returns-else-is_marked : goal.returns-else-is_marked
returns-else-is_marked c =
    no_label_number c.self.inside.marks.items c.args.self.now c.args.at c.self.view_is
    (sym (c.is_marked.ensures ∙ ap (λ ms. unwrap_or (slice_get ms c.args.at) false) c.as_slice.ensures.value) ∙ c.if-is_marked.false)

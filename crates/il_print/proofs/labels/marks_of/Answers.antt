use Rattle.std.proofs.Common.{rules, ◌≡◌, ◌+◌, length, replicate, false, ap, ◌∙◌}
use Rattle.il_print.proofs.MarkLemmas.{marks_in_steps}
use Rattle.il_print.proofs.labels.marks_of.Goals as goal

pub returns : goal.returns
returns c =
    let none : c.in_ok-marks.marks.items ≡ replicate (length c.args.body.now.code + 1) false = c.in_ok-marks.ensures ∙ ap (λ n. replicate (n + 1) false) (search rules) in
    marks_in_steps c.args.body.now (length c.args.body.now.code + 1) c.in_ok-marks.marks.items c.mark_code.new.marks.items c.mark_clauses.new.marks.items
    c.as_slice-code.result.now c.as_slice.result.now none c.as_slice-code.ensures c.mark_code.ensures c.as_slice.ensures c.mark_clauses.ensures

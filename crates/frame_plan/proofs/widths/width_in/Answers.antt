use Rattle.std.proofs.Common.{ap, ◌∙◌}
use Rattle.type_tree.specs.Substitution.{substituted}
use Rattle.frame_plan.specs.Widths.{width_of}
use Rattle.frame_plan.proofs.widths.width_in.Goals as goal

pub returns : goal.returns
returns c =
    let kind = c.args.kind.now in
    c.in_ok-width.ensures
    ∙ ap (width_of c.args.program.now)
    (c.in_ok-whole.ensures
    ∙ ap (λ ts. substituted ts c.as_slice-2.result.now kind) c.as_slice.ensures
    ∙ ap (λ ts. substituted c.args.ins.now.for_class ts kind) c.as_slice-2.ensures)

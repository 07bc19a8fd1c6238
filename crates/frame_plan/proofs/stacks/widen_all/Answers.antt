use Rattle.std.proofs.Common.{ap, ◌∙◌}
use Rattle.frame_plan.specs.Places.{width_of_stack}
use Rattle.frame_plan.specs.Raising.{raised}
use Rattle.frame_plan.proofs.StackLemmas.{raise_next}
use Rattle.frame_plan.proofs.stacks.widen_all.Goals as goal

pub loop-i-preserved : goal.loop-i-preserved
loop-i-preserved c =
    let f = width_of_stack c.args.program.now c.args.ins.now in
    let i = c.loop-i.i in
    let width = c.in_ok-width.width in
    c.in_ok-widen.ensures
    ∙ ap (λ ws. raised ws i width) c.loop-i.invariant
    ∙ ap (raised _ i) c.in_ok-width.ensures
    ∙ raise_next f c.args.widths.now c.args.stack.now i c.index-stack-i.result c.loop-i-test.true c.index-stack-i.is

use Rattle.std.proofs.Common.{arith}
use Rattle.frame_plan.proofs.StackLemmas.{set_same}
use Rattle.frame_plan.proofs.stacks.set_larger.Goals as goal

pub returns-else-now-width : goal.returns-else-now-width
returns-else-now-width c =
    let less = c.if-now-width.false in
    set_same c.args.widths.now c.args.place c.args.now c.args.width c.requires.now (omega (arith, less))

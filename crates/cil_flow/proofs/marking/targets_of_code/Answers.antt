use Rattle.std.proofs.Common.{arith}
use Rattle.cil_flow.proofs.MarkLemmas.{marks_are}
use Rattle.cil_flow.proofs.marking.targets_of_code.Goals as goal

pub returns : goal.returns
returns c =
    let marks = marks_are c.args.code.now c.loop-op.marks.items c.loop-op.op-index (omega arith) c.loop-op.invariant.0 c.loop-op.invariant.1 in
    cc

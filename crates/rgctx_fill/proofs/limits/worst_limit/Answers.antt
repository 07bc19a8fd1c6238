use Rattle.std.proofs.Common.{arith}
use Rattle.rgctx_fill.proofs.LoopLemmas.{worst-next}
use Rattle.rgctx_fill.proofs.limits.worst_limit.Goals as goal

pub loop-kind-preserved : goal.loop-kind-preserved
loop-kind-preserved c =
    worst-next c.args.program.now c.args.kinds.now c.loop-kind.kind-index c.kind-item.result c.loop-kind.limit c.in_ok-more.more c.worse-limit.result (omega (arith, c.loop-kind-test.true)) c.kind-item.is c.loop-kind.invariant
    c.in_ok-more.ensures c.worse-limit.ensures

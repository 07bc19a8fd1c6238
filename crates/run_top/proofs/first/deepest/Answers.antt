use Rattle.std.proofs.Common.{◌≡◌, ◌≤◌, ◌+◌, ◌∷◌, suc, pos, drop, drop-cons, get_or, arith, sym, ◌∙◌}
use Rattle.run_top.specs.declared.first.FirstOp.TheVariants.{Push}
use Rattle.run_top.specs.WellFormed.{depth_after}
use Rattle.run_top.proofs.Deepest.{deepest_step, low_after}
use Rattle.run_top.proofs.first.deepest.Goals as goal

pub loop-op-preserved : goal.loop-op-preserved
loop-op-preserved c =
    let op = get_or c.args.code.now c.loop-op.op-index (Push (pos 0)) in
    let rest = drop (suc c.loop-op.op-index) c.args.code.now in
    let step : drop c.loop-op.op-index c.args.code.now ≡ op ∷ rest = drop-cons c.args.code.now c.loop-op.op-index (Push (pos 0)) c.loop-op-test.true in
    let was = rw step at c.loop-op.invariant in
    let after : c.depth_after-depth.result ≡ depth_after op c.loop-op.depth = c.depth_after-depth.ensures in
    let i : c.loop-op.op-index + 1 ≡ suc c.loop-op.op-index = omega arith in
    let low : depth_after op c.loop-op.depth ≤ 120 = low_after op c.loop-op.depth was.1.0 (omega (arith, was.2, was.3)) in
    rw (i, c.max-most.ensures, after) (sym (deepest_step c.loop-op.most c.loop-op.depth op rest was.2) ∙ was.0, was.1.1, omega arith, omega (arith, low, was.3))

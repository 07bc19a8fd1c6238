use Rattle.std.proofs.Common.{arith, subst, ◌≤◌, length, length-drop}
use Rattle.mn_outside.proofs.CauseLemmas.{prefix-kept, prefix-put, take-rest, appends-more}
use Rattle.mn_outside.proofs.real.write_all.Goals as goal

pub returns-in-Err-clause-err : goal.returns-in-Err-clause-err
returns-in-Err-clause-err g c = prefix-kept _ _ _ _ _ c.loop.invariant.2 c.in-Err.ensures.bytes

pub returns-then-count-eq0-clause-err : goal.returns-then-count-eq0-clause-err
returns-then-count-eq0-clause-err g c = prefix-put _ _ _ _ _ _ _ c.loop.invariant.2 c.in-Ok.ensures.bytes c.if-count-eq0.true

pub loop-preserved : goal.loop-preserved
loop-preserved g c =
    let inside = subst (λ l. c.in-Ok.count ≤ length l) (take-rest c.args.bytes.now c.loop.at) c.in-Ok.ensures.bound in
    (omega arith, omega (arith, inside, length-drop c.loop.at c.args.bytes.now, c.loop.invariant.1), appends-more _ _ _ _ _ _ c.loop.invariant.2 c.in-Ok.ensures.bytes)

use Rattle.std.proofs.Common.{rules, arith}
use Rattle.std.proofs.lemmas.Grind.{common_steps}
use Rattle.unshared.proofs.WholeLemmas.{at_first}
use Rattle.unshared.proofs.whole.opening.Goals as goal

pub returns : goal.returns
returns c = λ ks.
    at_first c.args.program.now ks _ c.in_ok-thread.thread
    (first_of (search rules, grind (arith, common_steps)))
    (c.in_ok-thread.ensures {u = tt})
    (first_of (search rules, grind (arith, common_steps)))
    (first_of (search rules, grind (arith, common_steps)))
    (first_of (search rules, grind (arith, common_steps)))
    (first_of (search rules, grind (arith, common_steps)))
    (first_of (search rules, grind (arith, common_steps)))

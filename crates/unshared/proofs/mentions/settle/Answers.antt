use Rattle.std.proofs.Common.{rules, arith}
use Rattle.std.proofs.lemmas.Grind.{common_steps}
use Rattle.unshared.specs.Settled.{settles_entry}
use Rattle.unshared.proofs.mentions.settle.Goals as goal

pub returns-in_err-within-clause-settles : goal.returns-in_err-within-clause-settles
unfolding settles_entry
returns-in_err-within-clause-settles c = λ later ext.
    first_of (search rules, grind (arith, common_steps))

pub returns-clause-settles : goal.returns-clause-settles
unfolding settles_entry
returns-clause-settles c = λ later ext.
    let number = (c.in_ok-numbered.ensures {u = tt}).number later ext in
    first_of (search rules, grind (arith, common_steps))

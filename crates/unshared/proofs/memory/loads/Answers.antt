use Rattle.std.proofs.Common.{rules, arith}
use Rattle.std.proofs.lemmas.Grind.{common_steps}
use Rattle.unshared.specs.Memory.{loads_from}
use Rattle.unshared.proofs.Turns.{turn_left, none_left, stops, goes}
use Rattle.unshared.proofs.memory.loads.Goals as goal

pub returns-in_err-word : goal.returns-in_err-word
unfolding loads_from
returns-in_err-word c =
    let e = turn_left (λ n. loads_from n c.loop-turn.at c.loop-turn.words.items c.loop-turn.replies) _ c.loop-turn._turn c.loop-turn-test.true c.loop-turn.invariant in
    first_of (search rules, search (rules, stops), grind (arith, common_steps))

pub loop-turn-preserved : goal.loop-turn-preserved
unfolding loads_from
loop-turn-preserved c =
    let e = turn_left (λ n. loads_from n c.loop-turn.at c.loop-turn.words.items c.loop-turn.replies) _ c.loop-turn._turn c.loop-turn-test.true c.loop-turn.invariant in
    first_of (search rules, search (rules, goes), grind (arith, common_steps))

pub returns : goal.returns
unfolding loads_from
returns c =
    let e = none_left (λ n. loads_from n c.loop-turn.at c.loop-turn.words.items c.loop-turn.replies) _ c.loop-turn._turn c.loop-turn-test.false c.loop-turn.invariant in
    first_of (search rules, grind (arith, common_steps))

use Rattle.std.proofs.Common.{rules, arith}
use Rattle.std.proofs.lemmas.Grind.{common_steps}
use Rattle.il_parse.specs.Types.{vars_from}
use Rattle.il_parse.proofs.Turns.{turn_left, none_left}
use Rattle.il_parse.proofs.params.read_some_vars.Goals as goal

pub returns-in_err-read_var : goal.returns-in_err-read_var
unfolding vars_from
returns-in_err-read_var c =
    let e = turn_left (λ n. vars_from n c.loop-turn.found c.loop-turn.cursor) _ c.loop-turn._turn c.loop-turn-test.true c.loop-turn.invariant in
    first_of (search rules, grind (arith, common_steps))

pub returns-then-not-eat : goal.returns-then-not-eat
unfolding vars_from
returns-then-not-eat c =
    let e = turn_left (λ n. vars_from n c.loop-turn.found c.loop-turn.cursor) _ c.loop-turn._turn c.loop-turn-test.true c.loop-turn.invariant in
    first_of (search rules, grind (arith, common_steps))

pub loop-turn-preserved : goal.loop-turn-preserved
unfolding vars_from
loop-turn-preserved c =
    let e = turn_left (λ n. vars_from n c.loop-turn.found c.loop-turn.cursor) _ c.loop-turn._turn c.loop-turn-test.true c.loop-turn.invariant in
    first_of (search rules, grind (arith, common_steps))

pub returns : goal.returns
unfolding vars_from
returns c =
    let e = none_left (λ n. vars_from n c.loop-turn.found c.loop-turn.cursor) _ c.loop-turn._turn c.loop-turn-test.false c.loop-turn.invariant in
    first_of (search rules, grind (arith, common_steps))

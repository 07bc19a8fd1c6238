use Rattle.std.proofs.Common.{codes, rules, arith}
use Rattle.std.proofs.lemmas.Grind.{common_steps}
use Rattle.il_parse.specs.Reading.{many_from, read_many}
use Rattle.il_parse.specs.Bodies.{read_clause}
use Rattle.il_parse.proofs.Turns.{turn_left, none_left}
use Rattle.il_parse.proofs.body.read_clauses.Goals as goal

pub loop-turn-init : goal.loop-turn-init
unfolding read_many
loop-turn-init c = first_of (search rules, grind (arith, common_steps))

pub returns-in_err-read_clause : goal.returns-in_err-read_clause
unfolding many_from
returns-in_err-read_clause c =
    let e = turn_left (λ n. many_from read_clause (codes ".try") n c.loop-turn.found c.loop-turn.cursor) _ c.loop-turn._turn c.loop-turn-test.true c.loop-turn.invariant in
    first_of (search rules, grind (arith, common_steps))

pub returns-then-not-sees : goal.returns-then-not-sees
unfolding many_from
returns-then-not-sees c =
    let e = turn_left (λ n. many_from read_clause (codes ".try") n c.loop-turn.found c.loop-turn.cursor) _ c.loop-turn._turn c.loop-turn-test.true c.loop-turn.invariant in
    first_of (search rules, grind (arith, common_steps))

pub loop-turn-preserved : goal.loop-turn-preserved
unfolding many_from
loop-turn-preserved c =
    let e = turn_left (λ n. many_from read_clause (codes ".try") n c.loop-turn.found c.loop-turn.cursor) _ c.loop-turn._turn c.loop-turn-test.true c.loop-turn.invariant in
    first_of (search rules, grind (arith, common_steps))

pub returns : goal.returns
unfolding many_from
returns c =
    let e = none_left (λ n. many_from read_clause (codes ".try") n c.loop-turn.found c.loop-turn.cursor) _ c.loop-turn._turn c.loop-turn-test.false c.loop-turn.invariant in
    first_of (search rules, grind (arith, common_steps))

use Rattle.std.proofs.Common.{rules, arith}
use Rattle.std.proofs.lemmas.Grind.{common_steps}
use Rattle.aot_image.specs.ImageReading.{read_bodies_from}
use Rattle.aot_image.proofs.ReadingLemmas.{turn_left, none_left}
use Rattle.aot_image.proofs.decoding_bodies.read_bodies.Goals as goal

pub returns-in_err-row : goal.returns-in_err-row
unfolding read_bodies_from
returns-in_err-row c =
    let e = turn_left (λ n. read_bodies_from c.args.program.now c.args.words n c.loop-turn.found c.loop-turn.cursor) _ c.loop-turn._turn c.loop-turn-test.true c.loop-turn.invariant.0 in
    first_of (search rules, grind (arith, common_steps))

pub loop-turn-preserved : goal.loop-turn-preserved
unfolding read_bodies_from
loop-turn-preserved c =
    let e = turn_left (λ n. read_bodies_from c.args.program.now c.args.words n c.loop-turn.found c.loop-turn.cursor) _ c.loop-turn._turn c.loop-turn-test.true c.loop-turn.invariant.0 in
    first_of (search rules, grind (arith, common_steps))

pub returns : goal.returns
unfolding read_bodies_from
returns c =
    let e = none_left (λ n. read_bodies_from c.args.program.now c.args.words n c.loop-turn.found c.loop-turn.cursor) _ c.loop-turn._turn c.loop-turn-test.false c.loop-turn.invariant.0 in
    first_of (search rules, grind (arith, common_steps))

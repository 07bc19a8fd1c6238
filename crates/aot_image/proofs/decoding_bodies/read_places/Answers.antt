use Rattle.std.proofs.Common.{rules, arith}
use Rattle.std.proofs.lemmas.Grind.{common_steps}
use Rattle.aot_image.specs.ImageReading.{read_places_from}
use Rattle.aot_image.proofs.ReadingLemmas.{turn_left, none_left}
use Rattle.aot_image.proofs.decoding_bodies.read_places.Goals as goal

pub returns-in_err-place : goal.returns-in_err-place
unfolding read_places_from
returns-in_err-place c =
    let e = turn_left (λ n. read_places_from c.args.row c.args.words n c.loop-turn.found c.loop-turn.cursor) _ c.loop-turn._turn c.loop-turn-test.true c.loop-turn.invariant in
    first_of (search rules, grind (arith, common_steps))

pub loop-turn-preserved : goal.loop-turn-preserved
unfolding read_places_from
loop-turn-preserved c =
    let e = turn_left (λ n. read_places_from c.args.row c.args.words n c.loop-turn.found c.loop-turn.cursor) _ c.loop-turn._turn c.loop-turn-test.true c.loop-turn.invariant in
    first_of (search rules, grind (arith, common_steps))

pub returns : goal.returns
unfolding read_places_from
returns c =
    let e = none_left (λ n. read_places_from c.args.row c.args.words n c.loop-turn.found c.loop-turn.cursor) _ c.loop-turn._turn c.loop-turn-test.false c.loop-turn.invariant in
    first_of (search rules, grind (arith, common_steps))

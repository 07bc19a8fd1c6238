use Rattle.std.proofs.Common.{rules, arith}
use Rattle.std.proofs.lemmas.Grind.{common_steps}
use Rattle.aot_image.specs.ImageReading.{read_words_from}
use Rattle.aot_image.proofs.ReadingLemmas.{turn_left, none_left}
use Rattle.aot_image.proofs.decoding.read_words.Goals as goal

pub returns-in_err-word : goal.returns-in_err-word
unfolding read_words_from
returns-in_err-word c =
    let e = turn_left (λ n. read_words_from n c.loop-turn.found c.loop-turn.cursor) _ c.loop-turn._turn c.loop-turn-test.true c.loop-turn.invariant in
    first_of (search rules, grind (arith, common_steps))

pub loop-turn-preserved : goal.loop-turn-preserved
unfolding read_words_from
loop-turn-preserved c =
    let e = turn_left (λ n. read_words_from n c.loop-turn.found c.loop-turn.cursor) _ c.loop-turn._turn c.loop-turn-test.true c.loop-turn.invariant in
    first_of (search rules, grind (arith, common_steps))

pub returns : goal.returns
unfolding read_words_from
returns c =
    let e = none_left (λ n. read_words_from n c.loop-turn.found c.loop-turn.cursor) _ c.loop-turn._turn c.loop-turn-test.false c.loop-turn.invariant in
    first_of (search rules, grind (arith, common_steps))

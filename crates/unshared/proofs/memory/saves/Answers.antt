use Rattle.std.proofs.Common.{rules, arith}
use Rattle.std.proofs.lemmas.Grind.{common_steps}
use Rattle.unshared.specs.Memory.{saves_all}
use Rattle.unshared.proofs.Turns.{word_left, words_left, stops, goes}
use Rattle.unshared.proofs.memory.saves.Goals as goal

pub returns-in_err-done : goal.returns-in_err-done
unfolding saves_all
returns-in_err-done c =
    let e = word_left (λ ws. saves_all ws c.loop-word.at c.loop-word.replies) c.args.words.now c.loop-word.word-index 0 c.loop-word-test.true c.loop-word.invariant in
    first_of (search rules, search (rules, stops), grind (arith, common_steps))

pub loop-word-preserved : goal.loop-word-preserved
unfolding saves_all
loop-word-preserved c =
    let e = word_left (λ ws. saves_all ws c.loop-word.at c.loop-word.replies) c.args.words.now c.loop-word.word-index 0 c.loop-word-test.true c.loop-word.invariant in
    first_of (search rules, search (rules, goes), grind (arith, common_steps))

pub returns : goal.returns
unfolding saves_all
returns c =
    let e = words_left (λ ws. saves_all ws c.loop-word.at c.loop-word.replies) c.args.words.now c.loop-word.word-index c.loop-word-test.false c.loop-word.invariant in
    first_of (search rules, grind (arith, common_steps))

use Rattle.std.proofs.Common.{rules, arith}
use Rattle.std.proofs.lemmas.Grind.{common_steps}
use Rattle.il_parse.specs.Reading.{separated_from, read_separated}
use Rattle.il_parse.specs.Types.{read_type, read_types}
use Rattle.il_parse.proofs.Turns.{turn_left, none_left}
use Rattle.il_parse.proofs.types.read_types.Goals as goal

pub loop-turn-init : goal.loop-turn-init
unfolding read_separated
loop-turn-init c = first_of (search rules, grind (arith, common_steps))

pub returns-in_err-read_type : goal.returns-in_err-read_type
unfolding separated_from read_types
returns-in_err-read_type c =
    let e = turn_left (λ n. separated_from read_type c.args.mark.now n c.loop-turn.found c.loop-turn.cursor) _ c.loop-turn._turn c.loop-turn-test.true c.loop-turn.invariant in
    first_of (search rules, grind (arith, common_steps))

pub returns-then-not-eat : goal.returns-then-not-eat
unfolding separated_from read_types
returns-then-not-eat c =
    let e = turn_left (λ n. separated_from read_type c.args.mark.now n c.loop-turn.found c.loop-turn.cursor) _ c.loop-turn._turn c.loop-turn-test.true c.loop-turn.invariant in
    first_of (search rules, grind (arith, common_steps))

pub loop-turn-preserved : goal.loop-turn-preserved
unfolding separated_from read_types
loop-turn-preserved c =
    let e = turn_left (λ n. separated_from read_type c.args.mark.now n c.loop-turn.found c.loop-turn.cursor) _ c.loop-turn._turn c.loop-turn-test.true c.loop-turn.invariant in
    first_of (search rules, grind (arith, common_steps))

pub returns : goal.returns
unfolding separated_from read_types
returns c =
    let e = none_left (λ n. separated_from read_type c.args.mark.now n c.loop-turn.found c.loop-turn.cursor) _ c.loop-turn._turn c.loop-turn-test.false c.loop-turn.invariant in
    first_of (search rules, grind (arith, common_steps))

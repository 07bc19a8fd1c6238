use Rattle.std.proofs.Common.{◌∙◌, rules, arith}
use Rattle.std.proofs.lemmas.Grind.{common_steps}
use Rattle.il_parse.specs.Bodies.{lines_from, read_lines}
use Rattle.il_parse.proofs.Turns.{turn_left, none_left}
use Rattle.il_parse.proofs.LineLemmas.{lines_step, lines_end}
use Rattle.il_parse.proofs.lines.read_lines.Goals as goal

pub loop-turn-init : goal.loop-turn-init
unfolding read_lines
loop-turn-init c =
    first_of (search rules, grind (arith, common_steps))

pub returns-in_err-line : goal.returns-in_err-line
returns-in_err-line c =
    let e = turn_left (λ n. lines_from n c.loop-turn.left c.loop-turn.found c.loop-turn.cursor) _ c.loop-turn._turn c.loop-turn-test.true c.loop-turn.invariant ∙ lines_step _ c.loop-turn.left c.loop-turn.found c.loop-turn.cursor in
    first_of (search rules, grind (arith, common_steps))

pub returns-in_default : goal.returns-in_default
returns-in_default c =
    let e = turn_left (λ n. lines_from n c.loop-turn.left c.loop-turn.found c.loop-turn.cursor) _ c.loop-turn._turn c.loop-turn-test.true c.loop-turn.invariant ∙ lines_step _ c.loop-turn.left c.loop-turn.found c.loop-turn.cursor in
    first_of (search rules, grind (arith, common_steps))

pub loop-turn-preserved : goal.loop-turn-preserved
loop-turn-preserved c =
    let e = turn_left (λ n. lines_from n c.loop-turn.left c.loop-turn.found c.loop-turn.cursor) _ c.loop-turn._turn c.loop-turn-test.true c.loop-turn.invariant ∙ lines_step _ c.loop-turn.left c.loop-turn.found c.loop-turn.cursor in
    first_of (search rules, grind (arith, common_steps))

pub returns : goal.returns
returns c =
    let e = none_left (λ n. lines_from n c.loop-turn.left c.loop-turn.found c.loop-turn.cursor) _ c.loop-turn._turn c.loop-turn-test.false c.loop-turn.invariant ∙ lines_end c.loop-turn.left c.loop-turn.found c.loop-turn.cursor in
    first_of (search rules, grind (arith, common_steps))

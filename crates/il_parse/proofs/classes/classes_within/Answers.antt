use Rattle.std.proofs.Common.{◌∙◌, rules, arith}
use Rattle.std.proofs.lemmas.Grind.{common_steps}
use Rattle.il_parse.specs.Classes.{classes_from}
use Rattle.il_parse.proofs.Turns.{turn_left, none_left}
use Rattle.il_parse.proofs.ClassLemmas.{classes_turn, classes_last}
use Rattle.il_parse.proofs.classes.classes_within.Goals as goal

pub loop-turn-init : goal.loop-turn-init
loop-turn-init c =
    first_of (search rules, grind (arith, common_steps))

pub returns-in_default : goal.returns-in_default
returns-in_default c =
    let e = turn_left (λ n. classes_from n c.loop-turn.left c.loop-turn.found c.loop-turn.cursor) _ c.loop-turn._turn c.loop-turn-test.true c.loop-turn.invariant ∙ classes_turn _ c.loop-turn.left c.loop-turn.found c.loop-turn.cursor in
    first_of (search rules, grind (arith, common_steps))

pub returns-in_err-class : goal.returns-in_err-class
returns-in_err-class c =
    let e = turn_left (λ n. classes_from n c.loop-turn.left c.loop-turn.found c.loop-turn.cursor) _ c.loop-turn._turn c.loop-turn-test.true c.loop-turn.invariant ∙ classes_turn _ c.loop-turn.left c.loop-turn.found c.loop-turn.cursor in
    first_of (search rules, grind (arith, common_steps))

pub loop-turn-preserved : goal.loop-turn-preserved
loop-turn-preserved c =
    let e = turn_left (λ n. classes_from n c.loop-turn.left c.loop-turn.found c.loop-turn.cursor) _ c.loop-turn._turn c.loop-turn-test.true c.loop-turn.invariant ∙ classes_turn _ c.loop-turn.left c.loop-turn.found c.loop-turn.cursor in
    first_of (search rules, grind (arith, common_steps))

pub returns-in_default-at : goal.returns-in_default-at
returns-in_default-at c =
    let e = none_left (λ n. classes_from n c.loop-turn.left c.loop-turn.found c.loop-turn.cursor) _ c.loop-turn._turn c.loop-turn-test.false c.loop-turn.invariant ∙ classes_last c.loop-turn.left c.loop-turn.found c.loop-turn.cursor in
    first_of (search rules, grind (arith, common_steps))

pub returns-then-sees : goal.returns-then-sees
returns-then-sees c =
    let e = none_left (λ n. classes_from n c.loop-turn.left c.loop-turn.found c.loop-turn.cursor) _ c.loop-turn._turn c.loop-turn-test.false c.loop-turn.invariant ∙ classes_last c.loop-turn.left c.loop-turn.found c.loop-turn.cursor in
    first_of (search rules, grind (arith, common_steps))

pub returns : goal.returns
returns c =
    let e = none_left (λ n. classes_from n c.loop-turn.left c.loop-turn.found c.loop-turn.cursor) _ c.loop-turn._turn c.loop-turn-test.false c.loop-turn.invariant ∙ classes_last c.loop-turn.left c.loop-turn.found c.loop-turn.cursor in
    first_of (search rules, grind (arith, common_steps))

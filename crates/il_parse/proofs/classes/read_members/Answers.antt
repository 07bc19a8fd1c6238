use Rattle.std.proofs.Common.{rules, arith}
use Rattle.std.proofs.lemmas.Grind.{common_steps}
use Rattle.il_parse.specs.Classes.{members_from, read_members}
use Rattle.il_parse.proofs.Turns.{turn_left, none_left}
use Rattle.il_parse.proofs.classes.read_members.Goals as goal

pub loop-turn-init : goal.loop-turn-init
unfolding read_members
loop-turn-init c =
    first_of (search rules, grind (arith, common_steps))

pub returns-in_err-read_field : goal.returns-in_err-read_field
unfolding members_from
returns-in_err-read_field c =
    let e = turn_left (λ n. members_from c.args.plain_class n c.loop-turn.left c.loop-turn.found c.loop-turn.cursor) _ c.loop-turn._turn c.loop-turn-test.true c.loop-turn.invariant in
    first_of (search rules, grind (arith, common_steps))

pub returns-then-left-eq0 : goal.returns-then-left-eq0
unfolding members_from
returns-then-left-eq0 c =
    let e = turn_left (λ n. members_from c.args.plain_class n c.loop-turn.left c.loop-turn.found c.loop-turn.cursor) _ c.loop-turn._turn c.loop-turn-test.true c.loop-turn.invariant in
    first_of (search rules, grind (arith, common_steps))

pub returns-in_err-read_method : goal.returns-in_err-read_method
unfolding members_from
returns-in_err-read_method c =
    let e = turn_left (λ n. members_from c.args.plain_class n c.loop-turn.left c.loop-turn.found c.loop-turn.cursor) _ c.loop-turn._turn c.loop-turn-test.true c.loop-turn.invariant in
    first_of (search rules, grind (arith, common_steps))

pub returns-else-sees-2 : goal.returns-else-sees-2
unfolding members_from
returns-else-sees-2 c =
    let e = turn_left (λ n. members_from c.args.plain_class n c.loop-turn.left c.loop-turn.found c.loop-turn.cursor) _ c.loop-turn._turn c.loop-turn-test.true c.loop-turn.invariant in
    first_of (search rules, grind (arith, common_steps))

pub loop-turn-preserved : goal.loop-turn-preserved
unfolding members_from
loop-turn-preserved c =
    let e = turn_left (λ n. members_from c.args.plain_class n c.loop-turn.left c.loop-turn.found c.loop-turn.cursor) _ c.loop-turn._turn c.loop-turn-test.true c.loop-turn.invariant in
    first_of (search rules, grind (arith, common_steps))

pub returns : goal.returns
unfolding members_from
returns c =
    let e = none_left (λ n. members_from c.args.plain_class n c.loop-turn.left c.loop-turn.found c.loop-turn.cursor) _ c.loop-turn._turn c.loop-turn-test.false c.loop-turn.invariant in
    first_of (search rules, grind (arith, common_steps))

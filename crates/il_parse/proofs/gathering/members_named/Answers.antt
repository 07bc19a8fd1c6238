use Rattle.std.proofs.Common.{◌∙◌, rules, arith}
use Rattle.std.proofs.lemmas.Grind.{common_steps}
use Rattle.il_parse.proofs.GatheringLemmas.{members_end, members_next}
use Rattle.il_parse.proofs.gathering.members_named.Goals as goal

pub returns-in_err-add_member : goal.returns-in_err-add_member
returns-in_err-add_member c =
    let e = c.loop-member.invariant ∙ members_next c.args.known.now c.args.owner c.args.of_class c.loop-member.found c.args.members.now c.loop-member.member-index c.member-item.result c.loop-member-test.true c.member-item.is in
    first_of (search rules, grind (arith, common_steps))

pub loop-member-preserved : goal.loop-member-preserved
loop-member-preserved c =
    let e = c.loop-member.invariant ∙ members_next c.args.known.now c.args.owner c.args.of_class c.loop-member.found c.args.members.now c.loop-member.member-index c.member-item.result c.loop-member-test.true c.member-item.is in
    first_of (search rules, grind (arith, common_steps))

pub returns : goal.returns
returns c =
    c.loop-member.invariant ∙ members_end c.args.known.now c.args.owner c.args.of_class c.loop-member.found c.args.members.now c.loop-member.member-index c.loop-member-test.false

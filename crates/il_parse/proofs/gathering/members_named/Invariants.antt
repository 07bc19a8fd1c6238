use Rattle.std.proofs.Common.{◌≡◌, [], drop}
use Rattle.il_parse.specs.NamedClasses.{members_named}
use Rattle.il_parse.proofs.gathering.members_named.Given as goal

abbrev pub invariant-loop-member : goal.invariant-loop-member
invariant-loop-member l =
    members_named l.known l.owner l.of_class (record { fields = []; methods = []; begun = l.begun }) l.fn.members ≡
    members_named l.known l.owner l.of_class l.found (drop l.member-index l.members)

use Rattle.std.proofs.Common.{◌≡◌, ◌-◌}
use Rattle.il_parse.specs.Classes.{members_from, read_members}
use Rattle.il_parse.proofs.classes.read_members.Given as goal

abbrev pub invariant-loop-turn : goal.invariant-loop-turn
invariant-loop-turn l = read_members l.plain_class l.most l.fn.cursor ≡ members_from l.plain_class (l._turn-end - l._turn) l.left l.found l.cursor

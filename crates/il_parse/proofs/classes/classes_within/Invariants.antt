use Rattle.std.proofs.Common.{◌≡◌, ◌-◌, []}
use Rattle.il_parse.specs.Classes.{classes_from}
use Rattle.il_parse.proofs.classes.classes_within.Given as goal

abbrev pub invariant-loop-turn : goal.invariant-loop-turn
invariant-loop-turn l = classes_from l.classes l.methods [] l.fn.cursor ≡ classes_from (l.classes - l._turn) l.left l.found l.cursor

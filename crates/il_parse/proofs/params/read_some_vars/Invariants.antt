use Rattle.std.proofs.Common.{◌≡◌, ◌-◌, []}
use Rattle.il_parse.specs.Types.{vars_from}
use Rattle.il_parse.proofs.params.read_some_vars.Given as goal

abbrev pub invariant-loop-turn : goal.invariant-loop-turn
invariant-loop-turn l = vars_from l.most [] l.fn.cursor ≡ vars_from (l.most - l._turn) l.found l.cursor

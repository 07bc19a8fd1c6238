use Rattle.std.proofs.Common.{◌≡◌, ◌-◌}
use Rattle.il_parse.specs.Reading.{separated_from, read_separated}
use Rattle.il_parse.specs.Types.{read_type}
use Rattle.il_parse.proofs.types.read_types.Given as goal

abbrev pub invariant-loop-turn : goal.invariant-loop-turn
invariant-loop-turn l = read_separated read_type l.mark l.fn.cursor ≡ separated_from read_type l.mark (l._turn-end - l._turn) l.found l.cursor

use Rattle.std.proofs.Common.{◌≡◌, ◌-◌, codes}
use Rattle.il_parse.specs.Reading.{separated_from, read_separated}
use Rattle.il_parse.specs.Reading.{read_name}
use Rattle.il_parse.proofs.operands.some_labels.Given as goal

abbrev pub invariant-loop-turn : goal.invariant-loop-turn
invariant-loop-turn l = read_separated read_name (codes ",") l.fn.cursor ≡ separated_from read_name (codes ",") (l._turn-end - l._turn) l.found l.cursor

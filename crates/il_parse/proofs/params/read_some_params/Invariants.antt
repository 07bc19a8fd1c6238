use Rattle.std.proofs.Common.{◌≡◌, ◌-◌, codes}
use Rattle.il_parse.specs.Reading.{separated_from, read_separated}
use Rattle.il_parse.specs.Types.{read_param}
use Rattle.il_parse.proofs.params.read_some_params.Given as goal

abbrev pub invariant-loop-turn : goal.invariant-loop-turn
invariant-loop-turn l = read_separated read_param (codes ",") l.fn.cursor ≡ separated_from read_param (codes ",") (l._turn-end - l._turn) l.found l.cursor

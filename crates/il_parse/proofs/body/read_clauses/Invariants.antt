use Rattle.std.proofs.Common.{◌≡◌, ◌-◌, codes}
use Rattle.il_parse.specs.Reading.{many_from, read_many}
use Rattle.il_parse.specs.Bodies.{read_clause}
use Rattle.il_parse.proofs.body.read_clauses.Given as goal

abbrev pub invariant-loop-turn : goal.invariant-loop-turn
invariant-loop-turn l = read_many read_clause (codes ".try") l.fn.cursor ≡ many_from read_clause (codes ".try") (l._turn-end - l._turn) l.found l.cursor

use Rattle.std.proofs.Common.{◌≡◌, ◌-◌}
use Rattle.il_parse.specs.Bodies.{lines_from, read_lines}
use Rattle.il_parse.proofs.lines.read_lines.Given as goal

abbrev pub invariant-loop-turn : goal.invariant-loop-turn
invariant-loop-turn l = read_lines l.fn.cursor ≡ lines_from (l._turn-end - l._turn) l.left l.found l.cursor

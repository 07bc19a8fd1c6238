use Rattle.std.proofs.Common.{◌≡◌, [], drop}
use Rattle.il_parse.specs.NamedBodies.{lines_named}
use Rattle.il_parse.proofs.named_lines.lines_named.Given as goal

abbrev pub invariant-loop-line : goal.invariant-loop-line
invariant-loop-line l =
    lines_named l.scope l.literals l.labels [] [] l.written ≡ lines_named l.scope l.literals l.labels l.met l.found (drop l.line-index l.written)

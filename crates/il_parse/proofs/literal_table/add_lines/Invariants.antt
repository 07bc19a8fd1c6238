use Rattle.std.proofs.Common.{◌≡◌, drop, flat_map}
use Rattle.il_parse.specs.Literals.{with_texts, texts_of_line}
use Rattle.il_parse.proofs.literal_table.add_lines.Given as goal

abbrev pub invariant-loop-line : goal.invariant-loop-line
invariant-loop-line l = with_texts l.literals (flat_map texts_of_line (drop l.line-index l.lines)) ≡ with_texts l.initial.literals (flat_map texts_of_line l.lines)

use Rattle.std.proofs.Common.{◌≡◌, ◌++◌, flat_map, take}
use Rattle.il_model.specs.Canonical.{method_lines}
use Rattle.il_print.specs.ClassNames.{names_of}
use Rattle.il_print.specs.Parts.{lines_text}
use Rattle.il_print.proofs.classes.put_methods.Given as goal

abbrev pub invariant-loop-number : goal.invariant-loop-number
invariant-loop-number l = l.text ≡ l.initial.text ++ lines_text (flat_map (method_lines l.program (names_of l.program.classes)) (take l.number-index l.numbers))

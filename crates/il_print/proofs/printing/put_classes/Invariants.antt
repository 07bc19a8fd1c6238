use Rattle.std.proofs.Common.{◌≡◌, ◌++◌, flat_map, take}
use Rattle.il_model.specs.Canonical.{class_lines}
use Rattle.il_print.specs.ClassNames.{names_of}
use Rattle.il_print.specs.Parts.{lines_text}
use Rattle.il_print.proofs.printing.put_classes.Given as goal

abbrev pub invariant-loop-class : goal.invariant-loop-class
invariant-loop-class l = l.text ≡ l.initial.text ++ lines_text (flat_map (class_lines l.program (names_of l.program.classes)) (take l.class-index l.classes))

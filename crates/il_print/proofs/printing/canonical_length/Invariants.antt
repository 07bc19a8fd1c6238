use Rattle.std.proofs.Common.{◌≡◌, ◌-◌, ◌^◌, min, sum_by, take, length}
use Rattle.il_model.specs.Canonical.{class_lines}
use Rattle.il_print.specs.ClassNames.{names_of}
use Rattle.il_print.specs.Parts.{lines_text}
use Rattle.il_print.proofs.printing.canonical_length.Given as goal

abbrev pub invariant-loop-class : goal.invariant-loop-class
invariant-loop-class l =
    l.count ≡ min (sum_by (λ c. length (lines_text (class_lines l.program (names_of l.program.classes) c))) (take l.class-index l.classes)) (2 ^ 64 - 1)

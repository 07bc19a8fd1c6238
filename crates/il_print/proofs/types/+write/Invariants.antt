use Rattle.std.proofs.Common.{◌≡◌, ◌++◌, map, take}
use Rattle.type_tree.specs.Printed.{listed}
use Rattle.il_model.specs.Canonical.{type_text}
use Rattle.il_print.specs.ClassNames.{names_of}
use Rattle.il_print.proofs.types.+write.Given as goal

abbrev pub invariant-write_list-loop-i : goal.invariant-write_list-loop-i
invariant-write_list-loop-i l = l.text ≡ l.initial.text ++ listed (map (type_text (names_of l.classes)) (take l.i l.parts))

use Rattle.std.proofs.Common.{◌≡◌, ◌++◌, flat_map, take}
use Rattle.il_model.specs.Canonical.{field_line}
use Rattle.il_print.specs.ClassNames.{names_of}
use Rattle.il_print.specs.Parts.{lines_text}
use Rattle.il_print.proofs.classes.put_fields.Given as goal

abbrev pub invariant-loop-field : goal.invariant-loop-field
invariant-loop-field l = l.text ≡ l.initial.text ++ lines_text (flat_map (field_line (names_of l.classes)) (take l.field-index l.fields))

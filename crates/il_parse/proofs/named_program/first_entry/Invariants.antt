use Rattle.std.proofs.Common.{◌≡◌, drop}
use Rattle.il_model.specs.Bounds.{all_methods}
use Rattle.il_model.specs.LookUp.{entries_from}
use Rattle.il_parse.specs.NamedClasses.{first_entry}
use Rattle.il_parse.proofs.named_program.first_entry.Given as goal

abbrev pub invariant-loop-class : goal.invariant-loop-class
invariant-loop-class l = first_entry (entries_from 12 (all_methods l.classes)) ≡ first_entry (entries_from l.before (all_methods (drop l.class-index l.classes)))

use Rattle.std.proofs.Common.{◌≡◌, false, take}
use Rattle.std.specs.List.{list_any}
use Rattle.il_model.specs.ClassRules.{is_abstract_slot}
use Rattle.cil_verify.proofs.class_rules.has_abstract.Given as goal

abbrev pub invariant-loop-slot : goal.invariant-loop-slot
invariant-loop-slot l = list_any (is_abstract_slot l.program) (take l.slot-index l.slots) ≡ false

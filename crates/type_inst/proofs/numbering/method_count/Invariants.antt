use Rattle.std.proofs.Common.{◌≡◌, take}
use Rattle.il_model.specs.Slots.{method_count}
use Rattle.type_inst.proofs.numbering.method_count.Given as goal

abbrev pub invariant-loop-i : goal.invariant-loop-i
invariant-loop-i l = l.count ≡ method_count l.program (take l.i l.listed)

use Rattle.std.proofs.Common.{◌+◌, ◌*◌}
use Rattle.type_inst.proofs.slotting.+virtual_slots.Given as goal

abbrev pub decreases-virtual_slots : goal.decreases-virtual_slots
decreases-virtual_slots l = 2 * l.levels

abbrev pub decreases-base_slots : goal.decreases-base_slots
decreases-base_slots l = 2 * l.levels + 1

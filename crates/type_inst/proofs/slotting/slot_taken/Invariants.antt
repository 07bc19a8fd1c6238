use Rattle.std.proofs.Common.{◌≡◌, ◌==◌, find, take, None}
use Rattle.type_inst.proofs.slotting.slot_taken.Given as goal

abbrev pub invariant-loop-taken : goal.invariant-loop-taken
invariant-loop-taken l = find (λ taken. taken.0 == l.number) (take l.taken-index l.slots.taken) ≡ None

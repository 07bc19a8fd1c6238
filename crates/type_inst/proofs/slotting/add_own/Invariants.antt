use Rattle.std.proofs.Common.{◌≡◌, fold, take}
use Rattle.il_model.specs.Slots.{own_methods_of, with_method}
use Rattle.type_inst.specs.Matching.{seen}
use Rattle.type_inst.proofs.slotting.add_own.Given as goal

abbrev pub invariant-loop-number : goal.invariant-loop-number
invariant-loop-number l =
    seen l.slots ≡ fold (with_method l.program l.definition) (seen l.initial.slots) (take l.number-index (own_methods_of l.program l.definition))

use Rattle.std.proofs.Common.{◌≡◌, map, take}
use Rattle.il_model.specs.Slots.{candidates, place_holds}
use Rattle.il_model.specs.Interfaces.{interfaces_of}
use Rattle.type_inst.specs.Matching.{seen}
use Rattle.type_inst.proofs.placing.places.Given as goal

abbrev pub invariant-loop-each : goal.invariant-loop-each
invariant-loop-each l =
    l.all ≡ map (place_holds l.program l.definition (seen l.slots)) (candidates l.program (take l.each-index (interfaces_of l.program l.definition)))

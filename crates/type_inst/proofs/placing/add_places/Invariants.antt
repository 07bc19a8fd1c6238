use Rattle.std.proofs.Common.{◌≡◌, ◌++◌, map, take}
use Rattle.il_model.specs.Slots.{own_methods_of, place_holds}
use Rattle.type_inst.specs.Matching.{seen}
use Rattle.type_inst.proofs.placing.add_places.Given as goal

abbrev pub invariant-loop-number : goal.invariant-loop-number
invariant-loop-number l =
    l.all ≡ l.initial.all ++
    map (place_holds l.program l.definition (seen l.slots)) (map (λ number. (l.interface, number)) (take l.number-index (own_methods_of l.program l.interface)))

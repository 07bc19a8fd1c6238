use Rattle.std.proofs.Common.{◌≡◌, Some, map, slice_get, take}
use Rattle.type_inst.specs.Opening.{Extends}
use Rattle.type_inst.proofs.opening.places_of.Given as goal

abbrev pub invariant-loop-kind : goal.invariant-loop-kind
invariant-loop-kind l = Extends l.initial.all l.all × (map (slice_get l.all) l.places ≡ map Some (take l.kind-index l.kinds))

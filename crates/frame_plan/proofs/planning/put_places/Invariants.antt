use Rattle.std.proofs.Common.{◌≡◌, ◌++◌, map, take}
use Rattle.frame_plan.specs.Places.{width_of_place}
use Rattle.frame_plan.proofs.planning.put_places.Given as goal

abbrev pub invariant-loop-place : goal.invariant-loop-place
invariant-loop-place l = l.widths ≡ l.initial.widths ++ map (width_of_place l.program l.ins) (take l.place-index l.places)

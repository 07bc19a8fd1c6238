use Rattle.std.proofs.Common.{◌≡◌, ◌++◌, map, take}
use Rattle.cil_meaning.specs.Types.{put_place}
use Rattle.unshared.proofs.calls.add_places.Given as goal

abbrev pub invariant-loop-place : goal.invariant-loop-place
invariant-loop-place l = l.all.items ≡ l.initial.all.items ++ map (put_place l.method) (take l.place-index l.places)

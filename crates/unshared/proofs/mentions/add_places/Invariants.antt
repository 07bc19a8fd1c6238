use Rattle.std.proofs.Common.{◌≡◌, ◌++◌, map, take}
use Rattle.il_model.specs.Methods.{types_of_places}
use Rattle.cil_meaning.specs.Naming.{put_type}
use Rattle.unshared.proofs.mentions.add_places.Given as goal

abbrev pub invariant-loop-place : goal.invariant-loop-place
invariant-loop-place l = l.kinds ≡ l.initial.kinds ++ map (put_type l.method) (types_of_places (take l.place-index l.places))

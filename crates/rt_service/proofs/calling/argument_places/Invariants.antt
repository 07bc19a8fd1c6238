use Rattle.std.proofs.Common.{◌≡◌, ◌++◌, map, drop}
use Rattle.cil_meaning.specs.Types.{put_place, argument_places}
use Rattle.rt_service.proofs.calling.argument_places.Given as goal

abbrev pub invariant-loop-param : goal.invariant-loop-param
invariant-loop-param l = l.places ++ map (put_place l.method) (drop l.param-index l.param-items) ≡ argument_places l.program l.method l.definition

use Rattle.std.proofs.Common.{◌≡◌, ◌++◌, map, take}
use Rattle.il_model.specs.Methods.{types_of_places}
use Rattle.rgctx_fill.specs.Limits.{seen_at}
use Rattle.rgctx_fill.proofs.limits.add_places.Given as goal

abbrev pub invariant-loop-place : goal.invariant-loop-place
invariant-loop-place l = l.kinds ≡ l.fn.kinds ++ map (seen_at l.method) (types_of_places (take l.place-index l.places))

use Rattle.std.proofs.Common.{◌≡◌, map, take}
use Rattle.rgctx_fill.specs.CallServices.{argument_width}
use Rattle.rt_service.proofs.calling.argument_widths.Given as goal

abbrev pub invariant-loop-place : goal.invariant-loop-place
invariant-loop-place l = l.widths.items ≡ map (argument_width l.fn.program) (take l.place-index l.places)

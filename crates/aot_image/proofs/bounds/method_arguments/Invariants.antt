use Rattle.std.proofs.Common.{◌≡◌, ◌++◌, drop}
use Rattle.rgctx_template.specs.BodyRows.{method_arguments}
use Rattle.aot_image.proofs.bounds.method_arguments.Given as goal

abbrev pub invariant-loop-i : goal.invariant-loop-i
invariant-loop-i l = l.args ++ method_arguments l.i (drop l.i l.parts) ≡ method_arguments 0 l.parts

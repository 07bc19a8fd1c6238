use Rattle.std.proofs.Common.{◌≡◌, ◌++◌, drop}
use Rattle.rgctx_template.specs.BodyRows.{class_arguments}
use Rattle.aot_image.proofs.bounds.class_arguments.Given as goal

abbrev pub invariant-loop-i : goal.invariant-loop-i
invariant-loop-i l = l.args ++ class_arguments l.i (drop l.i l.parts) ≡ class_arguments 0 l.parts

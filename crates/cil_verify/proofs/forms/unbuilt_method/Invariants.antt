use Rattle.std.proofs.Common.{◌≡◌, drop}
use Rattle.cil_verify.specs.Forms.{unbuilt_method}
use Rattle.cil_verify.proofs.forms.unbuilt_method.Given as goal

abbrev pub invariant-loop-i : goal.invariant-loop-i
invariant-loop-i l = unbuilt_method 0 l.methods ≡ unbuilt_method l.i (drop l.i l.methods)

use Rattle.std.proofs.Common.{◌≡◌, drop}
use Rattle.cil_verify.specs.Forms.{unbuilt_class}
use Rattle.cil_verify.proofs.forms.unbuilt_class.Given as goal

abbrev pub invariant-loop-i : goal.invariant-loop-i
invariant-loop-i l = unbuilt_class 0 l.classes ≡ unbuilt_class l.i (drop l.i l.classes)

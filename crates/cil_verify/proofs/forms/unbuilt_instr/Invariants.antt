use Rattle.std.proofs.Common.{◌≡◌, drop}
use Rattle.cil_verify.specs.Forms.{unbuilt_instr}
use Rattle.cil_verify.proofs.forms.unbuilt_instr.Given as goal

abbrev pub invariant-loop-i : goal.invariant-loop-i
invariant-loop-i l = unbuilt_instr l.number 0 l.code ≡ unbuilt_instr l.number l.i (drop l.i l.code)

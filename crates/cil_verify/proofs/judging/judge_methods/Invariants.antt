use Rattle.std.proofs.Common.{take}
use Rattle.cil_verify.specs.WellTyped.{IsGoodMethod, EachBefore}
use Rattle.cil_verify.specs.Judging.{AreStatesOf}
use Rattle.cil_verify.proofs.judging.judge_methods.Given as goal

abbrev pub invariant-loop-i : goal.invariant-loop-i
invariant-loop-i l = EachBefore (IsGoodMethod l.program) l.program.methods l.i × AreStatesOf l.program l.all (take l.i l.program.methods)

use Rattle.cil_verify.specs.WellTyped.{HoldAll, later_class_rules, EachBefore}
use Rattle.cil_verify.proofs.judging.judge_later.Given as goal

abbrev pub invariant-loop-i : goal.invariant-loop-i
invariant-loop-i l = EachBefore (HoldAll later_class_rules l.program) l.program.classes l.i

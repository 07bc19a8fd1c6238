use Rattle.cil_verify.specs.Heights.{AreHeights}
use Rattle.cil_verify.specs.WellTyped.{HoldAll, first_class_rules, EachBefore}
use Rattle.cil_verify.proofs.judging.judge_each.Given as goal

abbrev pub invariant-loop-i : goal.invariant-loop-i
invariant-loop-i l = AreHeights l.program l.heights × EachBefore (HoldAll first_class_rules l.program) l.program.classes l.i

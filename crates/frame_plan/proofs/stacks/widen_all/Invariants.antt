use Rattle.std.proofs.Common.{◌≡◌, map, take}
use Rattle.frame_plan.specs.Places.{widest, width_of_stack}
use Rattle.frame_plan.proofs.stacks.widen_all.Given as goal

abbrev pub invariant-loop-i : goal.invariant-loop-i
invariant-loop-i l = l.widths ≡ widest l.initial.widths (take l.i (map (width_of_stack l.program l.ins) l.stack))

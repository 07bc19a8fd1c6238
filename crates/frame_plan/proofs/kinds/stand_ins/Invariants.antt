use Rattle.std.proofs.Common.{◌≡◌, map, take}
use Rattle.frame_plan.specs.Widths.{stand_in}
use Rattle.frame_plan.proofs.kinds.stand_ins.Given as goal

abbrev pub invariant-loop-part : goal.invariant-loop-part
invariant-loop-part l = l.all ≡ map stand_in (take l.part-index l.parts)

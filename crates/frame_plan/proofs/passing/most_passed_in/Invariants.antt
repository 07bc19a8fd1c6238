use Rattle.std.proofs.Common.{◌≡◌, fold, map, max, take}
use Rattle.frame_plan.specs.Named.{passed_at}
use Rattle.frame_plan.proofs.passing.most_passed_in.Given as goal

abbrev pub invariant-loop-op : goal.invariant-loop-op
invariant-loop-op l = l.most ≡ fold max 0 (map passed_at (take l.op-index l.code))

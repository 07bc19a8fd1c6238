use Rattle.std.proofs.Common.{◌↔◌, ◌≤◌, drop}
use Rattle.run_top.specs.WellFormed.{IsFine}
use Rattle.run_top.proofs.first.is_fine.Given as goal

abbrev pub invariant-loop-i : goal.invariant-loop-i
invariant-loop-i l = (IsFine l.depth (drop l.i l.code) ↔ IsFine 0 l.code) × (l.depth ≤ 120)

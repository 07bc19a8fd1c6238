use Rattle.std.proofs.Common.{◌≡◌, ◌≤◌, drop, max}
use Rattle.run_top.specs.WellFormed.{AllFind, deepest}
use Rattle.run_top.proofs.first.deepest.Given as goal

abbrev pub invariant-loop-op : goal.invariant-loop-op
invariant-loop-op l = (max l.most (deepest l.depth (drop l.op-index l.code)) ≡ deepest 0 l.code) × AllFind l.depth (drop l.op-index l.code) × (l.depth ≤ l.most) × (l.most ≤ 120)

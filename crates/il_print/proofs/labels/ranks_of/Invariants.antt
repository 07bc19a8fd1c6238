use Rattle.std.proofs.Common.{◌≡◌, ◌≤◌, ◌++◌, drop}
use Rattle.il_print.specs.Marks.{ranks_from}
use Rattle.il_print.proofs.labels.ranks_of.Given as goal

abbrev pub invariant-loop-is_marked : goal.invariant-loop-is_marked
invariant-loop-is_marked l = record {
  so_far : l.ranks.items ++ ranks_from l.count (drop l.is_marked-index l.marks) ≡ ranks_from 0 l.marks;
  few : l.count ≤ l.is_marked-index;
}

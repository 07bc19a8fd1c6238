use Rattle.std.proofs.Common.{◌≡◌, take}
use Rattle.il_print.specs.Marks.{marked_at, targets_in}
use Rattle.il_print.proofs.labels.mark_code.Given as goal

abbrev pub invariant-loop-op : goal.invariant-loop-op
invariant-loop-op l = l.marks.items ≡ marked_at l.initial.marks.items (targets_in (take l.op-index l.code))

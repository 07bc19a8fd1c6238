use Rattle.std.proofs.Common.{◌≡◌, take}
use Rattle.il_print.specs.Marks.{marked_at}
use Rattle.il_print.proofs.labels.mark_all.Given as goal

abbrev pub invariant-loop-at : goal.invariant-loop-at
invariant-loop-at l = l.marks.items ≡ marked_at l.initial.marks.items (take l.at-index l.places)

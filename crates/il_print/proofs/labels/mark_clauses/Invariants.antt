use Rattle.std.proofs.Common.{◌≡◌, take}
use Rattle.il_print.specs.Marks.{marked_at, ends_in}
use Rattle.il_print.proofs.labels.mark_clauses.Given as goal

abbrev pub invariant-loop-clause : goal.invariant-loop-clause
invariant-loop-clause l = l.marks.items ≡ marked_at l.initial.marks.items (ends_in (take l.clause-index l.clauses))

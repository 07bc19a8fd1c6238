use Rattle.std.proofs.Common.{ℕ, ◌<◌}
use Rattle.std.specs.Prelude.{slice_index}
use Rattle.crossings.specs.Calls.{Lies, argument_at}
use Rattle.crossings.proofs.lying.are_listed.Given as goal

abbrev pub invariant-loop-number : goal.invariant-loop-number
invariant-loop-number l = (i : ℕ) → i < l.number → Lies l.stack.words (argument_at l.stack.words l.list i) (slice_index l.widths i)

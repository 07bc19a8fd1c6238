use Rattle.std.proofs.Common.{◌≡◌, drop}
use Rattle.mn_outside.specs.Entries.{entry_of}
use Rattle.mn_outside.proofs.entries.find.Given as goal

abbrev pub invariant-loop-entry : goal.invariant-loop-entry
invariant-loop-entry l = entry_of (drop l.entry-index l.held) l.name ≡ entry_of l.held l.name

use Rattle.std.proofs.Common.{◌≡◌, ℕ, List, drop, take, ◌++◌}
use Rattle.mn_outside.specs.Entries.{with_entry}
use Rattle.mn_outside.proofs.entries.place_of.Given as goal

abbrev pub invariant-loop-at : goal.invariant-loop-at
invariant-loop-at l = (bytes : List ℕ) → with_entry l.held l.name bytes ≡ take l.at l.held ++ with_entry (drop l.at l.held) l.name bytes

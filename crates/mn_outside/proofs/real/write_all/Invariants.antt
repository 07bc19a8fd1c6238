use Rattle.std.proofs.Common.{◌≤◌, length, take}
use Rattle.std.specs.Io.KnownBytes.{Appends}
use Rattle.mn_outside.proofs.real.write_all.Given as goal

abbrev pub invariant-loop : goal.invariant-loop
invariant-loop g l = (l.counter ≤ l.at) × (l.at ≤ length l.bytes) × Appends (g.T.Write.contents l.initial.target) (g.T.Write.contents l.target) (take l.at l.bytes)

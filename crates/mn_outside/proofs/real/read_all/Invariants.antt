use Rattle.std.proofs.Common.{◌≤◌, ◌^◌, length}
use Rattle.std.specs.Io.KnownBytes.{Consumes}
use Rattle.mn_outside.proofs.real.read_all.Given as goal

abbrev pub invariant-loop : goal.invariant-loop
invariant-loop g l = (length l.bytes.items ≤ 2 ^ 30) × Consumes (g.S.Read.remaining l.initial.source) (g.S.Read.remaining l.source) l.bytes.items

use Rattle.std.proofs.Common.{◌≡◌}
use Rattle.cil_verify.specs.Arrivals.{none_arrived}
use Rattle.cil_verify.proofs.pass.none_arrived.Given as goal

abbrev pub invariant-loop-i : goal.invariant-loop-i
invariant-loop-i l = l.all ≡ none_arrived l.i

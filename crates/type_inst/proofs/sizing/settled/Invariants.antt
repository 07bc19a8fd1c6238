use Rattle.std.proofs.Common.{◌≡◌}
use Rattle.type_inst.specs.Sizing.{rounds}
use Rattle.type_inst.proofs.sizing.settled.Given as goal

abbrev pub invariant-loop : goal.invariant-loop
invariant-loop l = l.now ≡ rounds l.most l.rows l.counter

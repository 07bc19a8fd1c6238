use Rattle.type_inst.proofs.ClosureLemmas.{Layered}
use Rattle.type_inst.proofs.closure.reached.Given as goal

abbrev pub invariant-loop : goal.invariant-loop
invariant-loop l = Layered l.program l.root l.counter l.all l.fresh

use Rattle.type_inst.proofs.OpeningLemmas.{Opening}
use Rattle.type_inst.proofs.opening.opened.Given as goal

abbrev pub invariant-loop-i : goal.invariant-loop-i
invariant-loop-i l = Opening l.program l.kinds l.places l.i l.all l.rows

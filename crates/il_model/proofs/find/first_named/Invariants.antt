use Rattle.il_model.specs.Find.{HasMethod, NoneBefore}
use Rattle.il_model.proofs.find.first_named.Given as goal

abbrev pub invariant-loop-number : goal.invariant-loop-number
invariant-loop-number l = NoneBefore (HasMethod l.program l.named) l.numbers l.number-index

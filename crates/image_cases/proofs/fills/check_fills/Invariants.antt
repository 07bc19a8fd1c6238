use Rattle.image_cases.specs.Filling.{Meets}
use Rattle.image_cases.proofs.fills.check_fills.Given as goal

abbrev pub invariant-loop-entry : goal.invariant-loop-entry
invariant-loop-entry g l = Meets l.fn.cat l.words

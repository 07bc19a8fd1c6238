use Rattle.service_cases.specs.Served.{Meets}
use Rattle.service_cases.proofs.fills.fill_all.Given as goal

abbrev pub invariant-loop-fill : goal.invariant-loop-fill
invariant-loop-fill g l = Meets l.fn.view.cat l.words

use Rattle.service_cases.specs.Served.{Meets}
use Rattle.service_cases.proofs.answers.check_next.Given as goal

abbrev pub invariant-loop-service : goal.invariant-loop-service
invariant-loop-service g l = Meets l.fn.view.cat l.words

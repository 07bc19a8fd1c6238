use Rattle.service_cases.specs.Served.{Meets}
use Rattle.service_cases.proofs.answers.check_thrown.Given as goal

abbrev pub invariant-loop-word : goal.invariant-loop-word
invariant-loop-word g l = Meets l.fn.view.cat l.words

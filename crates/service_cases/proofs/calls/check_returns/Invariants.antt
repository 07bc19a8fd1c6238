use Rattle.service_cases.specs.Served.{Meets}
use Rattle.service_cases.proofs.calls.check_returns.Given as goal

abbrev pub invariant-loop-caller : goal.invariant-loop-caller
invariant-loop-caller g l = Meets l.fn.view.cat l.words

use Rattle.service_cases.specs.Served.{Meets}
use Rattle.service_cases.proofs.calls.check_depth.Given as goal

abbrev pub invariant-loop : goal.invariant-loop
invariant-loop g l = Meets l.fn.view.cat l.words

abbrev pub invariant-loop-value : goal.invariant-loop-value
invariant-loop-value g l = Meets l.fn.view.cat l.words

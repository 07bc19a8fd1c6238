use Rattle.service_cases.specs.Served.{Meets, IsReadyOn}
use Rattle.service_cases.proofs.fills.noted.Given as goal

abbrev pub invariant-loop : goal.invariant-loop
invariant-loop l = Meets l.fn.view.cat l.words × IsReadyOn l.fn.view.cat l.words l.state.doing

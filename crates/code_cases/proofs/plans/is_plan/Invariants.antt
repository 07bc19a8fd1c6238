use Rattle.code_cases.proofs.PlanLemmas.{Laid}
use Rattle.code_cases.proofs.plans.is_plan.Given as goal

abbrev pub invariant-loop-place : goal.invariant-loop-place
invariant-loop-place l = Laid l.offsets l.widths l.place l.end

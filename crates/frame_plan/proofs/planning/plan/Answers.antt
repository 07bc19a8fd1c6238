use Rattle.std.proofs.Common.{sym, ap, ◌∙◌}
use Rattle.std.proofs.lemmas.Option.{same_Some}
use Rattle.frame_plan.specs.Planned.{plan_of}
use Rattle.frame_plan.proofs.planning.plan.Goals as goal

pub returns-clause-plan : goal.returns-clause-plan
returns-clause-plan c m is =
    c.in_ok-plan.ensures.plan
    ∙ ap (λ m. plan_of c.args.program.now m c.args.states.now.states c.args.key.now.parts)
    (same_Some c.method_at-method.result.now m (sym c.method_at-method.ensures ∙ is))

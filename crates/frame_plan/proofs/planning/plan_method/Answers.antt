use Rattle.std.proofs.Common.{ap, sym, ◌∙◌, subst}
use Rattle.cil_flow.specs.FramePlans.{IsPlan}
use Rattle.frame_plan.specs.Places.{place_widths}
use Rattle.frame_plan.specs.Planned.{laid}
use Rattle.frame_plan.proofs.PlaceLemmas.{planned_legal}
use Rattle.frame_plan.proofs.planning.plan_method.Goals as goal

pub returns-clause-plan : goal.returns-clause-plan
returns-clause-plan c =
    let program = c.args.program.now in
    let m = c.args.method.now in
    let states = c.args.states.now.states in
    c.in_ok-plan.ensures
    ∙ ap (λ ws. laid ws c.most_passed.result) (c.in_ok-widths.ensures ∙ ap (λ ins. place_widths program ins m states) c.in_ok-ins.ensures)
    ∙ ap (laid _) c.most_passed.ensures

pub returns-clause-legal : goal.returns-clause-legal
returns-clause-legal c small =
    subst IsPlan (sym (returns-clause-plan c)) (planned_legal c.args.program.now c.args.method.now c.args.states.now.states c.args.key.now.parts small)

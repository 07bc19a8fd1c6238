use Rattle.std.proofs.Common.{◌≡◌, ◌∙◌, ap, true, false, get_or, arith, sym}
use Rattle.cil_flow.specs.declared.control.Control.{Control}
use Rattle.cil_flow.specs.declared.effect.Effect.{Effect}
use Rattle.cil_flow.specs.Control.{control_at, any_follower}
use Rattle.cil_flow.specs.Depths.{depth_left, depth_after}
use Rattle.cil_flow.specs.Pass.{clashes}
use Rattle.cil_flow.specs.Flow.{is_bad_step, has_enough, is_deep_enough}
use Rattle.cil_flow.proofs.PassLemmas.{is_within, here_shallow, taken_length, cause_of_meeting}
use Rattle.cil_flow.proofs.pass.judge.Goals as goal

pub bounds-depth-at : goal.bounds-depth-at
bounds-depth-at c =
    let within = is_within c.args.body.now.code c.args.at c.args.op.now c.requires.is in
    let size = taken_length c.args.has_result c.args.body.now c.args.at c.args.depth.now within c.requires.depth in
    omega arith

pub depth_left-left-requires-clause-shallow : goal.depth_left-left-requires-clause-shallow
depth_left-left-requires-clause-shallow c =
    let within = is_within c.args.body.now.code c.args.at c.args.op.now c.requires.is in
    let low = here_shallow c.args.has_result c.args.body.now c.args.at c.args.depth.now within c.requires.depth in
    omega arith

pub clashes_somewhere-requires : goal.clashes_somewhere-requires
clashes_somewhere-requires c =
    let within = is_within c.args.body.now.code c.args.at c.args.op.now c.requires.is in
    omega arith

pub returns-then-clashes_somewhere-clause-cause : goal.returns-then-clashes_somewhere-clause-cause
returns-then-clashes_somewhere-clause-cause c =
    let kept : is_bad_step c.args.body.now c.args.at c.args.op.now ≡ false = cc in
    let leaves : c.depth_left-left.result ≡ depth_after c.args.has_result c.args.op.now (get_or c.args.depth.now c.args.at 0) =
    c.depth_left-left.ensures
    ∙ ap (λ (k : Control). depth_left k c.effect_of-effect.result (get_or c.args.depth.now c.args.at 0)) c.control_of-control.ensures
    ∙ ap (λ (e : Effect). depth_left (control_at c.args.op.now) e (get_or c.args.depth.now c.args.at 0)) c.effect_of-effect.ensures.value in
    let deep : is_deep_enough c.args.has_result c.args.depth.now c.args.at c.args.op.now ≡ true =
    sym (c.has_enough.ensures
    ∙ ap (λ (k : Control). has_enough k c.effect_of-effect.result (get_or c.args.depth.now c.args.at 0)) c.control_of-control.ensures
    ∙ ap (λ (e : Effect). has_enough (control_at c.args.op.now) e (get_or c.args.depth.now c.args.at 0)) c.effect_of-effect.ensures.value)
    ∙ c.if-not-has_enough.false in
    let clash : any_follower (clashes c.args.body.now.clauses c.args.arrived.now c.args.depth.now c.args.at c.depth_left-left.result) c.args.op.now c.args.at ≡ true = cc in
    cause_of_meeting c.args.has_result c.args.body.now c.args.arrived.now c.args.depth.now c.args.at c.depth_left-left.result c.args.op.now true
    c.requires.is leaves c.requires.knows c.requires.depth kept deep clash

pub returns-clause-cause : goal.returns-clause-cause
returns-clause-cause c =
    let kept : is_bad_step c.args.body.now c.args.at c.args.op.now ≡ false = cc in
    let leaves : c.depth_left-left.result ≡ depth_after c.args.has_result c.args.op.now (get_or c.args.depth.now c.args.at 0) =
    c.depth_left-left.ensures
    ∙ ap (λ (k : Control). depth_left k c.effect_of-effect.result (get_or c.args.depth.now c.args.at 0)) c.control_of-control.ensures
    ∙ ap (λ (e : Effect). depth_left (control_at c.args.op.now) e (get_or c.args.depth.now c.args.at 0)) c.effect_of-effect.ensures.value in
    let deep : is_deep_enough c.args.has_result c.args.depth.now c.args.at c.args.op.now ≡ true =
    sym (c.has_enough.ensures
    ∙ ap (λ (k : Control). has_enough k c.effect_of-effect.result (get_or c.args.depth.now c.args.at 0)) c.control_of-control.ensures
    ∙ ap (λ (e : Effect). has_enough (control_at c.args.op.now) e (get_or c.args.depth.now c.args.at 0)) c.effect_of-effect.ensures.value)
    ∙ c.if-not-has_enough.false in
    let clash : any_follower (clashes c.args.body.now.clauses c.args.arrived.now c.args.depth.now c.args.at c.depth_left-left.result) c.args.op.now c.args.at ≡ false = cc in
    cause_of_meeting c.args.has_result c.args.body.now c.args.arrived.now c.args.depth.now c.args.at c.depth_left-left.result c.args.op.now false
    c.requires.is leaves c.requires.knows c.requires.depth kept deep clash

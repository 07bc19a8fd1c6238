use Rattle.std.proofs.Common.{◌≡◌, ◌∙◌, ap, sym, subst, ℕ, List, ◌+◌, ◌<◌, true, false, length, take, slice_get, get_or, Some, None, Err, Option, Result, arith, refl}
use Rattle.std.specs.Result.{result_err}
use Rattle.std.proofs.lemmas.Option.{slice_get_read}
use Rattle.mn_outside.specs.declared.outside.Refused.{Refused}
use Rattle.il_model.specs.declared.op.Op.{Op}
use Rattle.cil_flow.specs.declared.fault.FlowFault.{FlowFault}
use Rattle.cil_flow.specs.declared.fault.FlowCause.{FlowCause}
use Rattle.cil_flow.specs.declared.fault.FlowCause.TheVariants as cause
use Rattle.cil_flow.specs.Regions.{first_bad_place}
use Rattle.cil_flow.specs.Depths.{depths_of}
use Rattle.cil_flow.specs.Flow.{GivesDepths, is_at, cause_of_step, fault_with, first_fault}
use Rattle.cil_flow.proofs.PassLemmas.{taken_next, all_taken, knows_next}
use Rattle.cil_flow.proofs.FaultLemmas.{cause_of_clause, cause_kept, fault_is, fault_next, no_fault}
use Rattle.cil_flow.proofs.pass.pass.Goals as goal

pub returns-then-is_at : goal.returns-then-is_at
returns-then-is_at c =
    let within : c.loop-at.at < length c.args.body.now.code = omega (arith, ap (λ (ops : List Op). length ops) c.as_slice-code.ensures) in
    let broken : is_at c.loop-at.at (first_bad_place (length c.args.body.now.code) c.args.body.now.clauses) ≡ true =
    ap (λ (p : Option ℕ). is_at c.loop-at.at p) (sym c.requires.bad) ∙ sym c.is_at.ensures ∙ c.if-is_at.true in
    let fault : first_fault c.args.has_result c.args.body.now ≡ Some (fault_with c.loop-at.at cause.BadFlow) =
    fault_is c.args.has_result c.args.body.now c.loop-at.at cause.BadFlow within c.loop-at.invariant.2
    (cause_of_clause c.args.has_result c.args.body.now (depths_of c.args.has_result c.args.body.now) c.loop-at.at broken) in
    subst (λ (r : Refused FlowFault). GivesDepths (Err r) (depths_of c.args.has_result c.args.body.now) (first_fault c.args.has_result c.args.body.now)) (sym c.fault.ensures) fault

pub judge-requires-clause-is : goal.judge-requires-clause-is
judge-requires-clause-is c =
    let within : c.loop-at.at < length c.args.body.now.code = omega (arith, ap (λ (ops : List Op). length ops) c.as_slice-code.ensures) in
    let is : slice_get c.args.body.now.code c.loop-at.at ≡ Some c.index-code-at.result =
    slice_get_read c.args.body.now.code (length c.args.body.now.code) c.loop-at.at c.index-code-at.result refl within
    (c.index-code-at.is ∙ ap (λ (ops : List Op). get_or ops c.loop-at.at c.index-code-at.result) c.as_slice-code.ensures) in
    is

pub judge-requires-clause-depth : goal.judge-requires-clause-depth
judge-requires-clause-depth c =
    let within : c.loop-at.at < length c.args.body.now.code = omega (arith, ap (λ (ops : List Op). length ops) c.as_slice-code.ensures) in
    let next : c.push.new.self ≡ take (c.loop-at.at + 1) (depths_of c.args.has_result c.args.body.now) =
    (c.in-Ok.ensures {u = tt}).ok ∙ taken_next c.args.has_result c.args.body.now c.loop-at.at c.depth_before.result c.loop-at.depth within c.loop-at.invariant.1 c.depth_before.ensures in
    c.as_slice.ensures ∙ next

pub returns-in-Err : goal.returns-in-Err
returns-in-Err c =
    let within : c.loop-at.at < length c.args.body.now.code = omega (arith, ap (λ (ops : List Op). length ops) c.as_slice-code.ensures) in
    let is : slice_get c.args.body.now.code c.loop-at.at ≡ Some c.index-code-at.result =
    slice_get_read c.args.body.now.code (length c.args.body.now.code) c.loop-at.at c.index-code-at.result refl within
    (c.index-code-at.is ∙ ap (λ (ops : List Op). get_or ops c.loop-at.at c.index-code-at.result) c.as_slice-code.ensures) in
    let kept : is_at c.loop-at.at (first_bad_place (length c.args.body.now.code) c.args.body.now.clauses) ≡ false =
    ap (λ (p : Option ℕ). is_at c.loop-at.at p) (sym c.requires.bad) ∙ sym c.is_at.ensures ∙ c.if-is_at.false in
    let step : cause_of_step c.args.has_result c.args.body.now (depths_of c.args.has_result c.args.body.now) c.loop-at.at c.index-code-at.result ≡ Some c.in-Err.cause =
    c.judge.ensures.cause ∙ ap (λ (r : Result ℕ FlowCause). result_err r) c.in-Err.is in
    let fault : first_fault c.args.has_result c.args.body.now ≡ Some (fault_with c.loop-at.at c.in-Err.cause) =
    fault_is c.args.has_result c.args.body.now c.loop-at.at c.in-Err.cause within c.loop-at.invariant.2
    (cause_kept c.args.has_result c.args.body.now (depths_of c.args.has_result c.args.body.now) c.loop-at.at c.index-code-at.result (Some c.in-Err.cause) kept is step) in
    subst (λ (r : Refused FlowFault). GivesDepths (Err r) (depths_of c.args.has_result c.args.body.now) (first_fault c.args.has_result c.args.body.now)) (sym c.fault-in-Err.ensures) fault

pub loop-at-preserved : goal.loop-at-preserved
loop-at-preserved c =
    let within : c.loop-at.at < length c.args.body.now.code = omega (arith, ap (λ (ops : List Op). length ops) c.as_slice-code.ensures) in
    let is : slice_get c.args.body.now.code c.loop-at.at ≡ Some c.index-code-at.result =
    slice_get_read c.args.body.now.code (length c.args.body.now.code) c.loop-at.at c.index-code-at.result refl within
    (c.index-code-at.is ∙ ap (λ (ops : List Op). get_or ops c.loop-at.at c.index-code-at.result) c.as_slice-code.ensures) in
    let kept : is_at c.loop-at.at (first_bad_place (length c.args.body.now.code) c.args.body.now.clauses) ≡ false =
    ap (λ (p : Option ℕ). is_at c.loop-at.at p) (sym c.requires.bad) ∙ sym c.is_at.ensures ∙ c.if-is_at.false in
    let next : c.push.new.self ≡ take (c.loop-at.at + 1) (depths_of c.args.has_result c.args.body.now) =
    (c.in-Ok.ensures {u = tt}).ok ∙ taken_next c.args.has_result c.args.body.now c.loop-at.at c.depth_before.result c.loop-at.depth within c.loop-at.invariant.1 c.depth_before.ensures in
    let step : cause_of_step c.args.has_result c.args.body.now (depths_of c.args.has_result c.args.body.now) c.loop-at.at c.index-code-at.result ≡ None =
    c.judge.ensures.cause ∙ ap (λ (r : Result ℕ FlowCause). result_err r) c.in-Ok-judge.is in (
      knows_next c.args.has_result c.args.body.now c.loop-at.at c.in-Ok-judge.left c.index-code-at.result c.loop-at.arrived c.note_followers.new.arrived is within
          (c.in-Ok-judge.ensures {u = tt}).left c.loop-at.invariant.0 c.note_followers.ensures.size c.note_followers.ensures.known,
      next,
      fault_next c.args.has_result c.args.body.now (depths_of c.args.has_result c.args.body.now) c.loop-at.at None c.loop-at.invariant.2
          (cause_kept c.args.has_result c.args.body.now (depths_of c.args.has_result c.args.body.now) c.loop-at.at c.index-code-at.result None kept is step),
    )

pub returns : goal.returns
returns c =
    let end : c.loop-at.at ≡ length c.args.body.now.code = omega (arith, ap (λ (ops : List Op). length ops) c.as_slice-code.ensures) in (
      all_taken c.args.has_result c.args.body.now c.loop-at.at c.loop-at.depth end c.loop-at.invariant.1,
      no_fault c.args.has_result c.args.body.now c.loop-at.at c.requires.some end c.loop-at.invariant.2,
    )

use Rattle.std.proofs.Common.{◌≡◌, ◌<◌, ◌≤◌, ℕ, suc, ◌+◌, List, Some, Ok, Err, Result, length, take, slice_get, subst, sym, ap, ◌∙◌, arith}
use Rattle.mn_outside.specs.declared.outside.Refused.{Refused}
use Rattle.il_model.specs.declared.method.MethodDef.{MethodDef}
use Rattle.cil_flow.specs.declared.state.States.{States}
use Rattle.cil_verify.specs.declared.fault.VerifyFault.{VerifyFault}
use Rattle.cil_verify.specs.WellTyped.{IsGoodMethod}
use Rattle.cil_verify.specs.Judging.{JudgesMethod, JudgesMethods, AreStatesOf}
use Rattle.cil_verify.proofs.JudgingLemmas.{each_more, each_all, method_refuses, types_of_first, states_more, all_taken, item_here, handed_on}
use Rattle.cil_verify.proofs.judging.judge_methods.Goals as goal

pub judge_method-requires-clause-types : goal.judge_method-requires-clause-types
judge_method-requires-clause-types c = types_of_first c.args.program.now c.requires.first

pub judge_method-requires-clause-few : goal.judge_method-requires-clause-few
judge_method-requires-clause-few c =
    c.requires.size.code c.loop-i.i c.index-methods-i.result
    (item_here c.args.program.now.methods c.as_slice-methods.result.now c.loop-i.i c.index-methods-i.result c.as_slice-methods.ensures c.loop-i-test.true c.index-methods-i.is)

pub loop-i-preserved : goal.loop-i-preserved
loop-i-preserved c =
    let p = c.args.program.now in
    let i = c.loop-i.i in
    let item = c.index-methods-i.result in
    let here : slice_get p.methods i ≡ Some item =
    item_here p.methods c.as_slice-methods.result.now i item c.as_slice-methods.ensures c.loop-i-test.true c.index-methods-i.is in
    let inside : i < length p.methods = omega (arith, c.loop-i-test.true, ap length c.as_slice-methods.ensures) in
    let good = c.in_ok-states.ensures {u = tt} in (
      each_more (IsGoodMethod p) p.methods i (i + 1) item (omega arith) here c.loop-i.invariant.0 good.1,
      states_more p c.loop-i.all c.put.new.all c.in_ok-states.states p.methods i (i + 1) item (omega arith) inside here (c.in-Ok.ensures {u = tt}) good.0 c.loop-i.invariant.1,
    )

pub returns-in_err-states : goal.returns-in_err-states
returns-in_err-states c =
    let p = c.args.program.now in
    let i = c.loop-i.i in
    let item = c.index-methods-i.result in
    let here : slice_get p.methods i ≡ Some item =
    item_here p.methods c.as_slice-methods.result.now i item c.as_slice-methods.ensures c.loop-i-test.true c.index-methods-i.is in
    let err : c.from_residual.result ≡ Err c.in_err-states.field-0.0 = handed_on c.from_residual.result c.in_err-states.field-0.0 c.from_residual.ensures in
    subst (λ (r : Result (List States) (Refused VerifyFault)). JudgesMethods p r) (sym err)
    (method_refuses p i item c.in_err-states.field-0.0 here c.requires.first c.requires.later c.loop-i.invariant.0 (c.in_err-states.ensures {u = tt}))

pub returns : goal.returns
returns c =
    let p = c.args.program.now in
    let over : length p.methods ≤ c.loop-i.i = omega (arith, c.loop-i-test.false, ap length c.as_slice-methods.ensures) in (
      subst (λ (ms : List MethodDef). AreStatesOf p c.loop-i.all ms) (all_taken p.methods c.loop-i.i over) c.loop-i.invariant.1,
      each_all (IsGoodMethod p) p.methods c.loop-i.i over c.loop-i.invariant.0,
    )

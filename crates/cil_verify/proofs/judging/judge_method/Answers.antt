use Rattle.std.proofs.Common.{◌≡◌, Some, None, Ok, Err, Option, Result, subst, sym, ap, ◌∙◌}
use Rattle.mn_outside.specs.declared.outside.Refused.{Refused}
use Rattle.mn_outside.specs.declared.outside.Refused.TheVariants as refused
use Rattle.cil_flow.specs.declared.state.States.{States}
use Rattle.cil_verify.specs.declared.fault.BodyFault.{BodyFault}
use Rattle.cil_verify.specs.declared.fault.Where.TheVariants as at
use Rattle.cil_verify.specs.declared.fault.VerifyFault.{VerifyFault}
use Rattle.cil_verify.specs.Passes.{refusal_of}
use Rattle.cil_verify.specs.WellTyped.{HoldAll, head_rules, refused_in, IsRefusedMethod, by_body}
use Rattle.cil_verify.specs.Judging.{fault_in, JudgesMethod, GivesBody}
use Rattle.cil_verify.proofs.JudgingLemmas.{passes, head_refuses, size_refuses, handed_on}
use Rattle.cil_verify.proofs.judging.judge_method.Goals as goal

pub returns-in_err-refuse : goal.returns-in_err-refuse
returns-in_err-refuse c =
    let p = c.args.program.now in
    let n = c.args.number in
    let m = c.args.method.now in
    let err : c.from_residual.result ≡ Err c.in_err-refuse.field-0.0 = handed_on c.from_residual.result c.in_err-refuse.field-0.0 c.from_residual.ensures in
    subst (λ (r : Result States (Refused VerifyFault)). JudgesMethod p n m r) (sym err)
    (head_refuses p n c.head_cause-head.result c.refuse.result m c.in_err-refuse.field-0.0 c.refuse.ensures (c.in_err-refuse.was {u = tt}) c.head_cause-head.ensures)

pub returns-in-Err-Fault : goal.returns-in-Err-Fault
returns-in-Err-Fault c =
    let p = c.args.program.now in
    let n = c.args.number in
    let m = c.args.method.now in
    let heads : HoldAll head_rules p n m =
    passes p n c.head_cause-head.result c.refuse.result head_rules m c.in_ok-refuse.field-0 (at.Method n) c.refuse.ensures (c.in_ok-refuse.was {u = tt}) c.head_cause-head.ensures in
    let is : refused_in p m ≡ Some (refusal_of c.in-Err-Fault.fault) =
    subst (λ (f : Refused BodyFault). GivesBody p m (Err f)) c.in-Err-Fault.field-0-is (c.in-Err-Fault.ensures {u = tt}) in
    let same : c.at_instr.result ≡ fault_in n (refusal_of c.in-Err-Fault.fault) = c.at_instr.ensures ∙ ap (λ (f : BodyFault). fault_in n (refusal_of f)) c.in-Err-Fault.fault-is in
    subst (λ (f : VerifyFault). IsRefusedMethod p n m f) (sym same) (by_body (refusal_of c.in-Err-Fault.fault) heads is)

pub returns-in_err-refuse-2 : goal.returns-in_err-refuse-2
returns-in_err-refuse-2 c =
    let p = c.args.program.now in
    let n = c.args.number in
    let m = c.args.method.now in
    let heads : HoldAll head_rules p n m =
    passes p n c.head_cause-head.result c.refuse.result head_rules m c.in_ok-refuse.field-0 (at.Method n) c.refuse.ensures (c.in_ok-refuse.was {u = tt}) c.head_cause-head.ensures in
    let err : c.from_residual-in_err-refuse-2.result ≡ Err c.in_err-refuse-2.field-0.0 =
    handed_on c.from_residual-in_err-refuse-2.result c.in_err-refuse-2.field-0.0 c.from_residual-in_err-refuse-2.ensures in
    subst (λ (r : Result States (Refused VerifyFault)). JudgesMethod p n m r) (sym err)
    (size_refuses p n c.size_cause-size.result c.refuse-2.result m c.in_err-refuse-2.field-0.0 heads (c.in-Ok.ensures {u = tt}).1 c.refuse-2.ensures (c.in_err-refuse-2.was {u = tt}) c.size_cause-size.ensures)

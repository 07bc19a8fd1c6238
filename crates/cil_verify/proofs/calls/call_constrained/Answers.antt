use Rattle.std.proofs.Common.{◌∙◌, reverse, ap, sym, cond, None}
use Rattle.std.proofs.lemmas.Result.{IfOk-weaker}
use Rattle.cil_verify.specs.Places.{view_of}
use Rattle.cil_verify.specs.Fits.{points_to}
use Rattle.cil_verify.specs.Members.{result_at}
use Rattle.cil_verify.specs.Admits.{take_one, after_call, push_all}
use Rattle.cil_verify.proofs.TakingLemmas.{goes_on, stops}
use Rattle.cil_verify.proofs.calls.call_constrained.Goals as goal

pub returns-then-not-branch-2 : goal.returns-then-not-branch-2
returns-then-not-branch-2 c =
    stops (after_call (view_of c.args.program.now c.args.method.now) c.args.named.now) c.in_ok-take_arguments.field-0 c.args.stack.now c.take_arguments.new.stack (c.in_ok-take_arguments.ensures {u = tt}) c.if-not-branch-2.true (take_one (points_to c.args.kind.now) (push_all (result_at c.args.named.now)))
    ∙ ap (λ b. cond b (after_call (view_of c.args.program.now c.args.method.now) c.args.named.now (take_one (points_to c.args.kind.now) (push_all (result_at c.args.named.now))) (reverse c.args.stack.now)) None) (sym (sym (c.in_ok-may_constrain.ensures {u = tt}) ∙ c.if-not-branch.false))

pub returns-then-not-take_pointer : goal.returns-then-not-take_pointer
returns-then-not-take_pointer c =
    stops (take_one (points_to c.args.kind.now)) c.take_pointer.result c.take_arguments.new.stack c.take_pointer.new.stack c.take_pointer.ensures c.if-not-take_pointer.true (push_all (result_at c.args.named.now))
    ∙ goes_on (after_call (view_of c.args.program.now c.args.method.now) c.args.named.now) c.in_ok-take_arguments.field-0 c.args.stack.now c.take_arguments.new.stack (c.in_ok-take_arguments.ensures {u = tt}) c.if-not-branch-2.false (take_one (points_to c.args.kind.now) (push_all (result_at c.args.named.now)))
    ∙ ap (λ b. cond b (after_call (view_of c.args.program.now c.args.method.now) c.args.named.now (take_one (points_to c.args.kind.now) (push_all (result_at c.args.named.now))) (reverse c.args.stack.now)) None) (sym (sym (c.in_ok-may_constrain.ensures {u = tt}) ∙ c.if-not-branch.false))

pub returns : goal.returns
returns c =
    IfOk-weaker c.push_result.result _ _
    (λ admitted leaves. leaves
    ∙ goes_on (take_one (points_to c.args.kind.now)) c.take_pointer.result c.take_arguments.new.stack c.take_pointer.new.stack c.take_pointer.ensures c.if-not-take_pointer.false (push_all (result_at c.args.named.now))
    ∙ goes_on (after_call (view_of c.args.program.now c.args.method.now) c.args.named.now) c.in_ok-take_arguments.field-0 c.args.stack.now c.take_arguments.new.stack (c.in_ok-take_arguments.ensures {u = tt}) c.if-not-branch-2.false (take_one (points_to c.args.kind.now) (push_all (result_at c.args.named.now)))
    ∙ ap (λ b. cond b (after_call (view_of c.args.program.now c.args.method.now) c.args.named.now (take_one (points_to c.args.kind.now) (push_all (result_at c.args.named.now))) (reverse c.args.stack.now)) None) (sym (sym (c.in_ok-may_constrain.ensures {u = tt}) ∙ c.if-not-branch.false)))
    c.push_result.ensures

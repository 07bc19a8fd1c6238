use Rattle.std.proofs.Common.{◌∙◌}
use Rattle.std.proofs.lemmas.Result.{IfOk-weaker}
use Rattle.cil_verify.specs.Places.{view_of}
use Rattle.cil_verify.specs.Members.{result_at}
use Rattle.cil_verify.specs.Admits.{take_one, is_called_on, after_call, push_all}
use Rattle.cil_verify.proofs.TakingLemmas.{goes_on, stops}
use Rattle.cil_verify.proofs.calls.call_virtual.Goals as goal

pub returns-then-not-branch : goal.returns-then-not-branch
returns-then-not-branch c =
    stops (after_call (view_of c.args.program.now c.args.method.now) c.args.named.now) c.in_ok-take_arguments.field-0 c.args.stack.now c.take_arguments.new.stack (c.in_ok-take_arguments.ensures {u = tt}) c.if-not-branch.true (take_one (is_called_on (view_of c.args.program.now c.args.method.now) c.args.named.now) (push_all (result_at c.args.named.now)))

pub returns-then-not-branch-2 : goal.returns-then-not-branch-2
returns-then-not-branch-2 c =
    stops (take_one (is_called_on (view_of c.args.program.now c.args.method.now) c.args.named.now)) c.in_ok-take_called_on.field-0 c.take_arguments.new.stack c.take_called_on.new.stack (c.in_ok-take_called_on.ensures {u = tt}) c.if-not-branch-2.true (push_all (result_at c.args.named.now))
    ∙ goes_on (after_call (view_of c.args.program.now c.args.method.now) c.args.named.now) c.in_ok-take_arguments.field-0 c.args.stack.now c.take_arguments.new.stack (c.in_ok-take_arguments.ensures {u = tt}) c.if-not-branch.false (take_one (is_called_on (view_of c.args.program.now c.args.method.now) c.args.named.now) (push_all (result_at c.args.named.now)))

pub returns : goal.returns
returns c =
    IfOk-weaker c.push_result.result _ _
    (λ admitted leaves. leaves
    ∙ goes_on (take_one (is_called_on (view_of c.args.program.now c.args.method.now) c.args.named.now)) c.in_ok-take_called_on.field-0 c.take_arguments.new.stack c.take_called_on.new.stack (c.in_ok-take_called_on.ensures {u = tt}) c.if-not-branch-2.false (push_all (result_at c.args.named.now))
    ∙ goes_on (after_call (view_of c.args.program.now c.args.method.now) c.args.named.now) c.in_ok-take_arguments.field-0 c.args.stack.now c.take_arguments.new.stack (c.in_ok-take_arguments.ensures {u = tt}) c.if-not-branch.false (take_one (is_called_on (view_of c.args.program.now c.args.method.now) c.args.named.now) (push_all (result_at c.args.named.now))))
    c.push_result.ensures

use Rattle.std.proofs.Common.{◌≡◌, ◌∷◌, ◌∙◌, reverse, ap}
use Rattle.cil_flow.specs.declared.state.StackType.{StackType}
use Rattle.cil_verify.specs.Places.{view_of, stack_of}
use Rattle.cil_verify.specs.Admits.{after_call, push}
use Rattle.cil_verify.proofs.TakingLemmas.{left_with, stops}
use Rattle.cil_verify.proofs.calls.make.Goals as goal

pub returns-then-not-branch : goal.returns-then-not-branch
returns-then-not-branch c =
    stops (after_call (view_of c.args.program.now c.args.method.now) c.args.named.now) c.in_ok-take_arguments.field-0 c.args.stack.now c.take_arguments.new.stack (c.in_ok-take_arguments.ensures {u = tt}) c.if-not-branch.true (push (stack_of c.args.named.now.class))

pub returns : goal.returns
returns c =
    let put : reverse c.push.new.stack ≡ stack_of c.args.named.now.class ∷ reverse c.take_arguments.new.stack =
    c.in_ok-push.ensures {u = tt} ∙ ap (λ (k : StackType). k ∷ reverse c.take_arguments.new.stack) (c.in_ok-stack_of.ensures {u = tt}) in
    left_with (after_call (view_of c.args.program.now c.args.method.now) c.args.named.now) c.in_ok-take_arguments.field-0 (stack_of c.args.named.now.class) c.args.stack.now c.take_arguments.new.stack c.push.new.stack
    (c.in_ok-take_arguments.ensures {u = tt}) c.if-not-branch.false put

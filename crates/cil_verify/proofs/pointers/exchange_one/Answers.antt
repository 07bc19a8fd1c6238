use Rattle.std.proofs.Common.{◌≡◌, ◌∷◌, ◌∙◌, reverse, ap}
use Rattle.cil_flow.specs.declared.state.StackType.{StackType}
use Rattle.cil_verify.specs.Places.{view_of, stack_of}
use Rattle.cil_verify.specs.Fits.{fits, points_to}
use Rattle.cil_verify.specs.Admits.{take_one, push}
use Rattle.cil_verify.proofs.TakingLemmas.{goes_on, stops, left_with}
use Rattle.cil_verify.proofs.pointers.exchange_one.Goals as goal

pub returns-then-not-take_pointer : goal.returns-then-not-take_pointer
returns-then-not-take_pointer c =
    stops (take_one (points_to c.args.kind.now)) c.take_pointer.result c.take_fitting.new.stack c.take_pointer.new.stack c.take_pointer.ensures c.if-not-take_pointer.true (push (stack_of c.args.kind.now))
    ∙ goes_on (take_one (fits (view_of c.args.program.now c.args.method.now) c.args.kind.now)) c.in_ok-take_fitting.field-0 c.args.stack.now c.take_fitting.new.stack (c.in_ok-take_fitting.ensures {u = tt}) c.if-not-branch.false (take_one (points_to c.args.kind.now) (push (stack_of c.args.kind.now)))

pub returns : goal.returns
returns c =
    let put : reverse c.push.new.stack ≡ stack_of c.args.kind.now ∷ reverse c.take_pointer.new.stack =
    c.in_ok-push.ensures {u = tt} ∙ ap (λ (k : StackType). k ∷ reverse c.take_pointer.new.stack) (c.in_ok-stack_of.ensures {u = tt}) in
    left_with (take_one (points_to c.args.kind.now)) c.take_pointer.result (stack_of c.args.kind.now) c.take_fitting.new.stack c.take_pointer.new.stack c.push.new.stack
    c.take_pointer.ensures c.if-not-take_pointer.false put
    ∙ goes_on (take_one (fits (view_of c.args.program.now c.args.method.now) c.args.kind.now)) c.in_ok-take_fitting.field-0 c.args.stack.now c.take_fitting.new.stack (c.in_ok-take_fitting.ensures {u = tt}) c.if-not-branch.false (take_one (points_to c.args.kind.now) (push (stack_of c.args.kind.now)))

use Rattle.std.proofs.Common.{◌≡◌, ◌∷◌, ◌∙◌, reverse, ap}
use Rattle.cil_flow.specs.declared.state.StackType.{StackType}
use Rattle.cil_verify.specs.Places.{stack_of}
use Rattle.cil_verify.specs.Fits.{points_to}
use Rattle.cil_verify.specs.Admits.{take_one, push}
use Rattle.cil_verify.proofs.TakingLemmas.{stops, left_with}
use Rattle.cil_verify.proofs.pointers.load_through.Goals as goal

pub returns-then-not-take_pointer : goal.returns-then-not-take_pointer
returns-then-not-take_pointer c =
    stops (take_one (points_to c.args.kind.now)) c.take_pointer.result c.args.stack.now c.take_pointer.new.stack c.take_pointer.ensures c.if-not-take_pointer.true (push (stack_of c.args.kind.now))

pub returns : goal.returns
returns c =
    let put : reverse c.push.new.stack ≡ stack_of c.args.kind.now ∷ reverse c.take_pointer.new.stack =
    c.in_ok-push.ensures {u = tt} ∙ ap (λ (k : StackType). k ∷ reverse c.take_pointer.new.stack) (c.in_ok-stack_of.ensures {u = tt}) in
    left_with (take_one (points_to c.args.kind.now)) c.take_pointer.result (stack_of c.args.kind.now) c.args.stack.now c.take_pointer.new.stack c.push.new.stack
    c.take_pointer.ensures c.if-not-take_pointer.false put

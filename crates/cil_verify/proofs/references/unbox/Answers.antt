use Rattle.std.proofs.Common.{◌≡◌, ◌∷◌, ◌∙◌, reverse, ap}
use Rattle.cil_flow.specs.declared.state.StackType.{StackType}
use Rattle.cil_verify.specs.Places.{stack_of}
use Rattle.cil_verify.specs.Fits.{is_object}
use Rattle.cil_verify.specs.Admits.{take_one, push}
use Rattle.cil_verify.proofs.TakingLemmas.{stops, left_with}
use Rattle.cil_verify.proofs.references.unbox.Goals as goal

pub returns-then-not-take_object : goal.returns-then-not-take_object
returns-then-not-take_object c =
    stops (take_one (is_object c.args.program.now)) c.take_object.result c.args.stack.now c.take_object.new.stack c.take_object.ensures c.if-not-take_object.true (push (stack_of c.args.kind.now))

pub returns : goal.returns
returns c =
    let put : reverse c.push.new.stack ≡ stack_of c.args.kind.now ∷ reverse c.take_object.new.stack =
    c.in_ok-push.ensures {u = tt} ∙ ap (λ (k : StackType). k ∷ reverse c.take_object.new.stack) (c.in_ok-stack_of.ensures {u = tt}) in
    left_with (take_one (is_object c.args.program.now)) c.take_object.result (stack_of c.args.kind.now) c.args.stack.now c.take_object.new.stack c.push.new.stack
    c.take_object.ensures c.if-not-take_object.false put

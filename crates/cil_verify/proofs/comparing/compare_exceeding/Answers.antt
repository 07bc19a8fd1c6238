use Rattle.cil_flow.specs.declared.state.StackType.TheVariants as stack
use Rattle.cil_verify.specs.Places.{view_of}
use Rattle.cil_verify.specs.Rows.{also_with_null}
use Rattle.cil_verify.specs.Admits.{may_compare, take_two, push}
use Rattle.cil_verify.proofs.TakingLemmas.{stops, left_with}
use Rattle.cil_verify.proofs.comparing.compare_exceeding.Goals as goal

pub returns-then-not-take_exceeding : goal.returns-then-not-take_exceeding
returns-then-not-take_exceeding c = λ method.
    stops (take_two (may_compare (view_of c.args.program.now method) also_with_null)) c.take_exceeding.result c.args.stack.now c.take_exceeding.new.stack
    (c.take_exceeding.ensures method) c.if-not-take_exceeding.true (push stack.Int32)

pub returns : goal.returns
returns c = λ method.
    left_with (take_two (may_compare (view_of c.args.program.now method) also_with_null)) c.take_exceeding.result stack.Int32 c.args.stack.now c.take_exceeding.new.stack c.push.new.stack
    (c.take_exceeding.ensures method) c.if-not-take_exceeding.false (c.in_ok-push.ensures {u = tt})

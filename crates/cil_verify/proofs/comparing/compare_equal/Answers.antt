use Rattle.cil_flow.specs.declared.state.StackType.TheVariants as stack
use Rattle.cil_verify.specs.Places.{view_of}
use Rattle.cil_verify.specs.Rows.{also_references}
use Rattle.cil_verify.specs.Admits.{may_compare, take_two, push}
use Rattle.cil_verify.proofs.TakingLemmas.{stops, left_with}
use Rattle.cil_verify.proofs.comparing.compare_equal.Goals as goal

pub returns-then-not-take_equal : goal.returns-then-not-take_equal
returns-then-not-take_equal c = λ method.
    stops (take_two (may_compare (view_of c.args.program.now method) also_references)) c.take_equal.result c.args.stack.now c.take_equal.new.stack
    (c.take_equal.ensures method) c.if-not-take_equal.true (push stack.Int32)

pub returns : goal.returns
returns c = λ method.
    left_with (take_two (may_compare (view_of c.args.program.now method) also_references)) c.take_equal.result stack.Int32 c.args.stack.now c.take_equal.new.stack c.push.new.stack
    (c.take_equal.ensures method) c.if-not-take_equal.false (c.in_ok-push.ensures {u = tt})

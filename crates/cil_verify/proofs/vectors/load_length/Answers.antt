use Rattle.cil_flow.specs.declared.state.StackType.TheVariants as stack
use Rattle.cil_verify.specs.Places.{view_of}
use Rattle.cil_verify.specs.Fits.{is_vector}
use Rattle.cil_verify.specs.Admits.{take_one, push}
use Rattle.cil_verify.proofs.TakingLemmas.{stops, left_with}
use Rattle.cil_verify.proofs.vectors.load_length.Goals as goal

pub returns-then-not-take_any_vector : goal.returns-then-not-take_any_vector
returns-then-not-take_any_vector c =
    stops (take_one (is_vector (view_of c.args.program.now c.args.method.now))) c.take_any_vector.result c.args.stack.now c.take_any_vector.new.stack
    c.take_any_vector.ensures c.if-not-take_any_vector.true (push stack.Native)

pub returns : goal.returns
returns c =
    left_with (take_one (is_vector (view_of c.args.program.now c.args.method.now))) c.take_any_vector.result stack.Native c.args.stack.now c.take_any_vector.new.stack c.push.new.stack
    c.take_any_vector.ensures c.if-not-take_any_vector.false (c.in_ok-push.ensures {u = tt})

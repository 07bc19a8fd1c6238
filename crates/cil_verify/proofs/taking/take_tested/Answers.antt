use Rattle.cil_verify.specs.Places.{view_of}
use Rattle.cil_verify.specs.Admits.{may_test}
use Rattle.cil_verify.proofs.TakingLemmas.{takes_top}
use Rattle.cil_verify.proofs.taking.take_tested.Goals as goal

pub returns-in-Some : goal.returns-in-Some
returns-in-Some c = λ method.
    takes_top (may_test (view_of c.args.program.now method)) c.may_test.result c.in-Some.top c.args.stack.now c.take.new.stack (c.in-Some.ensures {u = tt}) (c.may_test.ensures method)

use Rattle.cil_verify.specs.Places.{view_of}
use Rattle.cil_verify.specs.Rows.{also_references}
use Rattle.cil_verify.specs.Admits.{may_compare}
use Rattle.cil_verify.proofs.TakingLemmas.{takes_both}
use Rattle.cil_verify.proofs.comparing.take_equal.Goals as goal

pub returns : goal.returns
returns c = λ method.
    takes_both (may_compare (view_of c.args.program.now method) also_references) c.may_equal.result c.in-Some-take.first c.in-Some.second c.args.stack.now c.take.new.stack c.take-2.new.stack
    (c.in-Some.ensures {u = tt}) (c.in-Some-take.ensures {u = tt}) (c.may_equal.ensures method)

use Rattle.cil_verify.specs.Places.{view_of}
use Rattle.cil_verify.proofs.StackLemmas.{lengths_differ}
use Rattle.cil_verify.proofs.stacks.are_assignable.Goals as goal

pub returns-then-from-to : goal.returns-then-from-to
returns-then-from-to c = lengths_differ (view_of c.args.program.now c.args.method.now) c.args.from.now c.args.to.now c.if-from-to.true

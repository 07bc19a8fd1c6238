use Rattle.std.proofs.Common.{sym, ◌∙◌}
use Rattle.cil_verify.specs.Places.{view_of}
use Rattle.cil_verify.specs.Members.{meets_bounds_at}
use Rattle.cil_verify.proofs.TreesLemmas.{zip_over}
use Rattle.cil_verify.proofs.written.pairs_meet.Goals as goal

pub returns-then-i-arguments : goal.returns-then-i-arguments
returns-then-i-arguments c =
    sym (c.loop-i.invariant
    ∙ zip_over (meets_bounds_at (view_of c.args.program.now c.args.method.now) c.args.named.now) c.args.vars.now c.args.arguments.now c.loop-i.i c.if-i-arguments.true)

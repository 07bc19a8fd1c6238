use Rattle.std.proofs.Common.{sym, ◌∙◌}
use Rattle.il_model.specs.Assignable.{Bounded}
use Rattle.il_model.specs.ClassRules.{meets_bounds_of}
use Rattle.cil_verify.proofs.TreesLemmas.{zip_over}
use Rattle.cil_verify.proofs.bounds.arguments_meet.Goals as goal

pub returns-then-i-parts : goal.returns-then-i-parts
returns-then-i-parts c =
    let scope : Bounded = record { of_class = c.args.of_class.now; of_method = c.args.of_method.now } in
    sym (c.loop-i.invariant ∙ zip_over (meets_bounds_of c.args.program.now scope c.args.kind.now) c.args.vars.now c.args.parts.now c.loop-i.i c.if-i-parts.true)

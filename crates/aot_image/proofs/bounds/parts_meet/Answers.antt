use Rattle.std.proofs.Common.{sym, ◌∙◌}
use Rattle.rgctx_template.specs.BodyRows.{part_meets}
use Rattle.cil_verify.proofs.TreesLemmas.{zip_over}
use Rattle.aot_image.proofs.bounds.parts_meet.Goals as goal

pub returns-then-i-parts : goal.returns-then-i-parts
returns-then-i-parts c =
    sym (c.loop-i.invariant ∙ zip_over (part_meets c.args.program.now c.args.class_args.now c.args.method_args.now) c.args.vars.now c.args.parts.now c.loop-i.i c.if-i-parts.true)

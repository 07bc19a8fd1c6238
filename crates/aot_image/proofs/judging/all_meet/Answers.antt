use Rattle.std.proofs.Common.{sym, ◌∙◌}
use Rattle.rgctx_template.specs.Admitted.{meets_all}
use Rattle.cil_verify.proofs.TreesLemmas.{zip_over}
use Rattle.aot_image.proofs.judging.all_meet.Goals as goal

pub returns-then-i-args : goal.returns-then-i-args
returns-then-i-args c =
    sym (c.loop-i.invariant ∙ zip_over (meets_all c.args.program.now c.args.class_args.now c.args.args.now) c.args.vars.now c.args.args.now c.loop-i.i c.if-i-args.true)

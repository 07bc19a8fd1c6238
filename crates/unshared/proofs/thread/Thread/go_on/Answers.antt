use Rattle.std.proofs.Common.{◌∙◌}
use Rattle.cil_verify.proofs.JudgingLemmas.{handed_on}
use Rattle.unshared.specs.Listed.{naming_of}
use Rattle.unshared.proofs.Arriving.{arrives_err}
use Rattle.unshared.proofs.thread.Thread.go_on.Goals as goal

pub returns-in_err-act-clause-acts : goal.returns-in_err-act-clause-acts
returns-in_err-act-clause-acts c = λ later ext.
    let failed = c.in_err-act.ensures {u = tt} in
    arrives_err (naming_of later) c.args.program.now c.args.self.now.frames c.in-Some.frames c.act.new.frames c.args.self.now.replies.items c.of-replies.result c.act.new.replies c.in_err-act.field-0.0 c.from_residual.result
    c.in-Some.is (c.of-replies.ensures ∙ c.as_slice.ensures.value) (handed_on c.from_residual.result c.in_err-act.field-0.0 c.from_residual.ensures) (failed.acts later ext)

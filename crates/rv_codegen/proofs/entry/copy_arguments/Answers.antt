use Rattle.std.proofs.Common.{ap, ◌∙◌}
use Rattle.rv_codegen.specs.Forms.{copied_argument}
use Rattle.rv_codegen.specs.Emitted.{data_of, with_instrs}
use Rattle.rv_codegen.proofs.EmitLemmas.{copied_grown}
use Rattle.rv_codegen.proofs.entry.copy_arguments.Goals as goal

-- src/entry.rt:165:5
pub loop-i-preserved : goal.loop-i-preserved
loop-i-preserved c =
    (c.in_ok-copy_argument.ensures {u = tt})
    ∙ ap (λ x. with_instrs x (copied_argument (data_of c.args.body.now) c.loop-i.i)) c.loop-i.invariant
    ∙ copied_grown c.args.asm.now (data_of c.args.body.now) c.loop-i.i

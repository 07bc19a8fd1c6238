use Rattle.std.proofs.Common.{◌+◌, ap, ◌∙◌}
use Rattle.rv_codegen.specs.PlainItems.{adapts}
use Rattle.rv_codegen.specs.Forms.{taken_word}
use Rattle.rv_codegen.specs.Emitted.{data_of, with_instrs}
use Rattle.rv_codegen.proofs.EmitLemmas.{words_taken_grown}
use Rattle.rv_codegen.proofs.entry.take_words.Goals as goal

-- src/entry.rt
pub loop-i-preserved : goal.loop-i-preserved
loop-i-preserved c =
    (c.in_ok-take_word.ensures {u = tt})
    ∙ ap (λ x. with_instrs x (taken_word (adapts (data_of c.args.body.now) c.args.number) c.loop-i.i (c.args.offset + c.loop-i.i))) c.loop-i.invariant
    ∙ words_taken_grown c.args.asm.now (data_of c.args.body.now) (adapts (data_of c.args.body.now) c.args.number) c.loop-i.i c.args.offset

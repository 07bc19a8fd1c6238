use Rattle.std.proofs.Common.{ap, ◌∙◌, ◌+◌, ◌-◌, min, length, ◌∷◌, [], ◌++◌}
use Rattle.rv_isa.specs.declared.instr.Instr.TheVariants.{Addi, Ecall}
use Rattle.rv_codegen.specs.FrameWords.{loads_word}
use Rattle.il_model.specs.Admission.{most_words}
use Rattle.il_model.specs.Layouts.{words_of}
use Rattle.rv_codegen.specs.PlainItems.{held_count, offset_of, give_words}
use Rattle.rv_codegen.specs.Forms.{gives}
use Rattle.rv_codegen.specs.Emitted.{data_of, with_instrs}
use Rattle.rv_codegen.proofs.EmitLemmas.{returned_grown}
use Rattle.rv_codegen.proofs.returns.emit_result.Goals as goal

-- src/returns.rt
pub returns : goal.returns
returns c =
    (c.in_ok-emit_leave.ensures {u = tt})
    ∙ ap (λ x. with_instrs x (Addi 17 0 2 ∷ Ecall ∷ [])) (c.in_ok-give_words.ensures {u = tt})
    ∙ ap (λ x. with_instrs (with_instrs x (gives c.in_ok-count.count c.spot_from_top-place.result.offset 0 c.is_bool.result)) (Addi 17 0 2 ∷ Ecall ∷ [])) (c.in_ok-load_word.ensures {u = tt})
    ∙ ap (λ r. with_instrs (with_instrs (with_instrs c.args.asm.now (loads_word r 3)) (gives c.in_ok-count.count c.spot_from_top-place.result.offset 0 c.is_bool.result)) (Addi 17 0 2 ∷ Ecall ∷ [])) c.of.ensures
    ∙ returned_grown (data_of c.args.body.now) 0 c.args.types.now c.args.asm.now (loads_word 5 3) (Addi 17 0 2 ∷ Ecall ∷ []) c.in_ok-count.count c.spot_from_top-place.result.offset c.is_bool.result
    ∙ ap (λ n. with_instrs c.args.asm.now (loads_word 5 3 ++ give_words (data_of c.args.body.now) 0 c.args.types.now n c.spot_from_top-place.result.offset 0 c.is_bool.result ++ Addi 17 0 2 ∷ Ecall ∷ [])) ((c.in_ok-count.ensures {u = tt}).value)
    ∙ ap (λ n. with_instrs c.args.asm.now (loads_word 5 3 ++ give_words (data_of c.args.body.now) 0 c.args.types.now (min (words_of c.args.body.now.program.now c.args.kind.now) most_words) n 0 c.is_bool.result ++ Addi 17 0 2 ∷ Ecall ∷ [])) c.spot_from_top-place.ensures.offset
    ∙ ap (λ t. with_instrs c.args.asm.now (loads_word 5 3 ++ give_words (data_of c.args.body.now) 0 c.args.types.now (min (words_of c.args.body.now.program.now c.args.kind.now) most_words) (offset_of (data_of c.args.body.now) (held_count (data_of c.args.body.now) + (length c.args.types.now - 1))) 0 t ++ Addi 17 0 2 ∷ Ecall ∷ [])) c.is_bool.ensures

use Rattle.std.proofs.Common.{◌≡◌}
use Rattle.rv_codegen.specs.FrameWords.{moves_words}
use Rattle.rv_codegen.specs.Emitted.{with_instrs}
use Rattle.rv_codegen.proofs.moves.move_words.Given as goal

abbrev pub invariant-loop-i : goal.invariant-loop-i
invariant-loop-i l = l.asm ≡ with_instrs l.fn.asm (moves_words l.i l.from l.to)

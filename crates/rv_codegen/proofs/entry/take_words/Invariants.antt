use Rattle.std.proofs.Common.{◌≡◌}
use Rattle.rv_codegen.specs.PlainItems.{adapts, take_words}
use Rattle.rv_codegen.specs.Emitted.{data_of, with_instrs}
use Rattle.rv_codegen.proofs.entry.take_words.Given as goal

abbrev pub invariant-loop-i : goal.invariant-loop-i
invariant-loop-i l = l.asm ≡ with_instrs l.fn.asm (take_words (data_of l.body) (adapts (data_of l.body) l.number) l.i 0 l.offset)

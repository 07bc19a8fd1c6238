use Rattle.std.proofs.Common.{◌≡◌}
use Rattle.rv_codegen.specs.Forms.{gives}
use Rattle.rv_codegen.specs.Emitted.{with_instrs}
use Rattle.rv_codegen.proofs.returns.give_words.Given as goal

abbrev pub invariant-loop-i : goal.invariant-loop-i
invariant-loop-i l = l.asm ≡ with_instrs l.fn.asm (gives l.i l.offset 0 l.is_bool)

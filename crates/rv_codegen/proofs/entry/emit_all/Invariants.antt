use Rattle.std.proofs.Common.{◌≡◌, take}
use Rattle.rv_codegen.specs.Emitted.{with_instrs}
use Rattle.rv_codegen.proofs.entry.emit_all.Given as goal

abbrev pub invariant-loop-instr : goal.invariant-loop-instr
invariant-loop-instr l = l.asm ≡ with_instrs l.fn.asm (take l.instr-index l.instrs)

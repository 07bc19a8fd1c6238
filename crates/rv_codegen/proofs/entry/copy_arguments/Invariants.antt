use Rattle.std.proofs.Common.{◌≡◌}
use Rattle.rv_codegen.specs.PlainItems.{copies_arguments}
use Rattle.rv_codegen.specs.Emitted.{data_of, with_instrs}
use Rattle.rv_codegen.proofs.entry.copy_arguments.Given as goal

abbrev pub invariant-loop-i : goal.invariant-loop-i
invariant-loop-i l = l.asm ≡ with_instrs l.fn.asm (copies_arguments (data_of l.body) l.i 0)

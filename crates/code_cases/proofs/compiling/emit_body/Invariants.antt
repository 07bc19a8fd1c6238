use Rattle.std.proofs.Common.{length}
use Rattle.code_cases.specs.Made.{AreMade}
use Rattle.code_cases.proofs.compiling.emit_body.Given as goal

abbrev pub invariant-loop-instr : goal.invariant-loop-instr
invariant-loop-instr l = AreMade l.body.labels.now (length l.asm.places)

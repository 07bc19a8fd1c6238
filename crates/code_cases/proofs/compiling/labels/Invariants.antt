use Rattle.std.proofs.Common.{length}
use Rattle.code_cases.specs.Made.{AreMade}
use Rattle.code_cases.proofs.compiling.labels.Given as goal

abbrev pub invariant-loop : goal.invariant-loop
invariant-loop l = AreMade l.labels.items (length l.asm.places)

use Rattle.std.proofs.Common.{take}
use Rattle.cil_verify.specs.Sizes.{HasFewInstructions}
use Rattle.cil_verify.proofs.sizes.have_few_instructions.Given as goal

abbrev pub invariant-loop-method : goal.invariant-loop-method
invariant-loop-method l = HasFewInstructions (take l.method-index l.methods)

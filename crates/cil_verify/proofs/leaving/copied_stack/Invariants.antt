use Rattle.std.proofs.Common.{◌≡◌, take}
use Rattle.cil_verify.proofs.leaving.copied_stack.Given as goal

abbrev pub invariant-loop-kind : goal.invariant-loop-kind
invariant-loop-kind l = l.copy ≡ take l.kind-index l.stack

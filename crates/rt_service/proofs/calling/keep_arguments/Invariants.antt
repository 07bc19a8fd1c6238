use Rattle.std.proofs.Common.{◌≡◌, drop, length}
use Rattle.rgctx_fill.specs.CallServices.{with_kept}
use Rattle.rt_service.proofs.calling.keep_arguments.Given as goal

abbrev pub invariant-loop-number : goal.invariant-loop-number
invariant-loop-number l = (with_kept l.base l.number (drop l.number l.places) l.stack ≡ with_kept l.base 0 l.places l.initial.stack) × (length l.stack.words ≡ length l.initial.stack.words)

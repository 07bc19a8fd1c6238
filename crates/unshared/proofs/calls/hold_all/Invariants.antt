use Rattle.std.proofs.Common.{◌≡◌, ◌++◌, map, take}
use Rattle.unshared.specs.Forms.{the_value}
use Rattle.unshared.proofs.calls.hold_all.Given as goal

abbrev pub invariant-loop-value : goal.invariant-loop-value
invariant-loop-value l = map the_value l.held.items ≡ map the_value l.initial.held.items ++ map the_value (take l.value-index l.values)

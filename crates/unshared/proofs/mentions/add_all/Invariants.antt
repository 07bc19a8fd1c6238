use Rattle.std.proofs.Common.{◌≡◌, ◌++◌, take}
use Rattle.unshared.proofs.mentions.add_all.Given as goal

abbrev pub invariant-loop-kind : goal.invariant-loop-kind
invariant-loop-kind l = l.kinds ≡ l.initial.kinds ++ take l.kind-index l.more

use Rattle.std.proofs.Common.{◌≡◌, ◌+◌, ◌∷◌, take, min}
use Rattle.std.specs.Prelude.{sum_by}
use Rattle.type_tree.specs.Positions.{positions_of}
use Rattle.unshared.proofs.mentions.passes_positions.Given as goal

abbrev pub invariant-loop-kind : goal.invariant-loop-kind
invariant-loop-kind l = l.count ≡ min (1 + sum_by positions_of (l.method.class ∷ take l.kind-index l.kind-items)) 4294967295

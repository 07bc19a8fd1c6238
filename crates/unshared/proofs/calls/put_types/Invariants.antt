use Rattle.std.proofs.Common.{◌≡◌, map, take}
use Rattle.cil_meaning.specs.Naming.{put_type}
use Rattle.unshared.proofs.calls.put_types.Given as goal

abbrev pub invariant-loop-kind : goal.invariant-loop-kind
invariant-loop-kind l = l.all ≡ map (put_type l.method) (take l.kind-index l.kinds)

use Rattle.std.proofs.Common.{◌≡◌, ◌++◌, map, take}
use Rattle.cil_meaning.specs.Types.{put_place, zero_of}
use Rattle.unshared.specs.Forms.{the_value}
use Rattle.unshared.proofs.calls.add_zeros.Given as goal

abbrev pub invariant-loop-local : goal.invariant-loop-local
invariant-loop-local l = map the_value l.held.items ≡ map the_value l.initial.held.items ++ map (zero_of l.program) (map (put_place l.method) (take l.local-index l.locals))

use Rattle.std.proofs.Common.{true, ◌-◌, length, map, drop, reverse}
use Rattle.cil_verify.specs.Places.{view_of}
use Rattle.cil_verify.specs.Members.{place_at}
use Rattle.cil_verify.specs.Admits.{take_places}
use Rattle.cil_verify.specs.Taking.{Takes}
use Rattle.cil_verify.proofs.calls.take_arguments.Given as goal

abbrev pub invariant-loop-i : goal.invariant-loop-i
invariant-loop-i l =
    Takes (take_places (view_of l.program l.method) (reverse (map (place_at l.named) (drop (length l.named.params - l.i) l.named.params)))) true l.initial.stack l.stack

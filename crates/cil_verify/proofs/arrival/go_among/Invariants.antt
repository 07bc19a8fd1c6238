use Rattle.std.proofs.Common.{◌≡◌, length, drop}
use Rattle.cil_verify.specs.Places.{view_of}
use Rattle.cil_verify.specs.Arrivals.{stacks_of, gone_among}
use Rattle.cil_verify.proofs.arrival.go_among.Given as goal

abbrev pub invariant-loop-to : goal.invariant-loop-to
invariant-loop-to l =
    (length l.all ≡ length l.initial.all) ×
    (gone_among (view_of l.program l.method) (stacks_of l.states) l.at l.left l.targets l.initial.all
    ≡ gone_among (view_of l.program l.method) (stacks_of l.states) l.at l.left (drop l.to-index l.targets) l.all)

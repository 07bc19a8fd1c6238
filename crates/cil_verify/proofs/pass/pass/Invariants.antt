use Rattle.std.proofs.Common.{◌≡◌, take, None}
use Rattle.cil_verify.specs.Places.{view_of}
use Rattle.cil_verify.specs.States.{states_of, refused_before}
use Rattle.cil_verify.specs.Arrivals.{stacks_of, Knows}
use Rattle.cil_verify.proofs.pass.pass.Given as goal

abbrev pub invariant-loop-at : goal.invariant-loop-at
invariant-loop-at l =
    Knows (view_of l.program l.method) l.at l.all ×
    (stacks_of l.states ≡ take l.at (states_of (view_of l.program l.method))) ×
    (refused_before (view_of l.program l.method) (states_of (view_of l.program l.method)) l.at ≡ None)

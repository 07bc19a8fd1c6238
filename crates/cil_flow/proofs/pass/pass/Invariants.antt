use Rattle.std.proofs.Common.{◌≡◌, take, None}
use Rattle.cil_flow.specs.Depths.{depths_of}
use Rattle.cil_flow.specs.Flow.{fault_before}
use Rattle.cil_flow.specs.Pass.{Knows}
use Rattle.cil_flow.proofs.pass.pass.Given as goal

abbrev pub invariant-loop-at : goal.invariant-loop-at
invariant-loop-at l =
    Knows l.has_result l.body l.at l.arrived ×
    (l.depth ≡ take l.at (depths_of l.has_result l.body)) ×
    (fault_before l.has_result l.body (depths_of l.has_result l.body) l.at ≡ None)

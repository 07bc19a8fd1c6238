use Rattle.std.proofs.Common.{◌≡◌, None, take, find}
use Rattle.cil_flow.specs.Regions.{handler_of, begins}
use Rattle.cil_verify.proofs.pass.handler_at.Given as goal

abbrev pub invariant-loop-clause : goal.invariant-loop-clause
invariant-loop-clause l = find (λ c. begins (handler_of c) l.at) (take l.clause-index l.clauses) ≡ None

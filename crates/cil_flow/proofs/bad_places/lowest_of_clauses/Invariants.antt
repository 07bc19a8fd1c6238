use Rattle.std.proofs.Common.{◌≡◌, fold, drop}
use Rattle.cil_flow.specs.Regions.{lower, lowest, places_of_clauses}
use Rattle.cil_flow.proofs.bad_places.lowest_of_clauses.Given as goal

abbrev pub invariant-loop-clause : goal.invariant-loop-clause
invariant-loop-clause l =
    fold lower l.lowest (places_of_clauses l.count l.clauses (drop l.clause-index l.clauses)) ≡ lowest (places_of_clauses l.count l.clauses l.clauses)

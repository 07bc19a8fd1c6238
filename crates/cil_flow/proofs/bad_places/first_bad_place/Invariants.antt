use Rattle.std.proofs.Common.{◌≡◌, fold, drop}
use Rattle.cil_flow.specs.Regions.{lower, places_of_pairs, first_bad_place}
use Rattle.cil_flow.proofs.bad_places.first_bad_place.Given as goal

abbrev pub invariant-loop-i : goal.invariant-loop-i
invariant-loop-i l = fold lower l.lowest (places_of_pairs l.count (drop l.i l.clauses)) ≡ first_bad_place l.count l.clauses

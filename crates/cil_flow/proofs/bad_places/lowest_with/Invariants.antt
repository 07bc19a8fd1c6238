use Rattle.std.proofs.Common.{◌≡◌, fold, drop}
use Rattle.cil_flow.specs.Regions.{lower, places_with}
use Rattle.cil_flow.proofs.bad_places.lowest_with.Given as goal

abbrev pub invariant-loop-other : goal.invariant-loop-other
invariant-loop-other l =
    fold lower l.lowest (places_with l.count l.clause (drop l.other-index l.later)) ≡ fold lower l.initial.lowest (places_with l.count l.clause l.later)

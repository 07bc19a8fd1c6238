use Rattle.std.proofs.Common.{take}
use Rattle.il_parse.specs.Scopes.{FindsPlaces, library_names}
use Rattle.il_parse.proofs.class_places.library_places.Given as goal

abbrev pub invariant-loop-i : goal.invariant-loop-i
invariant-loop-i l = FindsPlaces (λ k. k.items) l.places (take l.i library_names)

use Rattle.std.proofs.Common.{take, map}
use Rattle.il_model.specs.Spellings.{plain_name}
use Rattle.il_parse.specs.Scopes.{FindsPlaces, declared_names}
use Rattle.il_parse.proofs.class_places.class_places.Given as goal

abbrev pub invariant-loop-i : goal.invariant-loop-i
invariant-loop-i l = FindsPlaces (λ k. k.items) l.places (map plain_name (declared_names (take l.i l.classes)))

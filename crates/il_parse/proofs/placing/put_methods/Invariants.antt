use Rattle.std.proofs.Common.{◌≡◌, ◌++◌, map, drop}
use Rattle.il_model.specs.Bounds.{all_methods}
use Rattle.il_parse.specs.Answer.{spots_of_method}
use Rattle.il_parse.proofs.placing.put_methods.Given as goal

abbrev pub invariant-loop-class : goal.invariant-loop-class
invariant-loop-class l = (l.found ++ map (spots_of_method l.initial.places) (all_methods (drop l.class-index l.classes)) ≡ l.initial.found ++ map (spots_of_method l.initial.places) (all_methods l.classes)) × (l.places ≡ l.initial.places)

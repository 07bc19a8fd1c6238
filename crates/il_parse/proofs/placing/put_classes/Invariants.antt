use Rattle.std.proofs.Common.{◌≡◌, ◌++◌, map, take}
use Rattle.il_parse.specs.Answer.{spots_of_class}
use Rattle.il_parse.proofs.placing.put_classes.Given as goal

abbrev pub invariant-loop-class : goal.invariant-loop-class
invariant-loop-class l = (l.found ≡ l.initial.found ++ map (spots_of_class l.initial.places) (take l.class-index l.classes)) × (l.places ≡ l.initial.places)

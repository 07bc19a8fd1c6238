use Rattle.std.proofs.Common.{◌≡◌, ◌++◌, map, take}
use Rattle.il_parse.specs.Places.{spots_of_library_class}
use Rattle.il_parse.proofs.placing.put_library_classes.Given as goal

abbrev pub invariant-loop-class : goal.invariant-loop-class
invariant-loop-class l = l.found ≡ l.initial.found ++ map spots_of_library_class (take l._class-index l._class-items)

use Rattle.std.proofs.Common.{◌≡◌, ◌++◌, map, take}
use Rattle.il_parse.specs.Answer.{spots_of_library_method}
use Rattle.il_parse.proofs.placing.put_library_methods.Given as goal

abbrev pub invariant-loop-method : goal.invariant-loop-method
invariant-loop-method l = l.found ≡ l.initial.found ++ map spots_of_library_method (take l.method-index l.method-items)

use Rattle.std.proofs.Common.{◌≡◌, true, take}
use Rattle.std.specs.List.{list_all}
use Rattle.il_model.specs.ClassRules.{meets_bounds}
use Rattle.cil_verify.specs.Places.{scope_of}
use Rattle.il_model.specs.Methods.{types_of_places}
use Rattle.cil_verify.proofs.method_heads.places_meet.Given as goal

abbrev pub invariant-loop-place : goal.invariant-loop-place
invariant-loop-place l = list_all (meets_bounds l.program (scope_of l.program l.method)) (types_of_places (take l.place-index l.places)) ≡ true

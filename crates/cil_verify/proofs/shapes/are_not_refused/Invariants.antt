use Rattle.std.proofs.Common.{◌≡◌, true, take}
use Rattle.std.specs.List.{list_all}
use Rattle.il_model.specs.Methods.{types_of_places}
use Rattle.cil_verify.specs.WellTyped.{is_not_refused}
use Rattle.cil_verify.proofs.shapes.are_not_refused.Given as goal

abbrev pub invariant-loop-place : goal.invariant-loop-place
invariant-loop-place l = list_all (is_not_refused l.program) (types_of_places (take l.place-index l.places)) ≡ true

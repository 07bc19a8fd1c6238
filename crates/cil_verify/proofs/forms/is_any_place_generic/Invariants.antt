use Rattle.std.proofs.Common.{◌≡◌, false, take}
use Rattle.std.specs.List.{list_any}
use Rattle.il_model.specs.Methods.{types_of_places}
use Rattle.cil_verify.specs.Forms.{is_generic}
use Rattle.cil_verify.proofs.forms.is_any_place_generic.Given as goal

abbrev pub invariant-loop-place : goal.invariant-loop-place
invariant-loop-place l = list_any is_generic (types_of_places (take l.place-index l.places)) ≡ false

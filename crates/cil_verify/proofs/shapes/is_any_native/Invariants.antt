use Rattle.std.proofs.Common.{◌≡◌, false, take}
use Rattle.std.specs.List.{list_any}
use Rattle.cil_verify.specs.WellTyped.{is_native_place}
use Rattle.cil_verify.proofs.shapes.is_any_native.Given as goal

abbrev pub invariant-loop-place : goal.invariant-loop-place
invariant-loop-place l = list_any is_native_place (take l.place-index l.places) ≡ false

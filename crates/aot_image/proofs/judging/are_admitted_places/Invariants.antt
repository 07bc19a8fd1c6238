use Rattle.std.proofs.Common.{◌≡◌, true, take}
use Rattle.std.specs.List.{list_all}
use Rattle.il_model.specs.Methods.{types_of_places}
use Rattle.aot_image.specs.ImageJudging.{is_admitted_with}
use Rattle.aot_image.proofs.judging.are_admitted_places.Given as goal

abbrev pub invariant-loop-place : goal.invariant-loop-place
invariant-loop-place l =
    list_all (is_admitted_with l.program l.class_args l.method_args) (types_of_places (take l.place-index l.places)) ≡ true

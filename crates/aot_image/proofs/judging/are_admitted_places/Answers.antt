use Rattle.std.proofs.Common.{◌≡◌, false, sym, ◌∙◌}
use Rattle.std.specs.List.{list_all}
use Rattle.il_model.specs.Methods.{type_of_place}
use Rattle.cil_verify.proofs.TreesLemmas.{part_fails}
use Rattle.aot_image.specs.ImageJudging.{is_admitted_with}
use Rattle.aot_image.proofs.judging.are_admitted_places.Goals as goal

pub returns-then-not-branch : goal.returns-then-not-branch
returns-then-not-branch c =
    let test = is_admitted_with c.args.program.now c.args.class_args.now c.args.method_args.now in
    let fails : list_all test (type_of_place c.place-item.result) ≡ false = sym (c.in_ok-is_admitted_place.ensures {u = tt}) ∙ c.if-not-branch.true in
    sym (part_fails test type_of_place c.args.places.now c.loop-place.place-index c.place-item.result c.loop-place-test.true c.place-item.is fails)

use Rattle.std.proofs.Common.{◌≡◌, false, sym, ◌∙◌}
use Rattle.std.specs.List.{list_all}
use Rattle.il_model.specs.Methods.{type_of_place}
use Rattle.cil_verify.specs.WellTyped.{is_not_refused}
use Rattle.cil_verify.proofs.TreesLemmas.{part_fails}
use Rattle.cil_verify.proofs.shapes.are_not_refused.Goals as goal

pub returns-then-not-branch : goal.returns-then-not-branch
returns-then-not-branch c =
    let test = is_not_refused c.args.program.now in
    let item = c.place-item.result in
    let fails : list_all test (type_of_place item) ≡ false = sym (c.in_ok-is_place_admitted.ensures {u = tt}) ∙ c.if-not-branch.true in
    sym (part_fails test type_of_place c.args.places.now c.loop-place.place-index item c.loop-place-test.true c.place-item.is fails)

use Rattle.std.proofs.Common.{◌≡◌, false, sym, ◌∙◌}
use Rattle.std.specs.List.{list_all}
use Rattle.il_model.specs.ClassRules.{meets_bounds}
use Rattle.cil_verify.specs.Places.{scope_of}
use Rattle.il_model.specs.Methods.{type_of_place}
use Rattle.cil_verify.proofs.TreesLemmas.{part_fails}
use Rattle.cil_verify.proofs.method_heads.places_meet.Goals as goal

pub returns-then-not-branch : goal.returns-then-not-branch
returns-then-not-branch c =
    let test = meets_bounds c.args.program.now (scope_of c.args.program.now c.args.method.now) in
    let item = c.place-item.result in
    let fails : list_all test (type_of_place item) ≡ false = sym (c.in_ok-place_meets.ensures {u = tt}) ∙ c.if-not-branch.true in
    sym (part_fails test type_of_place c.args.places.now c.loop-place.place-index item c.loop-place-test.true c.place-item.is fails)

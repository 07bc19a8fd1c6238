use Rattle.std.proofs.Common.{◌≡◌, true, sym, ◌∙◌}
use Rattle.std.specs.List.{list_any}
use Rattle.il_model.specs.Methods.{type_of_place}
use Rattle.cil_verify.specs.Forms.{is_generic}
use Rattle.cil_verify.proofs.ItemsLemmas.{part_any}
use Rattle.cil_verify.proofs.forms.is_any_place_generic.Goals as goal

pub returns-then-is_place_generic : goal.returns-then-is_place_generic
returns-then-is_place_generic c =
    let item = c.place-item.result in
    let passes : list_any is_generic (type_of_place item) ≡ true = sym c.is_place_generic.ensures ∙ c.if-is_place_generic.true in
    sym (part_any is_generic type_of_place c.args.places.now c.loop-place.place-index item c.loop-place-test.true c.place-item.is passes)

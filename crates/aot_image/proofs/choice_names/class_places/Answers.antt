use Rattle.std.proofs.Common.{◌∙◌, sym, ap, subst}
use Rattle.il_model.specs.Spellings.{plain_name}
use Rattle.il_model.specs.Names.{plain_names}
use Rattle.aot_image.specs.ChoosingNames.{FindsPlaces}
use Rattle.aot_image.proofs.ChoosingNameLemmas.{class_step}
use Rattle.std.proofs.Common.{take_all}
use Rattle.aot_image.proofs.choice_names.class_places.Goals as goal

pub loop-i-preserved : goal.loop-i-preserved
loop-i-preserved c =
    class_step (λ k. k.items) c.loop-i.places c.add_name.new.places c.args.classes.now c.loop-i.i c.index-classes-i.result c.in_ok-name.name.items
    c.loop-i-test.true c.index-classes-i.is
    ((c.in_ok-name.ensures {u = tt}) ∙ c.plain_name.ensures ∙ ap plain_name (c.as_bytes.ensures.value ∙ c.text.ensures) ∙ ap (λ d. plain_name d.name) (sym c.index-classes-i.is))
    c.loop-i.invariant (c.in_ok-add_name.ensures {u = tt})

pub returns : goal.returns
returns c = subst (λ cs. FindsPlaces (λ k. k.items) c.loop-i.places (plain_names cs)) (take_all c.loop-i.i c.args.classes.now c.loop-i-test.false) c.loop-i.invariant

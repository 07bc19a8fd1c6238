use Rattle.std.proofs.Common.{◌∙◌, ap, map}
use Rattle.il_model.specs.Spellings.{plain_name}
use Rattle.il_model.proofs.NamesLemmas.{is_new, next_name}
use Rattle.il_model.proofs.names.known_names.Goals as goal

pub add-requires : goal.add-requires
add-requires c =
    is_new (map (λ k. k.items) c.loop-class.known.keys) c.args.classes.now c.loop-class.class-index c.class-item.result c.in_ok-name.name.items
    c.loop-class-test.true c.class-item.is
    (c.in_ok-name.ensures {u = tt} ∙ c.plain_name.ensures ∙ ap plain_name (c.as_bytes.ensures.value ∙ c.text.ensures))
    c.loop-class.invariant c.requires.distinct

pub loop-class-preserved : goal.loop-class-preserved
loop-class-preserved c =
    next_name (map (λ k. k.items) c.loop-class.known.keys) c.args.classes.now c.loop-class.class-index c.class-item.result c.in_ok-name.name.items
    c.loop-class-test.true c.class-item.is
    (c.in_ok-name.ensures {u = tt} ∙ c.plain_name.ensures ∙ ap plain_name (c.as_bytes.ensures.value ∙ c.text.ensures))
    c.loop-class.invariant (map (λ k. k.items) c.add.new.known.keys) (c.in_ok-add.ensures {u = tt})

use Rattle.std.proofs.Common.{◌≡◌, ◌<◌, ◌++◌, ◌∷◌, [], arith}
use Rattle.il_model.specs.declared.entry.Entry.TheVariants as entry
use Rattle.rgctx_template.proofs.CollectedLemmas.{slots_next}
use Rattle.rgctx_template.proofs.templating.template_of_class.Goals as goal

pub loop-number-preserved : goal.loop-number-preserved
loop-number-preserved c =
    let below : c.loop-number.number < c.args.count = omega arith in
    let pushed : c.push.new.self ≡ c.loop-number.entries ++ entry.Slot c.loop-number.number ∷ [] = (c.in-Ok.ensures {u = tt}).ok in
    slots_next c.loop-number.number c.args.count c.loop-number.entries c.push.new.self below pushed c.loop-number.invariant

use Rattle.aot_image.proofs.ChoosingNameLemmas.{method_step}
use Rattle.aot_image.proofs.choice_names.method_places.Goals as goal

pub loop-i-preserved : goal.loop-i-preserved
loop-i-preserved c =
    method_step (λ k. k.items) c.args.program.now c.loop-i.places c.add_name.new.places c.loop-i.counts c.next_text.new.counts
    c.as_slice-methods.result.now c.loop-i.i c.index-methods-i.result c.in_ok-text.text.items c.loop-i-test.true c.index-methods-i.is
    c.loop-i.invariant (c.in_ok-text.ensures {u = tt}).counts (c.in_ok-text.ensures {u = tt}).text (c.in_ok-add_name.ensures {u = tt})

use Rattle.std.proofs.Common.{[], ◌∷◌, get_or}
use Rattle.il_model.specs.Canonical.{spaced_after, comma, label_text}
use Rattle.il_print.proofs.WordLemmas.{one_more, comma_word}
use Rattle.il_print.proofs.operands.put_more_labels.Goals as goal

pub loop-place-preserved : goal.loop-place-preserved
loop-place-preserved c =
    one_more (λ n. spaced_after (comma ∷ label_text c.args.labels.now n ∷ [])) c.args.to.now c.loop-place.place-index c.args.text.now c.loop-place.text c.put_label.new.text
    c.loop-place-test.true c.loop-place.invariant
    (comma_word (label_text c.args.labels.now (get_or c.args.to.now c.loop-place.place-index 0)) c.loop-place.text c.put.new.self c.put_label.new.text c.in_ok-put.ensures c.in_ok-put_label.ensures)

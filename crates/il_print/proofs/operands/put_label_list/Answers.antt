use Rattle.std.proofs.Common.{[], ◌∷◌, append-nil}
use Rattle.il_model.specs.Canonical.{comma, label_text}
use Rattle.il_print.proofs.WordLemmas.{all_parts}
use Rattle.il_print.proofs.operands.put_label_list.Goals as goal

pub returns-in_ok-put_more_labels-in-Some : goal.returns-in_ok-put_more_labels-in-Some
returns-in_ok-put_more_labels-in-Some c =
    all_parts comma (λ n. label_text c.args.labels.now n ∷ []) c.args.to.now c.in-Some.first.now c.in-Some.rest.now
    c.args.text.now c.put_label.new.text c.put_more_labels.new.text c.in-Some.ensures.cases.0
    (rw append-nil c.in_ok-put_label-in-Some.ensures) c.in_ok-put_more_labels-in-Some.ensures

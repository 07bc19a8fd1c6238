use Rattle.std.proofs.Common.{[], ◌∷◌, map}
use Rattle.il_model.specs.Canonical.{between, comma, label_text}
use Rattle.il_print.proofs.WordLemmas.{in_parentheses}
use Rattle.il_print.proofs.operands.put_labels.Goals as goal

pub returns : goal.returns
returns c =
    in_parentheses (between comma (map (λ n. label_text c.args.labels.now n ∷ []) c.args.to.now)) c.args.text.now c.put.new.self
    c.put_label_list.new.text c.put-2.new.self c.in_ok-put.ensures c.in_ok-put_label_list.ensures c.in_ok-put-2.ensures

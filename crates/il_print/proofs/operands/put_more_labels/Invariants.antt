use Rattle.std.proofs.Common.{◌≡◌, ◌++◌, [], ◌∷◌, flat_map, take}
use Rattle.il_model.specs.Canonical.{spaced_after, comma, label_text}
use Rattle.il_print.proofs.operands.put_more_labels.Given as goal

abbrev pub invariant-loop-place : goal.invariant-loop-place
invariant-loop-place l = l.text ≡ l.initial.text ++ flat_map (λ n. spaced_after (comma ∷ label_text l.labels n ∷ [])) (take l.place-index l.to)

use Rattle.std.proofs.Common.{◌≡◌, ◌++◌, [], ◌∷◌, flat_map, take}
use Rattle.il_model.specs.Canonical.{spaced_after, comma, type_text}
use Rattle.il_print.specs.ClassNames.{names_of}
use Rattle.il_print.proofs.members.put_more_types.Given as goal

abbrev pub invariant-loop-kind : goal.invariant-loop-kind
invariant-loop-kind l = l.text ≡ l.initial.text ++ flat_map (λ t. spaced_after (comma ∷ type_text (names_of l.classes) t ∷ [])) (take l.kind-index l.types)

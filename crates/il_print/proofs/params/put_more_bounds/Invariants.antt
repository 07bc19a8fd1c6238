use Rattle.std.proofs.Common.{◌≡◌, ◌++◌, [], ◌∷◌, codes, flat_map, take}
use Rattle.il_model.specs.Canonical.{spaced_after, type_text}
use Rattle.il_print.specs.ClassNames.{names_of}
use Rattle.il_print.proofs.params.put_more_bounds.Given as goal

abbrev pub invariant-loop-bound : goal.invariant-loop-bound
invariant-loop-bound l = l.text ≡ l.initial.text ++ flat_map (λ p. spaced_after (codes "&" ∷ type_text (names_of l.classes) p ∷ [])) (take l.bound-index l.bounds)

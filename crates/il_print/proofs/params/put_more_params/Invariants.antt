use Rattle.std.proofs.Common.{◌≡◌, ◌++◌, ◌∷◌, flat_map, take}
use Rattle.il_model.specs.Canonical.{spaced_after, comma, param_words}
use Rattle.il_print.specs.ClassNames.{names_of}
use Rattle.il_print.proofs.params.put_more_params.Given as goal

abbrev pub invariant-loop-param : goal.invariant-loop-param
invariant-loop-param l = l.text ≡ l.initial.text ++ flat_map (λ p. spaced_after (comma ∷ param_words (names_of l.classes) p)) (take l.param-index l.params)

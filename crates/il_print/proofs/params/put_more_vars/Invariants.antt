use Rattle.std.proofs.Common.{◌≡◌, ◌++◌, ◌∷◌, flat_map, take}
use Rattle.il_model.specs.Canonical.{spaced_after, comma, var_words}
use Rattle.il_print.specs.ClassNames.{names_of}
use Rattle.il_print.proofs.params.put_more_vars.Given as goal

abbrev pub invariant-loop-var : goal.invariant-loop-var
invariant-loop-var l = l.text ≡ l.initial.text ++ flat_map (λ p. spaced_after (comma ∷ var_words (names_of l.classes) p)) (take l.var-index l.vars)

use Rattle.std.proofs.Common.{◌≡◌, ◌++◌, flat_map, take}
use Rattle.il_model.specs.Canonical.{line, clause_words}
use Rattle.il_print.specs.Parts.{lines_text}
use Rattle.il_print.proofs.bodies.put_clauses.Given as goal

abbrev pub invariant-loop-clause : goal.invariant-loop-clause
invariant-loop-clause l = l.text ≡ l.initial.text ++ lines_text (flat_map (λ c. line 2 (clause_words l.scope c c.sort)) (take l.clause-index l.clauses))

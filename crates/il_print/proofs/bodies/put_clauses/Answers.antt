use Rattle.std.proofs.Common.{◌++◌, flat_map, sym, ap, ◌∙◌}
use Rattle.std.proofs.lemmas.List.{take_all}
use Rattle.il_model.specs.Canonical.{line, clause_words}
use Rattle.il_print.specs.Parts.{lines_text}
use Rattle.il_print.proofs.LineLemmas.{clause_lines_are}
use Rattle.il_print.proofs.bodies.put_clauses.Goals as goal

pub returns : goal.returns
returns c =
    c.loop-clause.invariant
    ∙ ap (λ cs. c.args.text.now ++ lines_text (flat_map (λ clause. line 2 (clause_words c.args.scope.now clause clause.sort)) cs))
    (take_all c.loop-clause.clause-index c.args.clauses.now c.loop-clause-test.false)
    ∙ ap (λ lines. c.args.text.now ++ lines_text lines) (sym (clause_lines_are c.args.scope.now c.args.clauses.now))

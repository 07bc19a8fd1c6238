use Rattle.std.proofs.Common.{◌≡◌, true, sym, ◌∙◌}
use Rattle.std.specs.List.{list_any}
use Rattle.il_model.specs.declared.method.Clause.{Clause}
use Rattle.cil_verify.specs.WellTyped.{type_of_sort}
use Rattle.cil_verify.specs.Forms.{is_generic}
use Rattle.cil_verify.proofs.ItemsLemmas.{part_any}
use Rattle.cil_verify.proofs.forms.is_any_clause_generic.Goals as goal

pub returns-then-is_sort_generic : goal.returns-then-is_sort_generic
returns-then-is_sort_generic c =
    let item = c.clause-item.result in
    let passes : list_any is_generic (type_of_sort item.sort) ≡ true = sym c.is_sort_generic.ensures ∙ c.if-is_sort_generic.true in
    sym (part_any is_generic (λ (k : Clause). type_of_sort k.sort) c.args.clauses.now c.loop-clause.clause-index item c.loop-clause-test.true c.clause-item.is passes)

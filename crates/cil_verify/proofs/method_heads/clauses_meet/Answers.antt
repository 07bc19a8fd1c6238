use Rattle.std.proofs.Common.{◌≡◌, false, sym, ◌∙◌}
use Rattle.std.specs.List.{list_all}
use Rattle.il_model.specs.declared.method.Clause.{Clause}
use Rattle.il_model.specs.ClassRules.{meets_bounds}
use Rattle.cil_verify.specs.Places.{scope_of}
use Rattle.cil_verify.specs.WellTyped.{type_of_sort}
use Rattle.cil_verify.proofs.TreesLemmas.{part_fails}
use Rattle.cil_verify.proofs.method_heads.clauses_meet.Goals as goal

pub returns-then-not-branch : goal.returns-then-not-branch
returns-then-not-branch c =
    let test = meets_bounds c.args.program.now (scope_of c.args.program.now c.args.method.now) in
    let item = c.clause-item.result in
    let fails : list_all test (type_of_sort item.sort) ≡ false = sym (c.in_ok-sort_meets.ensures {u = tt}) ∙ c.if-not-branch.true in
    sym (part_fails test (λ (k : Clause). type_of_sort k.sort) c.args.clauses.now c.loop-clause.clause-index item c.loop-clause-test.true c.clause-item.is fails)

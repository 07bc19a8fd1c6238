use Rattle.std.proofs.Common.{◌≡◌, false, List, sym, ap, ◌∙◌}
use Rattle.std.specs.List.{list_all}
use Rattle.type_tree.specs.declared.tree.TExpr.{TExpr}
use Rattle.il_model.specs.declared.class.VarDef.{VarDef}
use Rattle.il_model.specs.Assignable.{Bounded}
use Rattle.il_model.specs.ClassRules.{meets_bounds}
use Rattle.cil_verify.proofs.TreesLemmas.{part_fails}
use Rattle.cil_verify.proofs.bounds.all_bounds_meet.Goals as goal

pub returns-then-not-branch : goal.returns-then-not-branch
returns-then-not-branch c =
    let scope : Bounded = record { of_class = c.args.of_class.now; of_method = c.args.of_method.now } in
    let test = meets_bounds c.args.program.now scope in
    let fails : list_all test c.var-item.result.bounds ≡ false =
    ap (λ (ts : List TExpr). list_all test ts) (sym c.as_slice.ensures) ∙ sym (c.in_ok-all_meet.ensures {u = tt}) ∙ c.if-not-branch.true in
    sym (part_fails test (λ (v : VarDef). v.bounds) c.args.vars.now c.loop-var.var-index c.var-item.result c.loop-var-test.true c.var-item.is fails)

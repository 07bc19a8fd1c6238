use Rattle.std.proofs.Common.{◌≡◌, false, List, sym, ap, ◌∙◌}
use Rattle.std.specs.List.{list_all}
use Rattle.type_tree.specs.declared.tree.TExpr.{TExpr}
use Rattle.il_model.specs.declared.class.VarDef.{VarDef}
use Rattle.il_model.specs.ClassRules.{has_counts}
use Rattle.cil_verify.proofs.TreesLemmas.{part_fails}
use Rattle.cil_verify.proofs.hierarchy.have_bound_counts.Goals as goal

pub returns-then-not-have_counts : goal.returns-then-not-have_counts
returns-then-not-have_counts c =
    let test = has_counts c.args.program.now in
    let fails : list_all test c.var-item.result.bounds ≡ false =
    ap (λ (ts : List TExpr). list_all test ts) (sym c.as_slice.ensures) ∙ sym c.have_counts.ensures ∙ c.if-not-have_counts.true in
    sym (part_fails test (λ (v : VarDef). v.bounds) c.args.vars.now c.loop-var.var-index c.var-item.result c.loop-var-test.true c.var-item.is fails)

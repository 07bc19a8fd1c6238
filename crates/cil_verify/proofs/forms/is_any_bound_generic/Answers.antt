use Rattle.std.proofs.Common.{◌≡◌, true, List, sym, ap, ◌∙◌}
use Rattle.std.specs.List.{list_any}
use Rattle.type_tree.specs.declared.tree.TExpr.{TExpr}
use Rattle.il_model.specs.declared.class.VarDef.{VarDef}
use Rattle.cil_verify.specs.Forms.{is_generic}
use Rattle.cil_verify.proofs.ItemsLemmas.{part_any}
use Rattle.cil_verify.proofs.forms.is_any_bound_generic.Goals as goal

pub returns-then-is_any_generic : goal.returns-then-is_any_generic
returns-then-is_any_generic c =
    let item = c.var-item.result in
    let passes : list_any is_generic item.bounds ≡ true =
    ap (λ (ts : List TExpr). list_any is_generic ts) (sym c.as_slice.ensures) ∙ sym c.is_any_generic.ensures ∙ c.if-is_any_generic.true in
    sym (part_any is_generic (λ (v : VarDef). v.bounds) c.args.vars.now c.loop-var.var-index item c.loop-var-test.true c.var-item.is passes)

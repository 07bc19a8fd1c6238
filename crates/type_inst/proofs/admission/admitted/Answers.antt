use Rattle.std.proofs.Common.{◌≡◌, true, false, List, Option, Some, subst, sym, ap, ◌∙◌}
use Rattle.std.specs.List.{list_any}
use Rattle.type_tree.specs.declared.tree.TExpr.{TExpr}
use Rattle.il_model.specs.Admission.{is_wide}
use Rattle.type_inst.specs.Reaching.{Limited}
use Rattle.type_inst.proofs.AdmissionLemmas.{limit_large, limit_wide, limit_none}
use Rattle.type_inst.proofs.admission.admitted.Goals as goal

pub returns-in_default : goal.returns-in_default
returns-in_default c = tt

pub returns-in_default-reach : goal.returns-in_default-reach
returns-in_default-reach c =
    let p = c.args.program.now in
    let t = c.args.tree.now in
    limit_large p t (subst (λ (o : Option (List TExpr)). Limited p t o) c.in_default-reach.is (c.in-Ok.ensures {u = tt}))

pub returns-in-Ok-true : goal.returns-in-Ok-true
returns-in-Ok-true c =
    let p = c.args.program.now in
    let t = c.args.tree.now in
    let found : Limited p t (Some c.in-Some.found) = subst (λ (o : Option (List TExpr)). Limited p t o) c.in-Some.is (c.in-Ok.ensures {u = tt}) in
    let wide : list_any (is_wide p) c.in-Some.found ≡ true =
    ap (λ (ts : List TExpr). list_any (is_wide p) ts) (sym c.as_slice.ensures) ∙ sym (c.in-Ok-true.ensures {u = tt}) ∙ c.in-Ok-true.field-0-test in
    limit_wide p t c.in-Some.found found wide

pub returns-in-Ok-false : goal.returns-in-Ok-false
returns-in-Ok-false c =
    let p = c.args.program.now in
    let t = c.args.tree.now in
    let found : Limited p t (Some c.in-Some.found) = subst (λ (o : Option (List TExpr)). Limited p t o) c.in-Some.is (c.in-Ok.ensures {u = tt}) in
    let wide : list_any (is_wide p) c.in-Some.found ≡ false =
    ap (λ (ts : List TExpr). list_any (is_wide p) ts) (sym c.as_slice.ensures) ∙ sym (c.in-Ok-false.ensures {u = tt}) ∙ c.in-Ok-false.field-0-test in
    limit_none p t c.in-Some.found found wide

pub returns : goal.returns
returns c = tt

use Rattle.std.proofs.Common.{◌≡◌, Bool, true, List, IfOk, sym, ap, subst, ◌∙◌}
use Rattle.std.specs.List.{list_all}
use Rattle.type_tree.specs.declared.tree.TExpr.{TExpr}
use Rattle.il_model.specs.Assignable.{Bounded}
use Rattle.il_model.specs.ClassRules.{meets_own_bounds, meets_bounds}
use Rattle.cil_verify.proofs.TreesLemmas.{node_passes}
use Rattle.cil_verify.proofs.bounds.+meets_bounds.Goals as goal

pub meets_bounds-returns-in-Node : goal.meets_bounds-returns-in-Node
meets_bounds-returns-in-Node t c =
    let p = c.args.program.now in
    let scope : Bounded = record { of_class = c.args.of_class.now; of_method = c.args.of_method.now } in
    let passes : meets_own_bounds p scope c.args.kind.now ≡ true = sym (c.in_ok-meets_own_bounds.ensures {u = tt}) ∙ c.if-not-branch.false in
    subst (λ (b : Bool). IfOk c.all_meet.result (λ answer. answer ≡ b))
    (ap (λ (ts : List TExpr). list_all (meets_bounds p scope) ts) c.as_slice.ensures
    ∙ node_passes (meets_own_bounds p scope) c.args.kind.now c.in-Node.field-0 c.in-Node.parts (sym c.top.ensures ∙ c.in-Node.is) passes)
    c.all_meet.ensures

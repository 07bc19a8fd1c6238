use Rattle.std.proofs.Common.{List, IfOk, length, subst, ap, ◌∙◌, ◌≡◌}
use Rattle.type_tree.specs.declared.tree.TExpr.{TExpr}
use Rattle.type_inst.specs.Listing.{listed}
use Rattle.type_inst.proofs.HierarchyLemmas.{listed_interfaces}
use Rattle.type_inst.proofs.implementing.interfaces.Goals as goal

pub returns : goal.returns
returns c =
    let p = c.args.program.now in
    subst (λ (xs : List TExpr). IfOk c.into_items.result (λ all. all ≡ xs))
    ((c.in_ok-list.ensures {u = tt})
    ∙ ap (λ levels. listed p levels c.new-all.result c.args.tree.now) c.len.ensures
    ∙ ap (λ (all : List TExpr). listed p (length p.classes) all c.args.tree.now) c.new-all.ensures
    ∙ listed_interfaces p c.requires.hierarchy c.args.tree.now)
    c.into_items.ensures

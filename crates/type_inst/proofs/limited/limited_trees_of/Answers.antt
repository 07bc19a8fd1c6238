use Rattle.std.proofs.Common.{◌≡◌, ◌∙◌, sym, subst, List, flat_map, IfOk}
use Rattle.type_tree.specs.declared.tree.TExpr.{TExpr}
use Rattle.il_model.specs.Trees.{trees_in}
use Rattle.il_model.specs.Admission.{closure_of}
use Rattle.type_inst.specs.Reaching.{SmallOf}
use Rattle.type_inst.proofs.LimitedLemmas.{limited_large}
use Rattle.type_inst.proofs.limited.limited_trees_of.Goals as goal

pub returns-then-is_large : goal.returns-then-is_large
returns-then-is_large c = limited_large c.args.program.now c.args.tree.now (sym c.is_large.ensures ∙ c.if-is_large.true)

pub returns : goal.returns
returns c =
    let roots : c.as_slice.result.now ≡ trees_in c.args.tree.now = c.as_slice.ensures ∙ (c.in_ok-roots.ensures {u = tt}) in
    subst (λ (xs : List TExpr). IfOk c.closures_of.result (λ found. SmallOf (flat_map (closure_of c.args.program.now) xs) found)) roots c.closures_of.ensures

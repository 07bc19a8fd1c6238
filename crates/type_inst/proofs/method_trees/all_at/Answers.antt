use Rattle.std.proofs.Common.{rules, ◌≡◌, ◌++◌, ◌∷◌, [], List, sym, ap, ◌∙◌}
use Rattle.type_tree.specs.declared.tree.TExpr.{TExpr}
use Rattle.il_model.specs.Bases.{with_args_of}
use Rattle.type_inst.proofs.SearchLemmas.{map_more}
use Rattle.type_inst.proofs.method_trees.all_at.Goals as goal

pub loop-part-preserved : goal.loop-part-preserved
loop-part-preserved c =
    let kind = c.args.kind.now in
    let item = c.part-item.result in
    let pushed : c.push.new.self ≡ c.loop-part.all ++ with_args_of kind item ∷ [] = search rules in
    pushed
    ∙ ap (λ (all : List TExpr). all ++ with_args_of kind item ∷ []) c.loop-part.invariant
    ∙ sym (map_more (with_args_of kind) c.args.parts.now c.loop-part.part-index item c.loop-part-test.true c.part-item.is)

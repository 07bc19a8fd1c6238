use Rattle.std.proofs.Common.{rules, ◌≡◌, ◌<◌, ◌++◌, ◌∷◌, [], List, length, sym, ap, ◌∙◌, arith}
use Rattle.type_tree.specs.declared.tree.TExpr.{TExpr}
use Rattle.type_tree.specs.Tree.{class_var}
use Rattle.type_inst.proofs.DefinitionLemmas.{variables_more}
use Rattle.cil_verify.proofs.hierarchy.variables.Goals as goal

pub loop-i-preserved : goal.loop-i-preserved
loop-i-preserved c =
    let i = c.loop-i.i in
    let inside : i < length c.args.vars.now = c.loop-i-test.true in
    let pushed : c.push.new.self ≡ c.loop-i.all ++ class_var i ∷ [] = search rules in
    pushed ∙ ap (λ (all : List TExpr). all ++ class_var i ∷ []) c.loop-i.invariant ∙ sym (variables_more c.args.vars.now i inside)

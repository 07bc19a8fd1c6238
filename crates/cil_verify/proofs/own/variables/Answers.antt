use Rattle.std.proofs.Common.{rules, ◌≡◌, ◌<◌, ◌++◌, ◌∷◌, [], List, length, sym, ap, ◌∙◌, arith}
use Rattle.type_tree.specs.declared.tree.TExpr.{TExpr}
use Rattle.type_tree.specs.Tree.{class_var}
use Rattle.type_inst.proofs.DefinitionLemmas.{variables_more}
use Rattle.cil_verify.proofs.own.variables.Goals as goal

pub loop-i-preserved : goal.loop-i-preserved
loop-i-preserved c =
    let i = c.loop-i.i in
    let inside : i < length c.args.class.now.vars = omega (arith, c.loop-i-test.true, c.len-i-end.ensures) in
    let pushed : c.push.new.self ≡ c.loop-i.all ++ class_var i ∷ [] = search rules in
    pushed ∙ ap (λ (all : List TExpr). all ++ class_var i ∷ []) c.loop-i.invariant ∙ sym (variables_more c.args.class.now.vars i inside)

use Rattle.std.proofs.Common.{◌≡◌, ℕ, false, is_some, sym, ◌∙◌}
use Rattle.std.specs.List.{list_all}
use Rattle.type_tree.specs.declared.tree.TExpr.{TExpr}
use Rattle.il_model.specs.Slots.{match_of_place}
use Rattle.type_inst.specs.Matching.{own_places}
use Rattle.cil_verify.proofs.TreesLemmas.{part_fails}
use Rattle.cil_verify.proofs.class_rules.finds_all.Goals as goal

pub returns-then-not-branch : goal.returns-then-not-branch
returns-then-not-branch c =
    let p = c.args.program.now in
    let test = λ (place : TExpr × ℕ). is_some (match_of_place p c.args.own.now place) in
    let item = c.each-item.result in
    let fails : list_all test (own_places p item) ≡ false = sym (c.in_ok-finds_own.ensures {u = tt}) ∙ c.if-not-branch.true in
    sym (part_fails test (own_places p) c.args.listed.now c.loop-each.each-index item c.loop-each-test.true c.each-item.is fails)

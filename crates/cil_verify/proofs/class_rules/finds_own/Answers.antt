use Rattle.std.proofs.Common.{◌≡◌, ℕ, false, is_some, List, map, get_or, refl, sym, ap, ◌∙◌}
use Rattle.std.specs.List.{list_all}
use Rattle.type_tree.specs.declared.tree.TExpr.{TExpr}
use Rattle.il_model.specs.Slots.{match_of_place}
use Rattle.cil_verify.proofs.ItemsLemmas.{number_fails}
use Rattle.cil_verify.proofs.class_rules.finds_own.Goals as goal

pub returns-then-not-branch : goal.returns-then-not-branch
returns-then-not-branch c =
    let p = c.args.program.now in
    let test = λ (place : TExpr × ℕ). is_some (match_of_place p c.args.own.now place) in
    let pair : ℕ → TExpr × ℕ = λ number. (c.args.interface.now, number) in
    let items = c.own_methods_of-number-items.result.now in
    let i = c.loop-number.number-index in
    let fails : test (pair (get_or items i 0)) ≡ false = sym (c.in_ok-finds_one.ensures {u = tt}) ∙ c.if-not-branch.true in
    sym (ap (λ (ns : List ℕ). list_all test (map pair ns)) (sym c.own_methods_of-number-items.ensures) ∙ number_fails test pair items i c.loop-number-test.true fails)

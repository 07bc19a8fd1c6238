use Rattle.std.proofs.Common.{◌≡◌, ◌<◌, ◌≤◌, ℕ, suc, ◌+◌, true, false, List, [], length, nat_lt, fold, slice_get, subst, sym, ap, ◌∙◌, arith}
use Rattle.std.specs.List.{list_any}
use Rattle.std.proofs.lemmas.Bool.{ltb-true, ltb-false}
use Rattle.type_tree.specs.declared.tree.TExpr.{TExpr}
use Rattle.il_model.specs.Trees.{with_new}
use Rattle.il_model.specs.Layouts.{most_trees}
use Rattle.il_model.specs.Admission.{is_large}
use Rattle.cil_verify.specs.TypeSets.{listed_in}
use Rattle.cil_verify.specs.Closures.{steps_from}
use Rattle.type_inst.proofs.ListLemmas.{joined}
use Rattle.cil_verify.proofs.ClosingLemmas.{Walk, first_all, roots_large, roots_many, step_large, step_many, next_all, closed_all}
use Rattle.cil_verify.proofs.closing.closures.Goals as goal

pub returns-then-has_large : goal.returns-then-has_large
returns-then-has_large c = roots_large c.args.program.now c.args.roots.now (sym c.has_large.ensures ∙ c.if-has_large.true)

pub returns-then-has_many : goal.returns-then-has_many
returns-then-has_many c =
    let all = listed_in c.add_all.new.all in
    let is : all ≡ joined [] c.args.roots.now = (c.in_ok-add_all.ensures {u = tt}) ∙ ap (λ (ts : List TExpr). joined ts c.args.roots.now) c.new-all.ensures in
    roots_many c.args.program.now c.args.roots.now all is (ltb-true most_trees (length all) (sym c.has_many.ensures ∙ c.if-has_many.true))

pub walk-init : goal.walk-init
walk-init c =
    let all = listed_in c.add_all.new.all in
    let is : all ≡ joined [] c.args.roots.now = (c.in_ok-add_all.ensures {u = tt}) ∙ ap (λ (ts : List TExpr). joined ts c.args.roots.now) c.new-all.ensures in
    first_all c.args.program.now c.args.roots.now all is (sym c.has_large.ensures ∙ c.if-has_large.false)
    (ltb-false most_trees (length all) (sym c.has_many.ensures ∙ c.if-has_many.false))

pub returns-then-has_large-2 : goal.returns-then-has_large-2
returns-then-has_large-2 c =
    let p = c.args.program.now in
    let all = listed_in c.walk.all in
    let here : c.walk.at < length all = omega (arith, c.walk-test.true, c.len.ensures) in
    let large : list_any is_large c.in_ok-steps.steps ≡ true =
    ap (λ (ts : List TExpr). list_any is_large ts) (sym c.as_slice.ensures) ∙ sym c.has_large-in-walk.ensures ∙ c.if-has_large-2.true in
    step_large p c.args.roots.now c.walk.at all c.walk.invariant here c.in_ok-steps.steps (c.in_ok-steps.ensures {u = tt}) large

pub returns-then-has_many-2 : goal.returns-then-has_many-2
returns-then-has_many-2 c =
    let p = c.args.program.now in
    let all = listed_in c.walk.all in
    let new = listed_in c.add_all-in-walk.new.all in
    let here : c.walk.at < length all = omega (arith, c.walk-test.true, c.len.ensures) in
    let is : new ≡ joined all c.in_ok-steps.steps = (c.in_ok-add_all-2.ensures {u = tt}) ∙ ap (λ (ts : List TExpr). joined all ts) c.as_slice-in-walk.ensures in
    step_many p c.args.roots.now c.walk.at all c.walk.invariant here c.in_ok-steps.steps new (c.in_ok-steps.ensures {u = tt}) is
    (ltb-true most_trees (length new) (sym c.has_many-in-walk.ensures ∙ c.if-has_many-2.true))

pub walk-preserved : goal.walk-preserved
walk-preserved c =
    let p = c.args.program.now in
    let all = listed_in c.walk.all in
    let new = listed_in c.add_all-in-walk.new.all in
    let here : c.walk.at < length all = omega (arith, c.walk-test.true, c.len.ensures) in
    let is : new ≡ joined all c.in_ok-steps.steps = (c.in_ok-add_all-2.ensures {u = tt}) ∙ ap (λ (ts : List TExpr). joined all ts) c.as_slice-in-walk.ensures in
    let small : list_any is_large c.in_ok-steps.steps ≡ false =
    ap (λ (ts : List TExpr). list_any is_large ts) (sym c.as_slice.ensures) ∙ sym c.has_large-in-walk.ensures ∙ c.if-has_large-2.false in
    let up : suc c.walk.at ≡ c.walk.at + 1 = omega arith in
    subst (λ (n : ℕ). Walk p c.args.roots.now n new) up
    (next_all p c.args.roots.now c.walk.at all c.walk.invariant here c.in_ok-steps.steps new (c.in_ok-steps.ensures {u = tt}) is small
    (ltb-false most_trees (length new) (sym c.has_many-in-walk.ensures ∙ c.if-has_many-2.false)))

pub returns : goal.returns
returns c =
    let all = listed_in c.walk.all in
    let over : length all ≤ c.walk.at = omega (arith, c.walk-test.false, c.len.ensures) in
    closed_all c.args.program.now c.args.roots.now c.walk.at all c.walk.invariant over

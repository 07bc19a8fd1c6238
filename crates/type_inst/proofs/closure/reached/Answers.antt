use Rattle.std.proofs.Common.{◌≡◌, ◌+◌, ◌≤◌, ◌<◌, ℕ, suc, true, false, List, [], ◌∷◌, ◌++◌, flat_map, fold, subst, sym, ap, ◌∙◌, arith}
use Rattle.std.specs.List.{list_any}
use Rattle.type_tree.specs.declared.tree.TExpr.{TExpr}
use Rattle.il_model.specs.Admission.{steps_of, closure_within, is_large}
use Rattle.il_model.specs.Trees.{with_new}
use Rattle.type_inst.specs.Reaching.{spread_one, TestAlike}
use Rattle.type_inst.proofs.ListLemmas.{joined}
use Rattle.type_inst.proofs.ClosureLemmas.{SameMembers, Layered, same_any, layered_first, layered_step, layered_whole, layered_done, layered_large, spread_is}
use Rattle.type_inst.proofs.closure.reached.Goals as goal

pub loop-init : goal.loop-init
loop-init c =
    let p = c.args.program.now in
    let root = c.args.root.now in
    let small : is_large root ≡ false = sym c.is_large.ensures ∙ c.if-is_large.false in
    let all : c.add.new.all ≡ root ∷ [] =
    (c.in_ok-add.ensures {u = tt}).list ∙ ap (λ (xs : List TExpr). with_new xs root) c.new-all.ensures in
    let fresh : c.put.new.all ≡ root ∷ [] =
    (c.in_ok-put.ensures {u = tt})
    ∙ ap (λ (xs : List TExpr). xs ++ c.in_ok-copy.field-0 ∷ []) c.new-fresh.ensures
    ∙ ap (λ (x : TExpr). x ∷ []) (c.in_ok-copy.ensures {u = tt}) in
    subst (λ (xs : List TExpr). Layered p root 0 xs c.put.new.all) (sym all)
    (subst (λ (xs : List TExpr). Layered p root 0 (root ∷ []) xs) (sym fresh) (layered_first p root small))

pub loop-preserved : goal.loop-preserved
loop-preserved c =
    let p = c.args.program.now in
    let root = c.args.root.now in
    let put = c.in_ok-next.ensures {u = tt} in
    let steps : c.spread.new.all ≡ joined c.loop.all (flat_map (steps_of p) c.loop.fresh) =
    put.steps ∙ ap (λ (xs : List TExpr). fold (spread_one p) c.loop.all xs) c.as_slice.ensures ∙ spread_is p c.loop.fresh c.loop.all in
    let small : list_any is_large c.in_ok-next.next ≡ false =
    ap (λ (xs : List TExpr). list_any is_large xs) (sym c.as_slice-in-loop.ensures) ∙ sym c.has_large.ensures ∙ c.if-has_large.false in
    let count : suc c.loop.counter ≡ c.loop.counter + 1 = omega arith in
    subst (λ (n : ℕ). Layered p root n c.spread.new.all c.in_ok-next.next) count
    (layered_step p root c.loop.counter c.loop.all c.loop.fresh c.spread.new.all c.in_ok-next.next c.loop.invariant steps put.put small)

pub returns-then-is_empty : goal.returns-then-is_empty
returns-then-is_empty c =
    let p = c.args.program.now in
    let root = c.args.root.now in
    let none : c.loop.fresh ≡ [] = c.is_empty.ensures.0 c.if-is_empty.true in
    let le : c.loop.counter ≤ c.args.levels = omega (arith, c.loop-test.true) in
    let done : Layered p root c.loop.counter c.loop.all [] = subst (λ (xs : List TExpr). Layered p root c.loop.counter c.loop.all xs) none c.loop.invariant in
    subst (λ (xs : List TExpr). (list_any is_large xs ≡ false) × TestAlike xs (closure_within p c.args.levels root)) (sym (c.in_ok-into_items.ensures {u = tt}))
    (c.loop.invariant.small, λ test. same_any test c.loop.all (closure_within p c.args.levels root) (layered_done p root c.loop.counter c.args.levels c.loop.all le done))

pub returns-then-has_large : goal.returns-then-has_large
returns-then-has_large c =
    let p = c.args.program.now in
    let root = c.args.root.now in
    let put = c.in_ok-next.ensures {u = tt} in
    let less : c.loop.counter < c.args.levels = omega (arith, c.loop-test.true) in
    let steps : c.spread.new.all ≡ joined c.loop.all (flat_map (steps_of p) c.loop.fresh) =
    put.steps ∙ ap (λ (xs : List TExpr). fold (spread_one p) c.loop.all xs) c.as_slice.ensures ∙ spread_is p c.loop.fresh c.loop.all in
    let large : list_any is_large c.in_ok-next.next ≡ true =
    ap (λ (xs : List TExpr). list_any is_large xs) (sym c.as_slice-in-loop.ensures) ∙ sym c.has_large.ensures ∙ c.if-has_large.true in
    layered_large p root c.loop.counter c.args.levels c.loop.all c.loop.fresh c.spread.new.all c.in_ok-next.next less c.loop.invariant steps put.put large

pub returns : goal.returns
returns c =
    let p = c.args.program.now in
    let root = c.args.root.now in
    let over : c.loop.counter ≡ c.args.levels = omega (arith, c.loop.auto.counter-end, c.loop-test.false) in
    let same : SameMembers c.loop.all (closure_within p c.args.levels root) =
    subst (λ (n : ℕ). SameMembers c.loop.all (closure_within p n root)) over (layered_whole p root c.loop.counter c.loop.all c.loop.fresh c.loop.invariant) in
    subst (λ (xs : List TExpr). (list_any is_large xs ≡ false) × TestAlike xs (closure_within p c.args.levels root)) (sym (c.in_ok-into_items-2.ensures {u = tt}))
    (c.loop.invariant.small, λ test. same_any test c.loop.all (closure_within p c.args.levels root) same)

use Rattle.std.proofs.Common.{◌≡◌, ◌≤◌, false, List, Option, length, flat_map, take, subst, sym, refl, arith}
use Rattle.std.specs.List.{list_any}
use Rattle.type_tree.specs.declared.tree.TExpr.{TExpr}
use Rattle.il_model.specs.Admission.{closure_of, is_large}
use Rattle.type_inst.specs.Reaching.{TestAlike, SmallOf}
use Rattle.type_inst.proofs.LimitedLemmas.{take_all, part_large, part_more}
use Rattle.type_inst.proofs.limited.closures_of.Goals as goal

pub loop-root-init : goal.loop-root-init
loop-root-init c =
    subst (λ (xs : List TExpr). (list_any is_large xs ≡ false) × TestAlike xs (flat_map (closure_of c.args.program.now) (take 0 c.args.roots.now)))
    (sym c.new-all.ensures) (refl, λ test. refl)

pub returns-in_default : goal.returns-in_default
returns-in_default c =
    let large = subst (λ (o : Option (List TExpr)). SmallOf (closure_of c.args.program.now c.root-item.result) o) c.in_default.is (c.in_ok-reach.ensures {u = tt}) in
    part_large (closure_of c.args.program.now) c.args.roots.now c.loop-root.root-index c.root-item.result c.loop-root-test.true c.root-item.is large

pub loop-root-preserved : goal.loop-root-preserved
loop-root-preserved c =
    let small = subst (λ (o : Option (List TExpr)). SmallOf (closure_of c.args.program.now c.root-item.result) o) c.in-Some.is (c.in_ok-reach.ensures {u = tt}) in
    part_more (closure_of c.args.program.now) c.args.roots.now c.loop-root.root-index c.root-item.result c.loop-root.all c.in-Some.found c.put_all.new.all
    c.loop-root-test.true c.root-item.is (c.in_ok-put_all.ensures {u = tt}) c.loop-root.invariant small

pub returns : goal.returns
returns c =
    let over : length c.args.roots.now ≤ c.loop-root.root-index = omega (arith, c.loop-root-test.false) in
    subst (λ (xs : List TExpr). (list_any is_large c.loop-root.all ≡ false) × TestAlike c.loop-root.all (flat_map (closure_of c.args.program.now) xs))
    (take_all c.args.roots.now c.loop-root.root-index over) c.loop-root.invariant

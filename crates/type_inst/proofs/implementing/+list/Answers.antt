use Rattle.std.proofs.Common.{◌≡◌, ◌+◌, ◌<◌, List, Option, length, map, fold, take, subst, sym, ap, ◌∙◌}
use Rattle.type_tree.specs.declared.tree.TExpr.{TExpr}
use Rattle.il_model.specs.declared.class.ClassDef.{ClassDef}
use Rattle.il_model.specs.Bases.{with_args_of}
use Rattle.il_model.specs.Interfaces.{interfaces_in, own_interfaces_of}
use Rattle.type_inst.specs.Listing.{listed_one}
use Rattle.type_inst.proofs.ListLemmas.{fold_mapped}
use Rattle.type_inst.proofs.implementing.+list.Goals as goal

pub list_own-loop-named-preserved : goal.list_own-loop-named-preserved
list_own-loop-named-preserved t c =
    let p = c.args.program.now in
    let kind = c.args.kind.now in
    let items = c.as_slice-named-items.result.now in
    let i = c.loop-named.named-index in
    let item = c.named-item.result in
    let step = listed_one p c.args.levels in
    let own : own_interfaces_of p kind ≡ map (with_args_of kind) items =
    ap (λ (o : Option ClassDef). map (with_args_of kind) (interfaces_in o)) (sym (c.in-Some.ensures {u = tt}))
    ∙ ap (map (with_args_of kind)) (sym c.as_slice-named-items.ensures) in
    let inside : i < length items = c.loop-named-test.true in
    (c.in_ok-list_one.ensures {u = tt})
    ∙ ap (λ (x : TExpr). step c.loop-named.all x) (c.in_ok-each.ensures {u = tt})
    ∙ ap (λ (all : List TExpr). step all (with_args_of kind item)) c.loop-named.invariant
    ∙ subst (λ (each : List TExpr). step (fold step c.args.all.now (take i each)) (with_args_of kind item) ≡ fold step c.args.all.now (take (i + 1) each)) (sym own)
    (sym (fold_mapped step (with_args_of kind) c.args.all.now items i item inside c.named-item.is))

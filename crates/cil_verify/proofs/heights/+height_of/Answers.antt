use Rattle.std.proofs.Common.{◌≡◌, ℕ, suc, ◌+◌, ◌-◌, ◌≤◌, max, List, [], ◌∷◌, ◌++◌, filter_map, slice_get, take, drop, Option, Some, None, option_to_list, subst, sym, ap, ◌∙◌, arith}
use Rattle.std.proofs.lemmas.List.Elements.{filter_map-append}
use Rattle.type_tree.specs.declared.tree.TExpr.{TExpr}
use Rattle.il_model.specs.declared.class.ClassDef.{ClassDef}
use Rattle.il_model.specs.Find.{class_number_of}
use Rattle.cil_verify.specs.Heights.{AreAsHigh, AreHeights, EndsAt}
use Rattle.cil_verify.proofs.HeightLemmas.{numbers_more, numbers_apart, class_ends, class_fails, heights_one_more, both_end, first_fails, second_fails, heights_kept}
use Rattle.cil_verify.proofs.heights.+height_of.Goals as goal

pub height_above-returns-clause-value : goal.height_above-returns-clause-value
height_above-returns-clause-value t c =
    let p = c.args.program.now in
    let levels = c.args.levels in
    let bases = option_to_list c.args.class.now.base in
    let others = c.args.class.now.interfaces in
    let a = c.in_ok-base.base in
    let b = c.in_ok-interfaces.interfaces in
    let second : EndsAt p levels (filter_map class_number_of others) (Some b) =
    subst (λ (ts : List TExpr). EndsAt p levels (filter_map class_number_of ts) (Some b)) c.as_slice.ensures (c.in_ok-interfaces.ensures {u = tt}).value in
    let both : EndsAt p levels (filter_map class_number_of bases ++ filter_map class_number_of others) (Some (max a b)) =
    both_end p levels (filter_map class_number_of bases) (filter_map class_number_of others) a b (c.in_ok-base.ensures {u = tt}).value second in
    let all : EndsAt p levels (filter_map class_number_of (bases ++ others)) (Some (max a b)) =
    subst (λ (ns : List ℕ). EndsAt p levels ns (Some (max a b))) (sym (filter_map-append class_number_of bases others)) both in
    subst (λ (h : ℕ). EndsAt p levels (filter_map class_number_of (bases ++ others)) (Some h)) (sym c.higher.ensures) all

pub height_of-returns-in_err-above-clause-value : goal.height_of-returns-in_err-above-clause-value
height_of-returns-in_err-above-clause-value t c =
    let p = c.args.program.now in
    let here : slice_get p.classes c.args.number ≡ Some c.in-Some.class.now = sym (c.in-Some.ensures {u = tt}) in
    rw c.from_residual.ensures (class_fails p c.args.levels (c.args.levels - 1) c.args.number c.in-Some.class.now (omega arith) here (c.in_err-above.ensures {u = tt}).value)

pub height_of-returns-clause-known : goal.height_of-returns-clause-known
height_of-returns-clause-known t c =
    let p = c.args.program.now in
    let here : slice_get p.classes c.args.number ≡ Some c.in-Some.class.now = sym (c.in-Some.ensures {u = tt}) in
    let found = c.in_ok-above.ensures {u = tt} in
    let high : AreAsHigh p (c.args.number ∷ []) (c.in_ok-above.above + 1) =
    heights_one_more p c.args.number c.in_ok-above.above (c.in_ok-above.above + 1) c.in-Some.class.now (omega arith) here found.value.1 in
    subst (λ (hs : List ℕ). AreHeights p hs) (sym c.keep_height.ensures)
    (heights_kept p c.height_above.new.heights c.args.number (c.in_ok-above.above + 1) found.known high)

pub height_of-returns-clause-value : goal.height_of-returns-clause-value
height_of-returns-clause-value t c =
    let p = c.args.program.now in
    let here : slice_get p.classes c.args.number ≡ Some c.in-Some.class.now = sym (c.in-Some.ensures {u = tt}) in
    class_ends p c.args.levels (c.args.levels - 1) c.args.number c.in_ok-above.above (c.in_ok-above.above + 1) c.in-Some.class.now (omega arith) (omega arith) here (c.in_ok-above.ensures {u = tt}).value

pub height_of_all-returns-in_err-height-clause-value : goal.height_of_all-returns-in_err-height-clause-value
height_of_all-returns-in_err-height-clause-value t c =
    let p = c.args.program.now in
    let ts = c.args.kinds.now in
    let i = c.loop-each.each-index in
    let item = c.each-item.result in
    let front = filter_map class_number_of (take i ts) in
    let mid = option_to_list (class_number_of item) in
    let back = filter_map class_number_of (drop (i + 1) ts) in
    rw c.from_residual.ensures
    (subst (λ (ns : List ℕ). EndsAt p c.args.levels ns None) (sym (numbers_apart ts i item c.loop-each-test.true c.each-item.is))
    (second_fails p c.args.levels front (mid ++ back) (first_fails p c.args.levels mid back (c.in_err-height.ensures {u = tt}).value)))

pub height_of_all-loop-each-preserved : goal.height_of_all-loop-each-preserved
height_of_all-loop-each-preserved t c =
    let p = c.args.program.now in
    let ts = c.args.kinds.now in
    let i = c.loop-each.each-index in
    let item = c.each-item.result in
    let front = filter_map class_number_of (take i ts) in
    let mid = option_to_list (class_number_of item) in
    let both : EndsAt p c.args.levels (front ++ mid) (Some (max c.loop-each.top c.in_ok-height.height)) =
    both_end p c.args.levels front mid c.loop-each.top c.in_ok-height.height c.loop-each.invariant.1 (c.in_ok-height.ensures {u = tt}).value in
    let all : EndsAt p c.args.levels (filter_map class_number_of (take (i + 1) ts)) (Some (max c.loop-each.top c.in_ok-height.height)) =
    subst (λ (ns : List ℕ). EndsAt p c.args.levels ns (Some (max c.loop-each.top c.in_ok-height.height))) (sym (numbers_more ts i item c.loop-each-test.true c.each-item.is)) both in
    ((c.in_ok-height.ensures {u = tt}).known, subst (λ (h : ℕ). EndsAt p c.args.levels (filter_map class_number_of (take (i + 1) ts)) (Some h)) (sym c.higher-top.ensures) all)

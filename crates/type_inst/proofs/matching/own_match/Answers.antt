use Rattle.std.proofs.Common.{ℕ, get_or, sym, ◌∙◌}
use Rattle.il_model.specs.Found.{method_at}
use Rattle.il_model.specs.Signatures.{signature_at}
use Rattle.il_model.specs.Slots.{own_methods_of, is_match}
use Rattle.type_inst.proofs.SearchLemmas.{get_or_same, find_passed, find_reached}
use Rattle.type_inst.proofs.matching.own_match.Goals as goal

pub returns-then-branch : goal.returns-then-branch
returns-then-branch c =
    let p = c.args.program.now in
    let each = c.args.each.now in
    let items = c.own_methods_of-number-items.result.now in
    let i = c.loop-number.number-index in
    let item = get_or items i 0 in
    sym (find_reached (λ (number : ℕ). is_match (signature_at c.args.kind.now c.args.method.now) each (method_at p number))
    items (own_methods_of p each) c.own_methods_of-number-items.ensures i item
    c.loop-number-test.true (get_or_same items i 0 item c.loop-number-test.true) c.loop-number.invariant (sym (c.in_ok-is_match.ensures {u = tt}) ∙ c.if-branch.true))

pub loop-number-preserved : goal.loop-number-preserved
loop-number-preserved c =
    let p = c.args.program.now in
    let each = c.args.each.now in
    let items = c.own_methods_of-number-items.result.now in
    let i = c.loop-number.number-index in
    let item = get_or items i 0 in
    find_passed (λ (number : ℕ). is_match (signature_at c.args.kind.now c.args.method.now) each (method_at p number))
    items (own_methods_of p each) c.own_methods_of-number-items.ensures i item
    c.loop-number-test.true (get_or_same items i 0 item c.loop-number-test.true) c.loop-number.invariant (sym (c.in_ok-is_match.ensures {u = tt}) ∙ c.if-branch.false)

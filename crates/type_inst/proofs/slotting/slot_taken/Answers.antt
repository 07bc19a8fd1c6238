use Rattle.std.proofs.Common.{◌≡◌, ◌==◌, ℕ, true, false, Option, Some, find, option_map, get_or, sym, ap, arith}
use Rattle.std.proofs.lemmas.Bool.Decides.{nat_tests}
use Rattle.type_inst.proofs.SearchLemmas.{get_or_same, find_passed, find_reached}
use Rattle.type_inst.proofs.slotting.slot_taken.Goals as goal

pub returns-then-taken-number : goal.returns-then-taken-number
returns-then-taken-number c =
    let all = c.args.slots.now.taken in
    let items = c.as_slice-taken-items.result.now in
    let i = c.loop-taken.taken-index in
    let item = get_or items i (0, 0) in
    let here : (item.0 == c.args.number) ≡ true = grind (arith, nat_tests, c.if-taken-number.true) in
    let found : find (λ (t : ℕ × ℕ). t.0 == c.args.number) all ≡ Some item =
    find_reached (λ (t : ℕ × ℕ). t.0 == c.args.number) items all c.as_slice-taken-items.ensures i item
    c.loop-taken-test.true (get_or_same items i (0, 0) item c.loop-taken-test.true) c.loop-taken.invariant here in
    sym (ap (λ (o : Option (ℕ × ℕ)). option_map (λ t. t.1) o) found)

pub loop-taken-preserved : goal.loop-taken-preserved
loop-taken-preserved c =
    let items = c.as_slice-taken-items.result.now in
    let i = c.loop-taken.taken-index in
    let item = get_or items i (0, 0) in
    let here : (item.0 == c.args.number) ≡ false = grind (arith, nat_tests, c.if-taken-number.false) in
    find_passed (λ (t : ℕ × ℕ). t.0 == c.args.number) items c.args.slots.now.taken c.as_slice-taken-items.ensures i item
    c.loop-taken-test.true (get_or_same items i (0, 0) item c.loop-taken-test.true) c.loop-taken.invariant here

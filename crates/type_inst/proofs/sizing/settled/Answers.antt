use Rattle.std.proofs.Common.{◌≡◌, ◌≤◌, ℕ, List, ap, ◌∙◌, sym, arith}
use Rattle.type_inst.specs.Sizing.{next_round}
use Rattle.type_inst.proofs.SizingLemmas.{settled_from}
use Rattle.type_inst.proofs.sizing.settled.Goals as goal

pub returns-then-is_same_list-clause-words : goal.returns-then-is_same_list-clause-words
returns-then-is_same_list-clause-words c =
    let most = c.args.most in
    let rows = c.args.rows.now in
    let le : c.loop.counter ≤ c.args.levels = omega (arith, c.loop-test.true) in
    let step : c.in_ok-next.next ≡ next_round most rows c.loop.now = c.in_ok-next.ensures {u = tt} ∙ ap (λ (ws : List ℕ). next_round most rows ws) c.as_slice.ensures in
    let still : c.in_ok-next.next ≡ c.loop.now = sym c.as_slice-in-loop.ensures ∙ c.is_same_list.ensures c.if-is_same_list.true ∙ c.as_slice-in-loop-2.ensures in
    (settled_from most rows c.loop.counter c.args.levels c.loop.now c.in_ok-next.next c.loop.invariant step still le).0

pub returns-then-is_same_list-clause-still : goal.returns-then-is_same_list-clause-still
returns-then-is_same_list-clause-still c =
    let most = c.args.most in
    let rows = c.args.rows.now in
    let le : c.loop.counter ≤ c.args.levels = omega (arith, c.loop-test.true) in
    let step : c.in_ok-next.next ≡ next_round most rows c.loop.now = c.in_ok-next.ensures {u = tt} ∙ ap (λ (ws : List ℕ). next_round most rows ws) c.as_slice.ensures in
    let still : c.in_ok-next.next ≡ c.loop.now = sym c.as_slice-in-loop.ensures ∙ c.is_same_list.ensures c.if-is_same_list.true ∙ c.as_slice-in-loop-2.ensures in
    λ _. (settled_from most rows c.loop.counter c.args.levels c.loop.now c.in_ok-next.next c.loop.invariant step still le).1

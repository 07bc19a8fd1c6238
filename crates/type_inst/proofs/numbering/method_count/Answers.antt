use Rattle.std.proofs.Common.{◌≡◌, ◌≤◌, ◌<◌, ◌+◌, List, ℕ, length, take, ap, arith}
use Rattle.il_model.specs.Slots.{own_methods_of, method_count}
use Rattle.type_inst.proofs.NumberingLemmas.{counted_more, counted_most}
use Rattle.type_inst.proofs.numbering.method_count.Goals as goal

pub overflow_add-count : goal.overflow_add-count
overflow_add-count c =
    let p = c.args.program.now in
    let listed = c.args.listed.now in
    let i = c.loop-i.i in
    let inside : i < length listed = omega (arith, c.loop-i-test.true, c.requires.inside) in
    let own : length c.own_methods_of.result.now ≡ length (own_methods_of p c.index-listed-i.result) = ap (λ (ms : List ℕ). length ms) c.own_methods_of.ensures in
    let before : c.loop-i.count ≡ method_count p (take i listed) = c.loop-i.invariant in
    let few : method_count p listed ≤ 224 = c.requires.few in
    omega (arith, own, before, few, counted_more p listed i c.index-listed-i.result inside c.index-listed-i.is, counted_most p listed (i + 1))

pub loop-i-preserved : goal.loop-i-preserved
loop-i-preserved c =
    let p = c.args.program.now in
    let listed = c.args.listed.now in
    let i = c.loop-i.i in
    let inside : i < length listed = omega (arith, c.loop-i-test.true, c.requires.inside) in
    let own : length c.own_methods_of.result.now ≡ length (own_methods_of p c.index-listed-i.result) = ap (λ (ms : List ℕ). length ms) c.own_methods_of.ensures in
    let before : c.loop-i.count ≡ method_count p (take i listed) = c.loop-i.invariant in
    let whole : c.loop-i.count + length c.own_methods_of.result.now ≡ method_count p (take (i + 1) listed) =
    omega (arith, own, before, counted_more p listed i c.index-listed-i.result inside c.index-listed-i.is) in
    whole

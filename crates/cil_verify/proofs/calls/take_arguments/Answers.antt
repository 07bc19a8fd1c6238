use Rattle.std.proofs.Common.{◌≡◌, ◌+◌, ◌-◌, ◌<◌, ◌≤◌, ◌∙◌, subst, List, length, map, drop, reverse, get_or, ap, arith}
use Rattle.il_model.specs.declared.method.PType.{PType}
use Rattle.cil_verify.specs.Places.{view_of}
use Rattle.cil_verify.specs.Members.{place_at}
use Rattle.cil_verify.specs.Admits.{take_places}
use Rattle.cil_verify.specs.Taking.{Takes}
use Rattle.cil_verify.proofs.CallLemmas.{none_taken, one_taken, call_stops, all_taken}
use Rattle.cil_verify.proofs.calls.take_arguments.Goals as goal

pub loop-i-init : goal.loop-i-init
loop-i-init c = none_taken (view_of c.args.program.now c.args.method.now) c.args.named.now c.args.stack.now

pub returns-then-not-branch : goal.returns-then-not-branch
returns-then-not-branch c =
    let m = c.args.named.now in
    let inside : c.loop-i.i < length m.params = omega (arith, c.loop-i-test.true, ap (λ (ps : List PType). length ps) c.as_slice-params.ensures) in
    let read : c.index-params-params.result ≡ get_or m.params (length m.params - 1 - c.loop-i.i) c.index-params-params.result =
    c.index-params-params.is ∙ ap (λ (ps : List PType). get_or ps (length ps - 1 - c.loop-i.i) c.index-params-params.result) c.as_slice-params.ensures in
    call_stops (view_of c.args.program.now c.args.method.now) m (length m.params - (c.loop-i.i + 1)) c.in_ok-take_for_place.field-0 c.args.stack.now c.take_for_place.new.stack
    (one_taken (view_of c.args.program.now c.args.method.now) m c.loop-i.i c.index-params-params.result c.in_ok-place.place c.in_ok-take_for_place.field-0 c.args.stack.now c.loop-i.stack c.take_for_place.new.stack
    inside read (c.in_ok-place.ensures {u = tt}) c.loop-i.invariant (c.in_ok-take_for_place.ensures {u = tt}))
    c.if-not-branch.true

pub loop-i-preserved : goal.loop-i-preserved
loop-i-preserved c =
    let m = c.args.named.now in
    let inside : c.loop-i.i < length m.params = omega (arith, c.loop-i-test.true, ap (λ (ps : List PType). length ps) c.as_slice-params.ensures) in
    let read : c.index-params-params.result ≡ get_or m.params (length m.params - 1 - c.loop-i.i) c.index-params-params.result =
    c.index-params-params.is ∙ ap (λ (ps : List PType). get_or ps (length ps - 1 - c.loop-i.i) c.index-params-params.result) c.as_slice-params.ensures in
    subst (λ b. Takes (take_places (view_of c.args.program.now c.args.method.now) (reverse (map (place_at m) (drop (length m.params - (c.loop-i.i + 1)) m.params)))) b c.args.stack.now c.take_for_place.new.stack)
    c.if-not-branch.false
    (one_taken (view_of c.args.program.now c.args.method.now) m c.loop-i.i c.index-params-params.result c.in_ok-place.place c.in_ok-take_for_place.field-0 c.args.stack.now c.loop-i.stack c.take_for_place.new.stack
    inside read (c.in_ok-place.ensures {u = tt}) c.loop-i.invariant (c.in_ok-take_for_place.ensures {u = tt}))

pub returns : goal.returns
returns c =
    let m = c.args.named.now in
    let end : length m.params ≤ c.loop-i.i = omega (arith, ap (λ (ps : List PType). length ps) c.as_slice-params.ensures) in
    all_taken (view_of c.args.program.now c.args.method.now) m c.loop-i.i c.args.stack.now c.loop-i.stack end c.loop-i.invariant

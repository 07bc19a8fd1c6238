use Rattle.std.proofs.Common.{◌≡◌, [], ◌∷◌, ◌++◌, length, sym, ap, ◌∙◌, arith, vec_len}
use Rattle.rgctx_fill.specs.Steps.{head_number, step_with, types_steps, types_places}
use Rattle.rgctx_fill.proofs.LoopLemmas.{steps-next, places-next, own-steps}
use Rattle.rgctx_fill.proofs.planning.+planning.Goals as goal

pub add_types-loop-kind-preserved : goal.add_types-loop-kind-preserved
add_types-loop-kind-preserved t c =
    let old = c.args.steps.now in
    let now = c.loop-kind.steps in
    let more = c.add_type.new.steps in
    let n : vec_len old ≡ length old.items = omega (arith, old.ok.0) in
    let m : vec_len now ≡ length now.items = omega (arith, now.ok.0) in
    let k : c.len.result ≡ length more.items = omega (arith, more.ok.0, c.len.ensures) in
    let made = c.in_ok-add_type.ensures {u = tt} in
    record {
      steps = steps-next old.items c.args.kinds.now c.loop-kind.kind-index c.kind-item.result now.items more.items (vec_len old) (vec_len now) (omega (arith, c.loop-kind-test.true)) c.kind-item.is n m
          c.loop-kind.invariant.steps made;
      places = places-next c.args.places.now.items old.items c.args.kinds.now c.loop-kind.kind-index c.kind-item.result now.items more.items c.loop-kind.places.items c.put_place.new.places.items (vec_len old) (vec_len now) c.len.result
          (omega (arith, c.loop-kind-test.true)) c.kind-item.is n m k c.loop-kind.invariant.steps made c.loop-kind.invariant.places (c.in_ok-put_place.ensures {u = tt});
    }

pub add_type-returns-in_ok-put_step-in-Node : goal.add_type-returns-in_ok-put_step-in-Node
add_type-returns-in_ok-put_step-in-Node t c =
    let n = vec_len c.args.steps.now in
    let head = c.in-Node.head in
    let parts = c.in-Node.parts in
    let places = c.add_types.new.places.items in
    let added = c.in_ok-add_types-in-Node.ensures {u = tt} in
    let steps_are : c.add_types.new.steps.items ≡ c.args.steps.now.items ++ types_steps parts n = added.steps ∙ ap (λ ts. c.args.steps.now.items ++ types_steps ts n) c.as_slice.ensures in
    let places_are : places ≡ types_places parts n =
    added.places ∙ ap (λ ps. ps ++ types_places c.as_slice.result.now n) c.new-places.ensures.items ∙ ap (λ ts. types_places ts n) c.as_slice.ensures in
    let own : c.step_with.result ≡ step_with (head_number head) places =
    c.step_with.ensures ∙ ap (λ d. step_with d c.as_slice-in-Node.result.now) c.head_number.ensures ∙ ap (step_with (head_number head)) c.as_slice-in-Node.ensures.value in
    own-steps c.args.kind.now head parts c.args.steps.now.items c.add_types.new.steps.items c.put_step.new.steps.items places n (sym c.top.ensures ∙ c.in-Node.is) steps_are places_are
    (c.in_ok-put_step-in-Node.ensures {u = tt} ∙ ap (λ s. c.add_types.new.steps.items ++ s ∷ []) own)

use Rattle.std.proofs.Common.{◌≡◌, ◌∙◌, ◌+◌, ◌<◌, Some, length, sym, ap, arith}
use Rattle.std.specs.Prelude.{slice_get}
use Rattle.std.proofs.lemmas.Option.{slice_get_past}
use Rattle.interaction.specs.Object.{chosen_below, is_active, live_threads}
use Rattle.store_object.specs.Replay.{store}
use Rattle.schedules.proofs.LiveLemmas.{stands_behind}
use Rattle.schedules.proofs.started.Started.live_at.Goals as goal

pub returns-in-Ok : goal.returns-in-Ok
returns-in-Ok c = λ s h.
    let test = is_active store s in
    let number : c.in-Ok.number ≡ c.loop-thread.thread = (c.in-Ok.ensures {u = tt}).1 in
    let count : length c.as_slice-finished.result.now ≡ length s.finished = ap length (c.as_slice-finished.ensures.value ∙ h.finished) in
    let inside : c.loop-thread.thread < length s.finished = omega (arith, count, c.loop-thread-test.true) in
    let place : c.args.place ≡ length (chosen_below test c.loop-thread.thread) = omega (arith, c.loop-thread.invariant s h, c.if-left-eq0.true) in
    ap Some number ∙ sym (ap (slice_get (live_threads store s)) place ∙ stands_behind test c.loop-thread.thread (length s.finished) inside (sym (c.if-is_live.ensures {u = tt} s h)))

pub returns : goal.returns
returns c = λ s h.
    let count : length c.as_slice-finished.result.now ≡ length s.finished = ap length (c.as_slice-finished.ensures.value ∙ h.finished) in
    let all : c.loop-thread.thread ≡ length s.finished = omega (arith, count, c.loop-thread-test.false, c.loop-thread.auto.thread-end) in
    let many : c.args.place ≡ length (chosen_below (is_active store s) c.loop-thread.thread) + c.loop-thread.left = c.loop-thread.invariant s h in
    let same : length (chosen_below (is_active store s) c.loop-thread.thread) ≡ length (live_threads store s) = ap (λ n. length (chosen_below (is_active store s) n)) all in
    sym (slice_get_past (live_threads store s) c.args.place (omega (arith, many, same)))

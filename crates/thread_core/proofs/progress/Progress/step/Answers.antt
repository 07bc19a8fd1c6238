use Rattle.std.proofs.Common.{◌≡◌, ◌∙◌, length, None, Some, arith, sym, ap, subst}
use Rattle.std.specs.List.{last_or}
use Rattle.interaction.specs.Object.{is_active, live_threads}
use Rattle.interaction.proofs.Choosing.{chosen_lives}
use Rattle.interaction.specs.Run.{chosen}
use Rattle.rgctx_fill.specs.ThreadStates.{image_of}
use Rattle.schedules.specs.Ends.{ended_by}
use Rattle.store_object.specs.Replay.{store, replayed}
use Rattle.thread_core.specs.Reached.{HasEnded}
use Rattle.thread_core.proofs.AtLemmas.{done_at, drawn_at, drawn_ready, inside-by}
use Rattle.thread_core.proofs.progress.Progress.step.Goals as goal

pub returns-in_default-clause-step : goal.returns-in_default-clause-step
returns-in_default-clause-step c = λ ks made at split.
    let im = image_of c.args.image.now in
    let r = c.args.self.now in
    let found = c.in_ok-thread.ensures {u = tt} in
    let none = sym (found (replayed r.world.history) c.requires.ready.lives) ∙ c.in_default.is in
    subst (λ e. HasEnded im ks made r e) (sym (c.ended_by.ensures ∙ ap (λ h. ended_by (last_or None h)) c.history.ensures.events))
    (done_at im ks made c.args.number r at split none)

pub turn-requires-clause-ready : goal.turn-requires-clause-ready
turn-requires-clause-ready c = drawn_ready (image_of c.args.image.now) c.args.number c.args.self.now c.note_number.new.self c.requires.ready (c.in_ok-note_number.ensures {u = tt})

pub turn-requires-clause-inside : goal.turn-requires-clause-inside
turn-requires-clause-inside c =
    let r = c.args.self.now in
    let found = c.in_ok-thread.ensures {u = tt} in
    let within = inside-by (image_of c.args.image.now) r c.args.number c.in-Some.thread c.requires.ready (sym (found (replayed r.world.history) c.requires.ready.lives) ∙ c.in-Some.is) in
    let same = ap length (c.in_ok-note_number.ensures {u = tt}).threads in
    omega (arith, within, same, c.note_number.new.self.threads.ok.0)

pub turn-requires-clause-lives : goal.turn-requires-clause-lives
turn-requires-clause-lives c =
    let r = c.args.self.now in
    let found = c.in_ok-thread.ensures {u = tt} in
    let drawn = c.in_ok-note_number.ensures {u = tt} in
    let some = sym (found (replayed r.world.history) c.requires.ready.lives) ∙ c.in-Some.is in
    ap (λ w. is_active store (replayed w.history) c.in-Some.thread) drawn.world ∙ chosen_lives store (replayed r.world.history) c.args.number c.in-Some.thread some

pub returns-clause-step : goal.returns-clause-step
returns-clause-step c = λ ks made at split.
    let im = image_of c.args.image.now in
    let r = c.args.self.now in
    let found = c.in_ok-thread.ensures {u = tt} in
    let drawn = c.in_ok-note_number.ensures {u = tt} in
    let some = sym (found (replayed r.world.history) c.requires.ready.lives) ∙ c.in-Some.is in
    let choice : chosen (live_threads store (replayed c.note_number.new.self.world.history)) c.args.number ≡ Some c.in-Some.thread = ap (λ w. chosen (live_threads store (replayed w.history)) c.args.number) drawn.world ∙ some in
    (c.in_ok-ending.ensures {u = tt}).turn ks made c.args.number (drawn_at im ks made c.args.number r at split c.note_number.new.self drawn) split choice

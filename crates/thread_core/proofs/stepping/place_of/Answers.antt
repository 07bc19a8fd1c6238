use Rattle.std.proofs.Common.{◌≡◌, ◌∙◌, ◌+◌, true, length, sym, ap, arith}
use Rattle.std.specs.Prelude.{slice_get}
use Rattle.interaction.specs.Object.{chosen_below, is_active, live_threads}
use Rattle.schedules.proofs.LiveLemmas.{count_one, count_none, stands_behind}
use Rattle.store_object.specs.Replay.{store}
use Rattle.store_object.proofs.StoreLaws.{lives_below}
use Rattle.thread_core.proofs.AtLemmas.{active_lives}
use Rattle.thread_core.proofs.SoFarLemmas.{chosen_at}
use Rattle.thread_core.proofs.stepping.place_of.Goals.{then-lives, else-lives}
use Rattle.thread_core.proofs.stepping.place_of.Goals as goal

pub loop-below-preserved : goal.loop-below-preserved
loop-below-preserved c = elim c.if-lives.branch [
  | then-lives w ↦ (omega (arith, c.loop-below.invariant.0, w.place-is), λ s h. w.place-is ∙ ap (λ k. k + 1) (c.loop-below.invariant.1 s h) ∙ sym (count_one (is_active store s) c.loop-below.below (w.if-lives.ensures {u = tt} s h)))
  | else-lives w ↦ (omega (arith, c.loop-below.invariant.0, w.place-is), λ s h. w.place-is ∙ c.loop-below.invariant.1 s h ∙ sym (count_none (is_active store s) c.loop-below.below (w.if-lives.ensures {u = tt} s h)))
]

pub returns : goal.returns
returns c = λ s h.
    let test = is_active store s in
    let active : is_active store s c.args.thread ≡ true = sym (c.lives.ensures s h) ∙ c.if-not-lives.false in
    let all : c.loop-below.below ≡ c.args.thread = omega (arith, c.loop-below-test.false, c.loop-below.auto.below-end) in
    let place : c.loop-below.place ≡ length (chosen_below test c.args.thread) = c.loop-below.invariant.1 s h ∙ ap (λ n. length (chosen_below test n)) all in
    chosen_at (live_threads store s) c.loop-below.place c.args.thread
    (ap (slice_get (live_threads store s)) place ∙ stands_behind test c.args.thread (length s.finished) (lives_below s c.args.thread (active_lives s c.args.thread active)) active)

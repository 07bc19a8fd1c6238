use Rattle.std.proofs.Common.{◌∙◌, ◌+◌, sym, ap, arith}
use Rattle.interaction.specs.Object.{is_active}
use Rattle.store_object.specs.Replay.{store}
use Rattle.schedules.proofs.LiveLemmas.{count_one, count_none}
use Rattle.schedules.proofs.started.Started.count.Goals.{then-is_live, else-is_live}
use Rattle.schedules.proofs.started.Started.count.Goals as goal

pub loop-thread-preserved : goal.loop-thread-preserved
loop-thread-preserved c = elim c.if-is_live.branch [
  | then-is_live w ↦ (omega (arith, c.loop-thread.invariant.0, w.count-is), λ s h. w.count-is ∙ ap (λ k. k + 1) (c.loop-thread.invariant.1 s h) ∙ sym (count_one (is_active store s) c.loop-thread.thread (w.if-is_live.ensures {u = tt} s h)))
  | else-is_live w ↦ (omega (arith, c.loop-thread.invariant.0, w.count-is), λ s h. w.count-is ∙ c.loop-thread.invariant.1 s h ∙ sym (count_none (is_active store s) c.loop-thread.thread (w.if-is_live.ensures {u = tt} s h)))
]

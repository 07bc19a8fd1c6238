use Rattle.std.proofs.Common.{◌∙◌, None, sym, ap}
use Rattle.interaction.specs.Object.{live_threads}
use Rattle.std.specs.List.{last_or}
use Rattle.store_object.specs.Replay.{store}
use Rattle.schedules.specs.Ends.{ended_by}
use Rattle.unshared.proofs.LastLemmas.{ends_none, ends_some}
use Rattle.unshared.proofs.whole.Run.last.Goals as goal

pub returns-in-None : goal.returns-in-None
returns-in-None c = λ s lives.
    c.ended_by.ensures ∙ ap (λ h. ended_by (last_or None h)) c.history.ensures.events
    ∙ ends_none c.args.self.now.world.history (live_threads store s) (sym ((c.in_ok-chosen.ensures {u = tt}) s lives) ∙ c.in-None.is)

pub returns-in-Some : goal.returns-in-Some
returns-in-Some c = λ s lives. ends_some c.args.self.now.world.history (live_threads store s) _ (sym ((c.in_ok-chosen.ensures {u = tt}) s lives) ∙ c.in-Some.is)

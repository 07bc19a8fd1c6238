use Rattle.std.proofs.Common.{◌∙◌, ap}
use Rattle.schedules.specs.Ends.{ended_by}
use Rattle.schedules.proofs.LastLemmas.{last_is}
use Rattle.schedules.proofs.ends.ended_by.Goals as goal

pub returns : goal.returns
returns c = c.ended_after.ensures ∙ ap ended_by (c.copied.ensures ∙ c.last.ensures.value ∙ last_is c.args.history.now)

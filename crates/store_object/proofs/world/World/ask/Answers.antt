use Rattle.store_object.proofs.Histories.{kept_after}
use Rattle.store_object.proofs.world.World.ask.Goals as goal

pub invariant_of-self : goal.invariant_of-self
invariant_of-self c =
    kept_after c.answer.new.self c.self.inside.history.items c.answer.new.history.items c.args.thread c.args.request c.answer.result
    c.self.invariant.replays c.answer.ensures.ok c.answer.ensures.noted c.answer.ensures.err c.answer.ensures.same

pub returns-clause-replays : goal.returns-clause-replays
returns-clause-replays c =
    (kept_after c.answer.new.self c.self.inside.history.items c.answer.new.history.items c.args.thread c.args.request c.answer.result
    c.self.invariant.replays c.answer.ensures.ok c.answer.ensures.noted c.answer.ensures.err c.answer.ensures.same).replays

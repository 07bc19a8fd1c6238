use Rattle.store_object.proofs.Histories.{kept_nothing}
use Rattle.store_object.proofs.world.World.new.Goals as goal

pub invariant_of-result : goal.invariant_of-result
invariant_of-result c = kept_nothing c.in-Ok.state c.new-in-Ok.result.items c.new-in-Ok.ensures.items (c.in-Ok.ensures {u = tt})

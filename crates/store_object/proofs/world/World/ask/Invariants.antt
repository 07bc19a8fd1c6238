use Rattle.store_object.specs.Replay.{replayed}
use Rattle.store_object.proofs.world.World.ask.Given as goal

abbrev pub ghost-answer : goal.ghost-answer
ghost-answer a = replayed a.history.now.items

use Rattle.std.proofs.Common.{◌≡◌, ◌≤◌, length}
use Rattle.interaction.specs.Object.{chosen_below, is_active}
use Rattle.store_object.specs.Store.{Store}
use Rattle.store_object.specs.Replay.{store}
use Rattle.schedules.specs.Living.{HasStarted}
use Rattle.schedules.proofs.started.Started.count.Given as goal

abbrev pub invariant-loop-thread : goal.invariant-loop-thread
invariant-loop-thread l = (l.count ≤ l.thread) × ((s : Store) → HasStarted l.self s → l.count ≡ length (chosen_below (is_active store s) l.thread))

use Rattle.std.proofs.Common.{◌≡◌, ◌≤◌, length}
use Rattle.interaction.specs.Object.{chosen_below, is_active}
use Rattle.schedules.specs.Living.{HasStarted}
use Rattle.store_object.specs.Store.{Store}
use Rattle.store_object.specs.Replay.{store}
use Rattle.thread_core.proofs.stepping.place_of.Given as goal

abbrev pub invariant-loop-below : goal.invariant-loop-below
invariant-loop-below l = (l.place ≤ l.below) × ((s : Store) → HasStarted l.started s → l.place ≡ length (chosen_below (is_active store s) l.below))

use Rattle.run_top.specs.Gives.{thread_of}
use Rattle.run_top.proofs.Running.{Running}
use Rattle.run_top.proofs.run.run.Given as goal

abbrev pub invariant-loop-made : goal.invariant-loop-made
invariant-loop-made l = Running l.image l.words l.limit l.made (thread_of l.core l.frame) l.live l.world.history l.turns.items

use Rattle.std.proofs.Common.{◌≡◌, [], fold, map, take}
use Rattle.frame_plan.specs.Places.{widest, state_widths}
use Rattle.frame_plan.proofs.stacks.stack_widths.Given as goal

abbrev pub invariant-loop-state : goal.invariant-loop-state
invariant-loop-state l = l.widths ≡ fold widest [] (map (state_widths l.program l.ins) (take l.state-index l.states))

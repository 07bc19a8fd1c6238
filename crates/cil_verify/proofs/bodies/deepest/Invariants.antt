use Rattle.std.proofs.Common.{◌≡◌, fold, max, length, map, take}
use Rattle.cil_verify.proofs.bodies.deepest.Given as goal

abbrev pub invariant-loop-state : goal.invariant-loop-state
invariant-loop-state l = l.top ≡ fold max 0 (map length (map (λ s. s.stack) (take l.state-index l.states)))

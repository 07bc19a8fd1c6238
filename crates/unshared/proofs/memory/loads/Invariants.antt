use Rattle.std.proofs.Common.{◌≡◌, ◌-◌, []}
use Rattle.unshared.specs.Memory.{loads_from}
use Rattle.unshared.proofs.memory.loads.Given as goal

abbrev pub invariant-loop-turn : goal.invariant-loop-turn
invariant-loop-turn l = loads_from l.fn.count l.fn.place [] l.initial.replies ≡ loads_from (l.fn.count - l._turn) l.at l.words.items l.replies

use Rattle.std.proofs.Common.{◌≡◌, drop}
use Rattle.unshared.specs.Memory.{saves_all}
use Rattle.unshared.proofs.memory.saves.Given as goal

abbrev pub invariant-loop-word : goal.invariant-loop-word
invariant-loop-word l = saves_all l.words l.fn.place l.initial.replies ≡ saves_all (drop l.word-index l.words) l.at l.replies

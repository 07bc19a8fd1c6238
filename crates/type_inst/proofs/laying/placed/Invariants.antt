use Rattle.std.proofs.Common.{◌≡◌, ◌+◌, ◌++◌, drop, sum}
use Rattle.il_model.specs.Layouts.{offsets_from}
use Rattle.type_inst.proofs.laying.placed.Given as goal

abbrev pub invariant-loop-word : goal.invariant-loop-word
invariant-loop-word l =
    (l.at + sum (drop l.word-index l.words) ≡ sum l.words) × (l.offsets ++ offsets_from l.at (drop l.word-index l.words) ≡ offsets_from 0 l.words)

use Rattle.std.proofs.Common.{◌≡◌, map, take}
use Rattle.type_inst.specs.Sizing.{word_in}
use Rattle.type_inst.proofs.sizing.words_at.Given as goal

abbrev pub invariant-loop-place : goal.invariant-loop-place
invariant-loop-place l = l.words ≡ map (word_in l.now) (take l.place-index l.places)

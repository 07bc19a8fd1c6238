use Rattle.std.proofs.Common.{◌≡◌, min, sum_by, take}
use Rattle.type_inst.specs.Sizing.{word_in}
use Rattle.type_inst.proofs.sizing.sum_at.Given as goal

abbrev pub invariant-loop-place : goal.invariant-loop-place
invariant-loop-place l = l.total ≡ min (sum_by (word_in l.now) (take l.place-index l.places)) l.most

use Rattle.std.proofs.Common.{◌≡◌, map, min, take}
use Rattle.type_inst.proofs.sizing.first_round.Given as goal

abbrev pub invariant-loop-row : goal.invariant-loop-row
invariant-loop-row l = l.words ≡ map (λ row. min 1 l.most) (take l._row-index l.rows)

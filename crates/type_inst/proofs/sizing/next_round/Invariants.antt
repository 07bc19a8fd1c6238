use Rattle.std.proofs.Common.{◌≡◌, map, take}
use Rattle.type_inst.specs.Sizing.{row_words}
use Rattle.type_inst.proofs.sizing.next_round.Given as goal

abbrev pub invariant-loop-row : goal.invariant-loop-row
invariant-loop-row l = l.words ≡ map (row_words l.most l.now) (take l.row-index l.rows)

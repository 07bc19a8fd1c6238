use Rattle.std.proofs.Common.{◌≡◌, map, length}
use Rattle.il_parse.specs.Tables.{whole_in}
use Rattle.il_parse.proofs.mnemonics.whole_in.Given as goal

abbrev pub invariant-loop-rows : goal.invariant-loop-rows
invariant-loop-rows l = whole_in (map (λ row. (row.0.now, (row.1, row.2))) l.initial.rows) l.word ≡ whole_in (map (λ row. (row.0.now, (row.1, row.2))) l.rows) l.word

abbrev pub decreases-loop-rows : goal.decreases-loop-rows
decreases-loop-rows l = length l.rows

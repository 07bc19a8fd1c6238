use Rattle.std.proofs.Common.{◌≡◌, map, length}
use Rattle.il_parse.specs.Tables.{form_in}
use Rattle.il_parse.proofs.mnemonics.form_in.Given as goal

abbrev pub invariant-loop-rows : goal.invariant-loop-rows
invariant-loop-rows l = form_in (map (λ row. (row.0.now, row.1)) l.initial.rows) l.word ≡ form_in (map (λ row. (row.0.now, row.1)) l.rows) l.word

abbrev pub decreases-loop-rows : goal.decreases-loop-rows
decreases-loop-rows l = length l.rows

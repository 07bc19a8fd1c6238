use Rattle.std.proofs.Common.{◌≡◌, map, length}
use Rattle.il_model.specs.Instructions.{plain_words}
use Rattle.il_parse.specs.Calls.{call_in}
use Rattle.il_parse.proofs.calls.call_in.Given as goal

abbrev pub invariant-loop-rows : goal.invariant-loop-rows
invariant-loop-rows l = call_in (map (λ row. (map (λ w. w.now) row.0.now, row.1)) l.initial.rows) (plain_words l.cursor) ≡ call_in (map (λ row. (map (λ w. w.now) row.0.now, row.1)) l.rows) (plain_words l.cursor)

abbrev pub decreases-loop-rows : goal.decreases-loop-rows
decreases-loop-rows l = length l.rows

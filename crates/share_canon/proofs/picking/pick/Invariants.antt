use Rattle.share_canon.specs.Rows.{Picks}
use Rattle.share_canon.proofs.picking.pick.Given as goal

abbrev pub invariant-loop-i : goal.invariant-loop-i
invariant-loop-i l = Picks l.program l.rows l.method l.args l.i l.best

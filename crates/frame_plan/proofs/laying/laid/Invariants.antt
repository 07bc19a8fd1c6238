use Rattle.std.proofs.Common.{◌≡◌, ◌+◌, ◌++◌, drop}
use Rattle.std.specs.List.{sum}
use Rattle.il_model.specs.Layouts.{offsets_from}
use Rattle.frame_plan.proofs.laying.laid.Given as goal

abbrev pub invariant-loop-width : goal.invariant-loop-width
invariant-loop-width l =
    (l.at + sum (drop l.width-index l.fn.widths) ≡ 8 + sum l.fn.widths) × (l.offsets ++ offsets_from l.at (drop l.width-index l.fn.widths) ≡ offsets_from 8 l.fn.widths)

use Rattle.std.proofs.Common.{◌≡◌, ◌++◌, fold, take}
use Rattle.type_inst.specs.Reaching.{spread_one}
use Rattle.type_inst.proofs.closure.spread.Given as goal

abbrev pub invariant-loop-each : goal.invariant-loop-each
invariant-loop-each l = (l.all ≡ fold (spread_one l.program) l.initial.all (take l.each-index l.fresh)) × (l.all ≡ l.initial.all ++ l.next)

use Rattle.std.proofs.Common.{◌-◌}
use Rattle.il_model.specs.Layouts.{most_trees}
use Rattle.cil_verify.specs.TypeSets.{listed_in}
use Rattle.cil_verify.proofs.ClosingLemmas.{Walk}
use Rattle.cil_verify.proofs.closing.closures.Given as goal

abbrev pub invariant-walk : goal.invariant-walk
invariant-walk l = Walk l.program l.roots l.at (listed_in l.all)

abbrev pub decreases-walk : goal.decreases-walk
decreases-walk l = most_trees - l.at

use Rattle.type_tree.specs.Positions.{positions_of}
use Rattle.type_inst.proofs.assignability.+assignable.Given as goal

abbrev pub decreases-assignable : goal.decreases-assignable
decreases-assignable l = positions_of l.from.now

use Rattle.std.proofs.Common.{◌+◌, ◌*◌, filter_map, Some, take}
use Rattle.il_model.specs.Find.{class_number_of}
use Rattle.cil_verify.specs.Heights.{AreHeights, EndsAt}
use Rattle.cil_verify.proofs.heights.+height_of.Given as goal

abbrev pub decreases-height_of : goal.decreases-height_of
decreases-height_of l = 4 * l.levels

abbrev pub decreases-height_above : goal.decreases-height_above
decreases-height_above l = 4 * l.levels + 3

abbrev pub decreases-height_of_base : goal.decreases-height_of_base
decreases-height_of_base l = 4 * l.levels + 2

abbrev pub decreases-height_of_all : goal.decreases-height_of_all
decreases-height_of_all l = 4 * l.levels + 2

abbrev pub decreases-height_of_type : goal.decreases-height_of_type
decreases-height_of_type l = 4 * l.levels + 1

abbrev pub invariant-height_of_all-loop-each : goal.invariant-height_of_all-loop-each
invariant-height_of_all-loop-each l =
    AreHeights l.program l.heights × EndsAt l.program l.levels (filter_map class_number_of (take l.each-index l.kinds)) (Some l.top)

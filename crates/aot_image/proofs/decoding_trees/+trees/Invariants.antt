use Rattle.std.proofs.Common.{◌≡◌, ◌*◌, ◌-◌, []}
use Rattle.aot_image.specs.ImageReading.{read_trees_from, inner_trees}
use Rattle.aot_image.proofs.decoding_trees.+trees.Given as goal

abbrev pub decreases-read_trees : goal.decreases-read_trees
decreases-read_trees l = 3 * l.levels - 2

abbrev pub decreases-read_defined : goal.decreases-read_defined
decreases-read_defined l = 3 * l.levels - 1

abbrev pub decreases-read_tree_within : goal.decreases-read_tree_within
decreases-read_tree_within l = 3 * l.levels

abbrev pub invariant-read_trees-loop-turn : goal.invariant-read_trees-loop-turn
invariant-read_trees-loop-turn l =
    read_trees_from (inner_trees l.program l.row l.levels) l.count [] l.most l.fn.cursor
    ≡ read_trees_from (inner_trees l.program l.row l.levels) (l.count - l._turn) l.found l.left l.cursor

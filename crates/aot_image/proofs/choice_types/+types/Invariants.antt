use Rattle.std.proofs.Common.{◌≡◌, ◌*◌, ◌-◌, []}
use Rattle.aot_image.specs.ChoosingTypes.{arguments_from, read_within}
use Rattle.aot_image.proofs.choice_types.+types.Given as goal

abbrev pub decreases-read_arguments : goal.decreases-read_arguments
decreases-read_arguments l = 3 * l.depth - 2

abbrev pub decreases-read_class : goal.decreases-read_class
decreases-read_class l = 3 * l.depth - 1

abbrev pub decreases-read_within : goal.decreases-read_within
decreases-read_within l = 3 * l.depth

abbrev pub invariant-read_arguments-loop-turn : goal.invariant-read_arguments-loop-turn
invariant-read_arguments-loop-turn l =
    arguments_from (read_within l.program (l.depth - 1)) l.arity [] l.fn.cursor ≡ arguments_from (read_within l.program (l.depth - 1)) (l.arity - l.turn) l.found l.cursor

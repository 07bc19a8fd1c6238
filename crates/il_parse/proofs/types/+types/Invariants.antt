use Rattle.std.proofs.Common.{◌≡◌, ◌*◌, ◌-◌, []}
use Rattle.il_parse.specs.Types.{inner_types_from}
use Rattle.il_parse.specs.Heads.{inner}
use Rattle.il_parse.proofs.types.+types.Given as goal

abbrev pub decreases-inner_types : goal.decreases-inner_types
decreases-inner_types l = 3 * l.depth - 2

abbrev pub decreases-read_applied : goal.decreases-read_applied
decreases-read_applied l = 3 * l.depth - 1

abbrev pub decreases-read_type_within : goal.decreases-read_type_within
decreases-read_type_within l = 3 * l.depth

abbrev pub invariant-inner_types-loop-turn : goal.invariant-inner_types-loop-turn
invariant-inner_types-loop-turn l =
    inner_types_from (inner l.depth) l.depth [] l.most l.fn.cursor ≡ inner_types_from (inner l.depth) (l.depth - l._turn) l.found l.left l.cursor

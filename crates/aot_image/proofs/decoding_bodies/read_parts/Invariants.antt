use Rattle.std.proofs.Common.{◌≡◌, ◌-◌, [], length}
use Rattle.aot_image.specs.ImageReading.{read_parts_from}
use Rattle.aot_image.proofs.decoding_bodies.read_parts.Given as goal

abbrev pub invariant-loop-turn : goal.invariant-loop-turn
invariant-loop-turn l =
    (read_parts_from l.program l.row l.count [] l.fn.cursor ≡ read_parts_from l.program l.row (l.count - l._turn) l.found l.cursor)
    × (length l.found ≡ l._turn)

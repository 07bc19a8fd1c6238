use Rattle.std.proofs.Common.{◌≡◌, ◌-◌, []}
use Rattle.aot_image.specs.ImageReading.{read_places_from}
use Rattle.aot_image.proofs.decoding_bodies.read_places.Given as goal

abbrev pub invariant-loop-turn : goal.invariant-loop-turn
invariant-loop-turn l =
    read_places_from l.row l.words l.count [] l.fn.cursor ≡ read_places_from l.row l.words (l.count - l._turn) l.found l.cursor

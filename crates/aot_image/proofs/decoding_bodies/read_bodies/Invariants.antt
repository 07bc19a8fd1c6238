use Rattle.std.proofs.Common.{◌≡◌, ◌-◌, [], map}
use Rattle.aot_image.specs.ImagePicks.{pick_of}
use Rattle.aot_image.specs.ImageReading.{read_bodies_from}
use Rattle.aot_image.proofs.decoding_bodies.read_bodies.Given as goal

abbrev pub invariant-loop-turn : goal.invariant-loop-turn
invariant-loop-turn l =
    (read_bodies_from l.program l.words l.count [] l.fn.cursor ≡ read_bodies_from l.program l.words (l.count - l._turn) l.found l.cursor)
    × (l.picks.known.keys ≡ map pick_of l.found)

use Rattle.std.proofs.Common.{◌≡◌, ◌-◌, []}
use Rattle.aot_image.specs.ImageReading.{read_words_from}
use Rattle.aot_image.proofs.decoding.read_words.Given as goal

abbrev pub invariant-loop-turn : goal.invariant-loop-turn
invariant-loop-turn l = read_words_from l.count [] l.fn.cursor ≡ read_words_from (l.count - l._turn) l.found l.cursor

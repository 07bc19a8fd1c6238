use Rattle.std.proofs.Common.{◌≡◌, ◌-◌, []}
use Rattle.aot_image.specs.ImageReading.{read_entries_from}
use Rattle.aot_image.proofs.decoding_entries.read_entries.Given as goal

abbrev pub invariant-loop-turn : goal.invariant-loop-turn
invariant-loop-turn l =
    read_entries_from l.program l.count [] l.fn.cursor ≡ read_entries_from l.program (l.count - l._turn) l.entries l.cursor

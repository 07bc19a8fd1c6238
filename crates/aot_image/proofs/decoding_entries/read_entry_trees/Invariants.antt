use Rattle.std.proofs.Common.{◌≡◌, ◌-◌, []}
use Rattle.aot_image.specs.ImageReading.{read_entry_trees_from}
use Rattle.aot_image.proofs.decoding_entries.read_entry_trees.Given as goal

abbrev pub invariant-loop-turn : goal.invariant-loop-turn
invariant-loop-turn l =
    read_entry_trees_from l.program l.row l.count [] l.fn.cursor ≡ read_entry_trees_from l.program l.row (l.count - l._turn) l.found l.cursor

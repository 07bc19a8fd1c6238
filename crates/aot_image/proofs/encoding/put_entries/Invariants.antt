use Rattle.std.proofs.Common.{◌≡◌, ◌++◌, take, flat_map}
use Rattle.aot_image.specs.ImageSpelling.{entry_bytes}
use Rattle.aot_image.proofs.encoding.put_entries.Given as goal

abbrev pub invariant-loop-entry : goal.invariant-loop-entry
invariant-loop-entry l = l.out.items ≡ l.initial.out.items ++ flat_map entry_bytes (take l.entry-index l.entries)

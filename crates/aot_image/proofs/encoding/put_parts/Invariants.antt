use Rattle.std.proofs.Common.{◌≡◌, ◌++◌, take, flat_map}
use Rattle.aot_image.specs.ImageSpelling.{part_bytes}
use Rattle.aot_image.proofs.encoding.put_parts.Given as goal

abbrev pub invariant-loop-part : goal.invariant-loop-part
invariant-loop-part l = l.out.items ≡ l.initial.out.items ++ flat_map part_bytes (take l.part-index l.parts)

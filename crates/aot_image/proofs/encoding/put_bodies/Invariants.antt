use Rattle.std.proofs.Common.{◌≡◌, ◌++◌, take, flat_map}
use Rattle.aot_image.specs.ImageSpelling.{body_bytes}
use Rattle.aot_image.proofs.encoding.put_bodies.Given as goal

abbrev pub invariant-loop-row : goal.invariant-loop-row
invariant-loop-row l = l.out.items ≡ l.initial.out.items ++ flat_map body_bytes (take l.row-index l.bodies)

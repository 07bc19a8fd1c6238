use Rattle.std.proofs.Common.{◌≡◌, drop, flat_map, fold}
use Rattle.aot_image.specs.ChoosingRounds.{part_writes}
use Rattle.aot_image.proofs.choice_picks.feed_parts.Given as goal

abbrev pub invariant-loop-part : goal.invariant-loop-part
invariant-loop-part g l =
    fold g.H.Hasher.write l.state (flat_map part_writes (drop l.part-index l.parts)) ≡ fold g.H.Hasher.write l.initial.state (flat_map part_writes l.parts)

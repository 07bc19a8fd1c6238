use Rattle.std.proofs.Common.{◌≡◌, drop}
use Rattle.std.specs.Cmp.Lexicographic.{pointwise}
use Rattle.aot_image.specs.ChoosingPicks.{same_part}
use Rattle.aot_image.proofs.choice_picks.same_parts.Given as goal

abbrev pub invariant-loop-i : goal.invariant-loop-i
invariant-loop-i l = pointwise same_part l.parts l.others ≡ pointwise same_part (drop l.i l.parts) (drop l.i l.others)

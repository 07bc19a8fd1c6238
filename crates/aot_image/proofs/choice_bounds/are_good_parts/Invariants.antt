use Rattle.std.proofs.Common.{◌≡◌, true, take}
use Rattle.std.specs.List.{list_all}
use Rattle.aot_image.specs.ChoosingBounds.{is_good_part}
use Rattle.aot_image.proofs.choice_bounds.are_good_parts.Given as goal

abbrev pub invariant-loop-part : goal.invariant-loop-part
invariant-loop-part l = list_all (is_good_part l.program) (take l.part-index l.parts) ≡ true

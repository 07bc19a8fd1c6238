use Rattle.std.proofs.Common.{take}
use Rattle.il_model.specs.Names.{plain_names}
use Rattle.aot_image.specs.ChoosingNames.{FindsPlaces}
use Rattle.aot_image.proofs.choice_names.class_places.Given as goal

abbrev pub invariant-loop-i : goal.invariant-loop-i
invariant-loop-i l = FindsPlaces (λ k. k.items) l.places (plain_names (take l.i l.classes))

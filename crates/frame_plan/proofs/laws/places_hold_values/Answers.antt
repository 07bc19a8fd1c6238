use Rattle.frame_plan.proofs.HeldLemmas.{held}
use Rattle.frame_plan.proofs.laws.places_hold_values.Goals as goal

pub returns : goal.returns
returns c = record { held = held }

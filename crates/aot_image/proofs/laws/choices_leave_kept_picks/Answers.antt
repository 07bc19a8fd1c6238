use Rattle.aot_image.proofs.KeptPicks.{kept-picks}
use Rattle.aot_image.proofs.laws.choices_leave_kept_picks.Goals as goal

pub returns : goal.returns
returns c = kept-picks

use Rattle.aot_image.proofs.ChoosingBoundsLemmas.{has_types}
use Rattle.aot_image.proofs.choosing.choice.Goals as goal

pub choose-requires-clause-types : goal.choose-requires-clause-types
choose-requires-clause-types c = has_types c.args.program.now.program c.requires.verified.well_typed

use Rattle.std.proofs.Common.{reverse}
use Rattle.aot_image.specs.ChoosingSizes.{at, turns_at}
use Rattle.aot_image.proofs.ChoosingSizesLemmas.{Measures}
use Rattle.aot_image.proofs.choice_sizes.measured.Given as goal

abbrev pub invariant-steps : goal.invariant-steps
invariant-steps l = Measures l.program l.bytes l.inside (at l.cursor (reverse l.more.items) l.extent)

abbrev pub decreases-steps : goal.decreases-steps
decreases-steps l = turns_at l.inside l.cursor

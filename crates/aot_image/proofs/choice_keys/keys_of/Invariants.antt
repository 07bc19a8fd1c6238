use Rattle.std.proofs.Common.{length}
use Rattle.aot_image.proofs.ChoosingKeyLemmas.{TakesWords}
use Rattle.aot_image.proofs.choice_keys.keys_of.Given as goal

abbrev pub invariant-words : goal.invariant-words
invariant-words l = TakesWords l.program l.text l.keys l.rest

abbrev pub decreases-words : goal.decreases-words
decreases-words l = length l.rest

use Rattle.std.proofs.Common.{take}
use Rattle.aot_image.proofs.ChoosingNameLemmas.{HasTexts}
use Rattle.aot_image.proofs.choice_names.method_places.Given as goal

abbrev pub invariant-loop-i : goal.invariant-loop-i
invariant-loop-i l = HasTexts (λ k. k.items) l.program (take l.i l.methods) l.places l.counts

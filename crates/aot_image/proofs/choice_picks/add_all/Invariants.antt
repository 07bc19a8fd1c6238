use Rattle.aot_image.specs.ChoosingRounds.{live_of}
use Rattle.aot_image.proofs.ChoosingPickLemmas.{AddsGeneral}
use Rattle.aot_image.proofs.choice_picks.add_all.Given as goal

abbrev pub invariant-loop-i : goal.invariant-loop-i
invariant-loop-i l =
    AddsGeneral l.program l.methods l.i (live_of l.fn.picks.rounds.items l.fn.picks.entries.keys) l.picks.rounds.items l.picks.entries.keys

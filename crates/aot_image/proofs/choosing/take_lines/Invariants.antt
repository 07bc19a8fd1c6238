use Rattle.std.proofs.Common.{length}
use Rattle.aot_image.specs.ChoosingRounds.{live_of}
use Rattle.aot_image.proofs.ChoosingLineLemmas.{TakesLines}
use Rattle.aot_image.proofs.choosing.take_lines.Given as goal

abbrev pub invariant-lines : goal.invariant-lines
invariant-lines l =
    TakesLines l.program l.text (live_of l.fn.picks.rounds.items l.fn.picks.entries.keys) l.line l.rest l.picks.rounds.items l.picks.entries.keys

abbrev pub decreases-lines : goal.decreases-lines
decreases-lines l = length l.rest

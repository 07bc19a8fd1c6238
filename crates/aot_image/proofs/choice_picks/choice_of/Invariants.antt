use Rattle.std.proofs.Common.{◌≡◌, ◌++◌}
use Rattle.aot_image.specs.ChoosingRounds.{live_of}
use Rattle.aot_image.proofs.choice_picks.choice_of.Given as goal

abbrev pub invariant-loop-entry : goal.invariant-loop-entry
invariant-loop-entry l = l.kept ++ live_of l.rounds.items l.entry-iterator ≡ live_of l.fn.picks.rounds.items l.fn.picks.entries.keys

use Rattle.std.proofs.Common.{◌≡◌, length}
use Rattle.aot_image.proofs.choice_picks.no_picks.Given as goal

abbrev pub invariant-loop-turn : goal.invariant-loop-turn
invariant-loop-turn l = length l.rounds.items ≡ l._turn

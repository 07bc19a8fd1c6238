use Rattle.std.proofs.Common.{length}
use Rattle.unshared.proofs.calls.+keep_from.Given as goal

abbrev pub decreases-keep_from : goal.decreases-keep_from
decreases-keep_from l = length l.places.now

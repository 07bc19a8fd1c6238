use Rattle.std.proofs.Common.{◌≡◌, take}
use Rattle.share_canon.specs.Keys.{canonical}
use Rattle.share_canon.proofs.canonical.canon.Given as goal

abbrev pub invariant-loop-arg : goal.invariant-loop-arg
invariant-loop-arg l = l.parts ≡ canonical l.program (take l.arg-index l.args)

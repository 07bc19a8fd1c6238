use Rattle.std.proofs.Common.{◌≡◌, ◌++◌, map, take}
use Rattle.aot_image.specs.ChoosingPicks.{any_part}
use Rattle.aot_image.proofs.choice_picks.put_any.Given as goal

abbrev pub invariant-loop-var : goal.invariant-loop-var
invariant-loop-var l = l.parts ≡ l.initial.parts ++ map any_part (take l.var-index l.vars)

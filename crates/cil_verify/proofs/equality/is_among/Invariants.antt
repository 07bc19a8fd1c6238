use Rattle.std.proofs.Common.{◌≡◌, false, take}
use Rattle.il_model.specs.Trees.{is_among}
use Rattle.cil_verify.proofs.equality.is_among.Given as goal

abbrev pub invariant-loop-each : goal.invariant-loop-each
invariant-loop-each l = is_among (take l.each-index l.kinds) l.kind ≡ false

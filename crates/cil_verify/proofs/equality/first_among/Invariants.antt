use Rattle.std.proofs.Common.{◌≡◌, None, take, find}
use Rattle.il_model.specs.Trees.{is_among}
use Rattle.cil_verify.proofs.equality.first_among.Given as goal

abbrev pub invariant-loop-other : goal.invariant-loop-other
invariant-loop-other l = find (is_among l.kinds) (take l.other-index l.others) ≡ None

use Rattle.std.proofs.Common.{◌≡◌, false, take}
use Rattle.std.specs.List.{list_any}
use Rattle.cil_verify.specs.Forms.{is_catch}
use Rattle.cil_verify.proofs.forms.is_any_catch.Given as goal

abbrev pub invariant-loop-clause : goal.invariant-loop-clause
invariant-loop-clause l = list_any (λ c. is_catch c.sort) (take l.clause-index l.clauses) ≡ false

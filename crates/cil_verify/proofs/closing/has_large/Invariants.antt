use Rattle.std.proofs.Common.{◌≡◌, false, take}
use Rattle.std.specs.List.{list_any}
use Rattle.il_model.specs.Admission.{is_large}
use Rattle.cil_verify.proofs.closing.has_large.Given as goal

abbrev pub invariant-loop-each : goal.invariant-loop-each
invariant-loop-each l = list_any is_large (take l.each-index l.kinds) ≡ false

use Rattle.std.proofs.Common.{◌≡◌, false, take}
use Rattle.std.specs.List.{list_any}
use Rattle.cil_verify.specs.Forms.{is_generic}
use Rattle.cil_verify.proofs.forms.+is_generic.Given as goal

abbrev pub invariant-is_any_generic-loop-each : goal.invariant-is_any_generic-loop-each
invariant-is_any_generic-loop-each l = list_any is_generic (take l.each-index l.kinds) ≡ false

use Rattle.std.proofs.Common.{◌≡◌, false, take}
use Rattle.std.specs.List.{list_any}
use Rattle.il_model.specs.ClassRules.{bounds_written}
use Rattle.cil_verify.specs.Forms.{is_generic}
use Rattle.cil_verify.proofs.forms.is_any_bound_generic.Given as goal

abbrev pub invariant-loop-var : goal.invariant-loop-var
invariant-loop-var l = list_any is_generic (bounds_written (take l.var-index l.vars)) ≡ false

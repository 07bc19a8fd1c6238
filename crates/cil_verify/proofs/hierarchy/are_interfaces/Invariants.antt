use Rattle.std.proofs.Common.{◌≡◌, true, take}
use Rattle.std.specs.List.{list_all}
use Rattle.il_model.specs.Slots.{is_interface}
use Rattle.cil_verify.proofs.hierarchy.are_interfaces.Given as goal

abbrev pub invariant-loop-each : goal.invariant-loop-each
invariant-loop-each l = list_all (is_interface l.program) (take l.each-index l.kinds) ≡ true

use Rattle.std.proofs.Common.{◌≡◌, true, take}
use Rattle.std.specs.List.{list_all}
use Rattle.il_model.specs.ClassRules.{meets_bounds}
use Rattle.cil_verify.proofs.bounds.+meets_bounds.Given as goal

abbrev pub invariant-all_meet-loop-each : goal.invariant-all_meet-loop-each
invariant-all_meet-loop-each l =
    list_all (meets_bounds l.program (record { of_class = l.of_class; of_method = l.of_method })) (take l.each-index l.kinds) ≡ true

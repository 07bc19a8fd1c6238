use Rattle.std.proofs.Common.{◌≡◌, true, take}
use Rattle.std.specs.List.{list_all}
use Rattle.il_model.specs.ClassRules.{meets_bounds, bounds_written}
use Rattle.cil_verify.proofs.bounds.all_bounds_meet.Given as goal

abbrev pub invariant-loop-var : goal.invariant-loop-var
invariant-loop-var l =
    list_all (meets_bounds l.program (record { of_class = l.of_class; of_method = l.of_method })) (bounds_written (take l.var-index l.vars)) ≡ true

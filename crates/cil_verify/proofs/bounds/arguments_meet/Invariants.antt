use Rattle.std.proofs.Common.{◌≡◌, zip, drop}
use Rattle.std.specs.List.{list_all}
use Rattle.il_model.specs.ClassRules.{meets_bounds_of}
use Rattle.cil_verify.proofs.bounds.arguments_meet.Given as goal

abbrev pub invariant-loop-i : goal.invariant-loop-i
invariant-loop-i l =
    list_all (meets_bounds_of l.program (record { of_class = l.of_class; of_method = l.of_method }) l.kind) (zip l.vars l.parts)
    ≡ list_all (meets_bounds_of l.program (record { of_class = l.of_class; of_method = l.of_method }) l.kind) (zip (drop l.i l.vars) (drop l.i l.parts))

use Rattle.std.proofs.Common.{◌≡◌, true, take}
use Rattle.std.specs.List.{list_all}
use Rattle.il_model.specs.ClassRules.{has_counts, bounds_written}
use Rattle.cil_verify.proofs.hierarchy.have_bound_counts.Given as goal

abbrev pub invariant-loop-var : goal.invariant-loop-var
invariant-loop-var l = list_all (has_counts l.program) (bounds_written (take l.var-index l.vars)) ≡ true

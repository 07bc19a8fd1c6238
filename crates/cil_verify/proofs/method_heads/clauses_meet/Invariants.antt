use Rattle.std.proofs.Common.{◌≡◌, true, flat_map, take}
use Rattle.std.specs.List.{list_all}
use Rattle.il_model.specs.ClassRules.{meets_bounds}
use Rattle.cil_verify.specs.Places.{scope_of}
use Rattle.cil_verify.specs.WellTyped.{type_of_sort}
use Rattle.cil_verify.proofs.method_heads.clauses_meet.Given as goal

abbrev pub invariant-loop-clause : goal.invariant-loop-clause
invariant-loop-clause l = list_all (meets_bounds l.program (scope_of l.program l.method)) (flat_map (λ c. type_of_sort c.sort) (take l.clause-index l.clauses)) ≡ true

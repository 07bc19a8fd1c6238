use Rattle.std.proofs.Common.{◌≡◌, false, flat_map, take}
use Rattle.std.specs.List.{list_any}
use Rattle.cil_verify.specs.WellTyped.{type_of_sort}
use Rattle.cil_verify.specs.Forms.{is_generic}
use Rattle.cil_verify.proofs.forms.is_any_clause_generic.Given as goal

abbrev pub invariant-loop-clause : goal.invariant-loop-clause
invariant-loop-clause l = list_any is_generic (flat_map (λ c. type_of_sort c.sort) (take l.clause-index l.clauses)) ≡ false

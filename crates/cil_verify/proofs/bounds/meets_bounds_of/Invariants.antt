use Rattle.std.proofs.Common.{◌≡◌, true, take}
use Rattle.std.specs.List.{list_all}
use Rattle.il_model.specs.Bases.{with_args_of}
use Rattle.il_model.specs.Assignable.{meets_bound}
use Rattle.cil_verify.proofs.bounds.meets_bounds_of.Given as goal

abbrev pub invariant-loop-bound : goal.invariant-loop-bound
invariant-loop-bound l =
    list_all (λ bound. meets_bound l.program (record { of_class = l.of_class; of_method = l.of_method }) l.part (with_args_of l.kind bound)) (take l.bound-index l.var.bounds) ≡ true

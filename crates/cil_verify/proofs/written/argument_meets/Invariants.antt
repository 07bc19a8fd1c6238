use Rattle.std.proofs.Common.{◌≡◌, true, take}
use Rattle.std.specs.List.{list_all}
use Rattle.il_model.specs.Assignable.{meets_bound}
use Rattle.cil_verify.specs.Places.{scope_of}
use Rattle.cil_verify.specs.Members.{type_at}
use Rattle.cil_verify.proofs.written.argument_meets.Given as goal

abbrev pub invariant-loop-bound : goal.invariant-loop-bound
invariant-loop-bound l =
    list_all (λ bound. meets_bound l.program (scope_of l.program l.method) l.argument (type_at l.named bound)) (take l.bound-index l.var.bounds) ≡ true

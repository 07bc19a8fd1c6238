use Rattle.std.proofs.Common.{◌≡◌, zip, drop}
use Rattle.std.specs.List.{list_all}
use Rattle.cil_verify.specs.Places.{view_of}
use Rattle.cil_verify.specs.Members.{meets_bounds_at}
use Rattle.cil_verify.proofs.written.pairs_meet.Given as goal

abbrev pub invariant-loop-i : goal.invariant-loop-i
invariant-loop-i l =
    list_all (meets_bounds_at (view_of l.program l.method) l.named) (zip l.vars l.arguments)
    ≡ list_all (meets_bounds_at (view_of l.program l.method) l.named) (zip (drop l.i l.vars) (drop l.i l.arguments))

use Rattle.std.proofs.Common.{◌≡◌, drop}
use Rattle.cil_verify.specs.Places.{view_of}
use Rattle.cil_verify.specs.Joins.{are_assignable}
use Rattle.cil_verify.proofs.stacks.are_assignable.Given as goal

abbrev pub invariant-loop-i : goal.invariant-loop-i
invariant-loop-i l = are_assignable (view_of l.program l.method) l.from l.to ≡ are_assignable (view_of l.program l.method) (drop l.i l.from) (drop l.i l.to)

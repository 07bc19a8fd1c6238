use Rattle.std.proofs.Common.{◌≡◌, ◌++◌, drop, option_map}
use Rattle.cil_verify.specs.Places.{view_of}
use Rattle.cil_verify.specs.Joins.{joined_stacks}
use Rattle.cil_verify.proofs.stacks.joined_stacks.Given as goal

abbrev pub invariant-loop-i : goal.invariant-loop-i
invariant-loop-i l =
    joined_stacks (view_of l.program l.method) l.first l.second
    ≡ option_map (λ rest. l.both ++ rest) (joined_stacks (view_of l.program l.method) (drop l.i l.first) (drop l.i l.second))

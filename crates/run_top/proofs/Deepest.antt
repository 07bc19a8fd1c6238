-- The deepest stack, one instruction after another.
use Rattle.std.proofs.Common.{◌≡◌, ◌≤◌, ℕ, ◌+◌, ◌-◌, List, [], ◌∷◌, max, arith}
use Rattle.run_top.specs.declared.first.FirstOp.{FirstOp}
use Rattle.run_top.specs.declared.first.FirstOp.TheVariants.{Push, Add, Print, Ret}
use Rattle.run_top.specs.WellFormed.{FindsOperands, AllFind, IsFine, depth_after, deepest}

at_least : (depth : ℕ) (ops : List FirstOp) → depth ≤ deepest depth ops
at_least depth [] = omega arith
at_least depth (op ∷ ops) = omega arith

pub deepest_step : (most depth : ℕ) (op : FirstOp) (ops : List FirstOp) → depth ≤ most → max most (deepest depth (op ∷ ops)) ≡ max (max most (depth_after op depth)) (deepest (depth_after op depth) ops)
deepest_step most depth op ops low = let more = at_least (depth_after op depth) ops in omega arith

-- instructions that are in order find their operands
pub finds : (depth : ℕ) (ops : List FirstOp) → IsFine depth ops → AllFind depth ops
finds depth [] fine = absurd fine
finds depth (Push n ∷ ops) fine = (fine.0, finds (depth + 1) ops fine.1)
finds depth (Add ∷ ops) fine = (fine.0, finds (depth - 1) ops fine.1)
finds depth (Print ∷ ops) fine = (fine.0, finds (depth - 1) ops fine.1)
finds depth (Ret ∷ []) fine = (fine, tt)
finds depth (Ret ∷ op ∷ ops) fine = absurd fine

-- no instruction leaves more than 120 values
pub low_after : (op : FirstOp) (depth : ℕ) → FindsOperands op depth → depth ≤ 120 → depth_after op depth ≤ 120
low_after (Push n) depth finds low = finds
low_after Add depth finds low = omega arith
low_after Print depth finds low = omega arith
low_after Ret depth finds low = low

-- What is asked of the instructions of a program of the first form.
use Rattle.std.specs.Prelude.{◌≡◌, ◌≤◌, ℕ, ◌+◌, ◌-◌, List, [], ◌∷◌, length, max}
use Rattle.run_top.specs.declared.first.FirstOp.{FirstOp}
use Rattle.run_top.specs.declared.first.FirstOp.TheVariants.{Push, Add, Print, Ret}

-- the depth of the stack after an instruction, from the depth before it
abbrev pub depth_after : FirstOp → ℕ → ℕ
depth_after (Push n) depth = depth + 1
depth_after Add depth = depth - 1
depth_after Print depth = depth - 1
depth_after Ret depth = depth

-- at this depth of the stack the instruction finds its operands, and leaves at most 120 values
abbrev pub FindsOperands : FirstOp → ℕ → Type 0
FindsOperands (Push n) depth = depth + 1 ≤ 120
FindsOperands Add depth = 2 ≤ depth
FindsOperands Print depth = 1 ≤ depth
FindsOperands Ret depth = depth ≡ 0

-- from this depth on each instruction finds its operands, the stack is at most 120 deep, and one `ret` stands last, at the empty stack
abbrev pub IsFine : ℕ → List FirstOp → Type 0
IsFine depth [] = ⊥
IsFine depth (Push n ∷ ops) = FindsOperands (Push n) depth × IsFine (depth + 1) ops
IsFine depth (Add ∷ ops) = FindsOperands Add depth × IsFine (depth - 1) ops
IsFine depth (Print ∷ ops) = FindsOperands Print depth × IsFine (depth - 1) ops
IsFine depth (Ret ∷ []) = FindsOperands Ret depth
IsFine depth (Ret ∷ op ∷ ops) = ⊥

-- a method of the first form: at most 16,384 instructions, which begin at the empty stack
pub record IsWellFormed (ops : List FirstOp) : Type 0 where
  pub few : length ops ≤ 16384
  pub fine : IsFine 0 ops

-- the depth of the deepest stack, from this depth on
abbrev pub deepest : ℕ → List FirstOp → ℕ
deepest depth [] = depth
deepest depth (op ∷ ops) = max depth (deepest (depth_after op depth) ops)

-- from this depth on each instruction finds its operands
abbrev pub AllFind : ℕ → List FirstOp → Type 0
AllFind depth [] = Unit {0}
AllFind depth (op ∷ ops) = FindsOperands op depth × AllFind (depth_after op depth) ops

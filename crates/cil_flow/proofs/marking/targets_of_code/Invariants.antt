use Rattle.std.proofs.Common.{◌≡◌, ◌<◌, ℕ, length, take, get_or, false}
use Rattle.cil_flow.specs.Depths.{is_target}
use Rattle.cil_flow.proofs.marking.targets_of_code.Given as goal

abbrev pub invariant-loop-op : goal.invariant-loop-op
invariant-loop-op l =
    (length l.marks.items ≡ length l.code) ×
    ((j : ℕ) → j < length l.code → get_or l.marks.items j false ≡ is_target (take l.op-index l.code) j)

use Rattle.std.proofs.Common.{◌≡◌, ◌<◌, ◌||◌, ◌==◌, ℕ, length, take, get_or, false}
use Rattle.std.specs.List.{list_any}
use Rattle.cil_flow.proofs.marking.mark.Given as goal

abbrev pub invariant-loop-to : goal.invariant-loop-to
invariant-loop-to l =
    (length l.marks ≡ length l.initial.marks) ×
    ((j : ℕ) → j < length l.initial.marks → get_or l.marks j false ≡ (get_or l.initial.marks j false || list_any (λ k. k == j) (take l.to-index l.targets)))

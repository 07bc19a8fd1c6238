use Rattle.std.proofs.Common.{◌≡◌, ◌<◌, ℕ, length, take}
use Rattle.cil_flow.specs.Pass.{known, noted_among}
use Rattle.cil_flow.proofs.meeting.note_targets.Given as goal

abbrev pub invariant-loop-to : goal.invariant-loop-to
invariant-loop-to l =
    (length l.arrived ≡ length l.initial.arrived) ×
    ((j : ℕ) → j < length l.initial.arrived → known l.arrived j ≡ noted_among l.initial.arrived l.at l.left (take l.to-index l.targets) j)

use Rattle.std.proofs.Common.{◌≡◌, take}
use Rattle.std.specs.Prelude.{filter_map}
use Rattle.thread_core.specs.Runs.{note_at}
use Rattle.thread_core.proofs.fills.fills_in.Given as goal

abbrev pub invariant-loop-place : goal.invariant-loop-place
invariant-loop-place l = l.notes.items ≡ filter_map (note_at l.words) (take l.place l.claimed)

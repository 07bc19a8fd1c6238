use Rattle.std.proofs.Common.{◌≢◌, ℕ, ◌<◌, ◌≤◌, length, get_or}
use Rattle.rgctx_words.specs.Frames.{frame_address}
use Rattle.rgctx_words.proofs.stack.Stack.level_at.Given as goal

abbrev pub invariant-loop-level : goal.invariant-loop-level
invariant-loop-level l = record {
  within : l.level ≤ length l.self-inside.bases.items;
  none : (k : ℕ) → l.level ≤ k → k < length l.self-inside.bases.items → frame_address (get_or l.self-inside.bases.items k 0) ≢ l.address;
}

abbrev pub decreases-loop-level : goal.decreases-loop-level
decreases-loop-level l = l.level

-- Where the places of a compiled body's frame lie. This project's own.
use Rattle.std.specs.Prelude.{◌≡◌, ℕ, ◌+◌, ◌<◌, ◌≤◌, length, slice_index}
use Rattle.il_model.specs.Admission as admission
use Rattle.rgctx_words.specs.Frames as frames
use Rattle.cil_flow.specs.declared.plan.Plan.{Plan}

-- The places lie one behind the other from the header on, so that no two share a word. Each has the words of one value at most.
-- The scratch words follow, and then the list of argument addresses, up to the end of the frame.
pub record IsPlan (k : Plan) : Type 0 where
  pub widths : length k.widths ≡ length k.offsets
  pub narrow : (p : ℕ) → p < length k.offsets → slice_index k.widths p ≤ admission.most_words
  pub above : (p : ℕ) → p < length k.offsets → frames.header_count ≤ slice_index k.offsets p
  pub apart : (p q : ℕ) → p < q → q < length k.offsets → slice_index k.offsets p + slice_index k.widths p ≤ slice_index k.offsets q
  pub below : (p : ℕ) → p < length k.offsets → slice_index k.offsets p + slice_index k.widths p ≤ k.scratch
  pub behind : frames.header_count ≤ k.scratch
  pub room : k.list ≡ k.scratch + frames.scratch_words
  pub all : k.list ≤ k.frame
  pub short : k.frame ≤ frames.most_words

-- What branches come to. Only private contracts cite it.
use Rattle.std.specs.Prelude.{ℕ, Bool, if◌then◌else◌, List, [], length, Option, Some, None, Ok, slice_get}
use Rattle.cil_meaning.specs.Values.{is_int32, is_struct}
use Rattle.cil_meaning.specs.Groups.{Comparison}
use Rattle.cil_meaning.specs.Branches.{is_taken}
use Rattle.unshared.specs.declared.frames.Frames.{Frames as FramesHere}
use Rattle.unshared.specs.Calculated.{one_word, compares}
use Rattle.unshared.specs.Going.{Did, goes_on, goes_at}
use Rattle.unshared.specs.Silent.{Silent, ◌>>=◌, stuck, where_so}

abbrev pub jumps_if : FramesHere → Bool → ℕ → ℕ → Did
jumps_if f taken to count = if taken then goes_at f to count else goes_on f count []

unfoldable pub jumps_where : Bool → ℕ → FramesHere → Silent Did
jumps_where is_true to f = do
  t ← one_word f
  if is_struct t.0 then stuck else Ok (jumps_if f (is_taken is_true t.1) to 1)

unfoldable pub jumps_by : Comparison → ℕ → FramesHere → Silent Did
jumps_by form to f = do
  is_so ← compares form f
  Ok (jumps_if f is_so to 2)

abbrev pub chosen : FramesHere → Option ℕ → Did
chosen f (Some to) = goes_at f to 1
chosen f None = goes_on f 1 []

unfoldable pub chooses : List ℕ → FramesHere → Silent Did
chooses targets f = do
  t ← one_word f
  where_so (is_int32 t.0) (Ok (chosen f (slice_get targets t.1)))

abbrev pub leaves : ℕ → FramesHere → Did
leaves to f = goes_at f to (length f.top.stack.items)

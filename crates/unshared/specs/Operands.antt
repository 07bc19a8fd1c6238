-- Operands of instructions, as they are taken. Only private contracts cite it.
use Rattle.std.specs.Prelude.{ℕ, nat_lt, List, [], ◌∷◌, Ok, slice_get}
use Rattle.cil_meaning.specs.Values.{Kind, Pointer, Value, Plain, Managed, same_kind, is_reference_word}
use Rattle.cil_meaning.specs.Naming.{strings_from}
use Rattle.unshared.specs.declared.frames.Frames.{Frames as FramesHere}
use Rattle.unshared.specs.Held.{stack_of}
use Rattle.unshared.specs.Silent.{Silent, ◌>>=◌, stuck, there, where_so}

abbrev pub only : List ℕ → Silent ℕ
only [] = stuck
only (w ∷ []) = Ok w
only (w ∷ v ∷ ws) = stuck

-- the one word of a value, with its kind
unfoldable pub word_of : Value → Silent (Kind × ℕ)
word_of (Plain kind words) = only words >>= (λ w. Ok (kind, w))
word_of (Managed q) = stuck

-- the word of a reference
unfoldable pub reference_of : Value → Silent ℕ
reference_of v = do
  r ← word_of v
  where_so (is_reference_word r.0) (Ok r.1)

-- the word of a value of this kind
unfoldable pub word_in_kind : Kind → Value → Silent ℕ
word_in_kind kind v = do
  r ← word_of v
  where_so (same_kind kind r.0) (Ok r.1)

unfoldable pub pointer_of : Value → Silent Pointer
pointer_of (Plain kind words) = stuck
pointer_of (Managed q) = Ok q

-- the number of an object that a reference refers to
unfoldable pub object_of : ℕ → Silent ℕ
object_of w = where_so (nat_lt w strings_from) (Ok w)

-- the value so far below the top of the stack
abbrev pub value_at : FramesHere → ℕ → Silent Value
value_at f below = there (slice_get (stack_of f) below)

-- the reference that stands there, and the pointer
unfoldable pub reference_at : FramesHere → ℕ → Silent ℕ
reference_at f below = do
  v ← value_at f below
  reference_of v

unfoldable pub pointer_at : FramesHere → ℕ → Silent Pointer
pointer_at f below = do
  v ← value_at f below
  pointer_of v

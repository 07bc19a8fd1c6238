-- What instructions on fields, static fields and words through a pointer come to. Only private contracts cite it.
use Rattle.std.specs.Prelude.{ℕ, ◌+◌, Bool, false, if◌then◌else◌, List, [], ◌∷◌, replicate, Option, Some, None, option_map}
use Rattle.type_tree.specs.declared.tree.TExpr.{TExpr}
use Rattle.il_model.specs.declared.program.Program.{Program}
use Rattle.il_model.specs.Layouts.{words_of}
use Rattle.cil_meaning.specs.Values.{Pointer, InStatic, Value, Plain, Managed, shifted, is_struct}
use Rattle.cil_meaning.specs.Search.{null_reference}
use Rattle.cil_meaning.specs.Offsets.{instance_offset, static_offset}
use Rattle.unshared.specs.declared.frames.Frames.{Frames as FramesHere}
use Rattle.unshared.specs.Boxed.{words_on}
use Rattle.unshared.specs.Going.{Did, Goes, Throws, goes_on, went_with, stack_with}
use Rattle.unshared.specs.Held.{places_of}
use Rattle.unshared.specs.Kept.{words_kept}
use Rattle.unshared.specs.Memory.{reads_at, writes_at}
use Rattle.unshared.specs.Operands.{value_at, pointer_at}
use Rattle.unshared.specs.Owners.{owner_of, owner_pointer, value_part}
use Rattle.unshared.specs.Silent.{there}
use Rattle.unshared.specs.Talk.{Talk, ◌>>=◌, pure, say}

abbrev pub moved_on : ℕ → Option Pointer → Option Pointer
moved_on offset o = option_map (λ q. shifted q offset) o

abbrev pub is_struct_value : Value → Bool
is_struct_value (Plain kind words) = is_struct kind
is_struct_value (Managed q) = false

-- the words of a type where a pointer leads, in place of so many values
unfoldable pub reads_words : Program → TExpr → FramesHere → ℕ → Pointer → Talk Did
reads_words p t f taken q = do
  words ← reads_at (places_of f) q (words_of p t)
  pure (words_on p t f taken words)

abbrev pub reads_to : Program → TExpr → FramesHere → Option Pointer → Talk Did
reads_to p t f None = pure (Throws null_reference)
reads_to p t f (Some q) = reads_words p t f 1 q

-- words put where a pointer leads
unfoldable pub writes_words : FramesHere → ℕ → List ℕ → Pointer → Talk Did
writes_words f taken words q = do
  places ← writes_at (places_of f) q words
  pure (Goes (went_with f (f.top.at + 1) places (stack_with f taken [])))

abbrev pub writes_to : FramesHere → ℕ → List ℕ → Option Pointer → Talk Did
writes_to f taken words None = pure (Throws null_reference)
writes_to f taken words (Some q) = writes_words f taken words q

-- Fields. -----------------------------------------------------------------

unfoldable pub reads_struct : Program → TExpr → FramesHere → ℕ → Value → Talk Did
reads_struct p t f offset v = do
  words ← say (value_part v offset (words_of p t))
  pure (words_on p t f 1 words)

unfoldable pub reads_owned : Program → TExpr → FramesHere → ℕ → Value → Talk Did
reads_owned p t f offset v = do
  owner ← say (owner_of v)
  reads_to p t f (moved_on offset owner)

unfoldable pub reads_field : Program → (class : TExpr) → ℕ → TExpr → FramesHere → Talk Did
reads_field p class place t f = do
  offset ← say (there (instance_offset p class place))
  v ← say (value_at f 0)
  if is_struct_value v then reads_struct p t f offset v else reads_owned p t f offset v

unfoldable pub writes_field : Program → (class : TExpr) → ℕ → TExpr → FramesHere → Talk Did
writes_field p class place t f = do
  offset ← say (there (instance_offset p class place))
  v ← say (value_at f 0)
  words ← say (words_kept p t v)
  u ← say (value_at f 1)
  owner ← say (owner_of u)
  writes_to f 2 words (moved_on offset owner)

abbrev pub points_to : FramesHere → Option Pointer → Did
points_to f None = Throws null_reference
points_to f (Some q) = goes_on f 1 (Managed q ∷ [])

unfoldable pub points_field : Program → (class : TExpr) → ℕ → FramesHere → Talk Did
points_field p class place f = do
  offset ← say (there (instance_offset p class place))
  v ← say (value_at f 0)
  owner ← say (owner_of v)
  pure (points_to f (moved_on offset owner))

-- Static fields. ----------------------------------------------------------

unfoldable pub reads_static : Program → (class : TExpr) → ℕ → TExpr → ℕ → FramesHere → Talk Did
reads_static p class place t number f = do
  offset ← say (there (static_offset p class place))
  reads_words p t f 0 (InStatic number offset)

unfoldable pub writes_static : Program → (class : TExpr) → ℕ → TExpr → ℕ → FramesHere → Talk Did
writes_static p class place t number f = do
  offset ← say (there (static_offset p class place))
  v ← say (value_at f 0)
  words ← say (words_kept p t v)
  writes_words f 1 words (InStatic number offset)

unfoldable pub points_static : Program → (class : TExpr) → ℕ → ℕ → FramesHere → Talk Did
points_static p class place number f = do
  offset ← say (there (static_offset p class place))
  pure (goes_on f 0 (Managed (InStatic number offset) ∷ []))

-- Words through a pointer. ------------------------------------------------

unfoldable pub reads_object : Program → TExpr → FramesHere → Talk Did
reads_object p t f = do
  q ← say (pointer_at f 0)
  reads_to p t f (owner_pointer q)

unfoldable pub writes_object : Program → TExpr → FramesHere → Talk Did
writes_object p t f = do
  q ← say (pointer_at f 1)
  v ← say (value_at f 0)
  words ← say (words_kept p t v)
  writes_to f 2 words (owner_pointer q)

unfoldable pub clears_object : Program → TExpr → FramesHere → Talk Did
clears_object p t f = do
  q ← say (pointer_at f 0)
  writes_to f 1 (replicate (words_of p t) 0) (owner_pointer q)

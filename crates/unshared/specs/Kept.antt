-- What places keep of values, and the words that frames have where pointers lead. Only private contracts cite it.
use Rattle.std.specs.Prelude.{ℕ, ◌+◌, ◌==◌, nat_le, List, [], ◌∷◌, length, Option, Some, None, Ok, slice_get}
use Rattle.type_tree.specs.declared.tree.TExpr.{TExpr}
use Rattle.il_model.specs.declared.program.Program.{Program}
use Rattle.il_model.specs.declared.method.PType.{PType}
use Rattle.il_model.specs.declared.method.PType.TheVariants as ptype
use Rattle.il_model.specs.Layouts.{words_of}
use Rattle.cil_meaning.specs.Values.{Kind, Native, Struct, Value, Plain, Managed, same_kind, is_native}
use Rattle.cil_meaning.specs.Words.{cut, spliced}
use Rattle.cil_meaning.specs.Types.{kind_of, kept}
use Rattle.cil_meaning.specs.Frames.{Places, places_at, with_places, with_held, with_fresh}
use Rattle.unshared.specs.Silent.{Silent, ◌>>=◌, stuck, there, where_so}
use Rattle.unshared.specs.Operands.{word_of, pointer_of}

-- the words of a value, and its kind
abbrev pub all_words : Value → Silent (List ℕ)
all_words (Plain kind words) = Ok words
all_words (Managed q) = stuck

abbrev pub kind_in : Value → Kind
kind_in (Plain kind words) = kind
kind_in (Managed q) = Struct

-- the words that a place of the type keeps of a value that fits it
unfoldable pub words_kept : Program → TExpr → Value → Silent (List ℕ)
words_kept p t v = do
  words ← all_words v
  where_so (same_kind (kind_in v) (kind_of p t)) (where_so (length words == words_of p t) (Ok (kept t words)))

-- the value that it keeps
unfoldable pub value_kept : Program → TExpr → Value → Silent Value
value_kept p t v = do
  words ← words_kept p t v
  Ok (Plain (kind_of p t) words)

unfoldable pub native_kept : Value → Silent Value
native_kept v = do
  r ← word_of v
  where_so (is_native r.0) (Ok (Plain Native (r.1 ∷ [])))

unfoldable pub pointer_kept : Value → Silent Value
pointer_kept v = do
  q ← pointer_of v
  Ok (Managed q)

-- what a parameter or a local keeps of a value that fits it
abbrev pub place_kept : Program → PType → Value → Silent Value
place_kept p (ptype.Value t) v = value_kept p t v
place_kept p (ptype.Pointer t) v = pointer_kept v
place_kept p ptype.Native v = native_kept v

-- Words in frames. --------------------------------------------------------

-- so many of the words from this one on, if there are as many
unfoldable pub part_of : List ℕ → (from count : ℕ) → Silent (List ℕ)
part_of words i n = where_so (nat_le (i + n) (length words)) (Ok (cut words i n))

-- the words, with others in place of those from this one on
unfoldable pub changed : List ℕ → (from : ℕ) → List ℕ → Silent (List ℕ)
changed words i new = where_so (nat_le (i + length new) (length words)) (Ok (spliced words i new))

-- so many words of a place of a frame, and of the struct that a frame builds
unfoldable pub held_part : List Places → (level place word count : ℕ) → Silent (List ℕ)
held_part pl level place word n = do
  p ← there (places_at pl level)
  v ← there (slice_get p.held place)
  words ← all_words v
  part_of words word n

unfoldable pub fresh_part : List Places → (level word count : ℕ) → Silent (List ℕ)
fresh_part pl level word n = do
  p ← there (places_at pl level)
  part_of p.fresh word n

-- a value with other words
unfoldable pub value_with : Value → (word : ℕ) → List ℕ → Silent Value
value_with v word new = do
  words ← all_words v
  after ← changed words word new
  Ok (Plain (kind_in v) after)

-- the places with another value in a place of the frame at this level, or with other words that it builds
abbrev pub held_at : List Places → (level place : ℕ) → Value → Option Places → List Places
held_at pl level place v None = pl
held_at pl level place v (Some p) = with_places pl level (with_held p place v)

abbrev pub held_with : List Places → (level place : ℕ) → Value → List Places
held_with pl level place v = held_at pl level place v (places_at pl level)

abbrev pub fresh_by : List Places → (level : ℕ) → List ℕ → Option Places → List Places
fresh_by pl level words None = pl
fresh_by pl level words (Some p) = with_places pl level (with_fresh p words)

abbrev pub fresh_with : List Places → (level : ℕ) → List ℕ → List Places
fresh_with pl level words = fresh_by pl level words (places_at pl level)

-- the places after words were put into a place of a frame, and into the struct that a frame builds
unfoldable pub with_words : List Places → (level place word : ℕ) → List ℕ → Silent (List Places)
with_words pl level place word new = do
  p ← there (places_at pl level)
  v ← there (slice_get p.held place)
  u ← value_with v word new
  Ok (with_places pl level (with_held p place u))

unfoldable pub with_built : List Places → (level word : ℕ) → List ℕ → Silent (List Places)
with_built pl level word new = do
  p ← there (places_at pl level)
  words ← changed p.fresh word new
  Ok (with_places pl level (with_fresh p words))

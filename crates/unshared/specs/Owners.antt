-- Where the words of an object or of a struct begin. Only private contracts cite it.
use Rattle.std.specs.Prelude.{ℕ, ◌==◌, if◌then◌else◌, List, Option, Some, None, Ok}
use Rattle.cil_meaning.specs.Values.{Kind, Pointer, Null, InFrame, InFresh, InObject, InStatic, Value, Plain, Managed, is_reference_word}
use Rattle.unshared.specs.Kept.{all_words, part_of}
use Rattle.unshared.specs.Operands.{only, object_of}
use Rattle.unshared.specs.Silent.{Silent, ◌>>=◌, stuck}

-- by a reference, which may be null
unfoldable pub owner_word : ℕ → Silent (Option Pointer)
owner_word w = if w == 0 then Ok None else (do
  o ← object_of w
  Ok (Some (InObject o 0)))

abbrev pub owner_plain : Kind → List ℕ → Silent (Option Pointer)
owner_plain kind words = if is_reference_word kind then only words >>= owner_word else stuck

abbrev pub owner_pointer : Pointer → Option Pointer
owner_pointer Null = None
owner_pointer (InFrame level place word) = Some (InFrame level place word)
owner_pointer (InFresh level word) = Some (InFresh level word)
owner_pointer (InObject object index) = Some (InObject object index)
owner_pointer (InStatic kind index) = Some (InStatic kind index)

-- by a reference or a pointer
unfoldable pub owner_of : Value → Silent (Option Pointer)
owner_of (Plain kind words) = owner_plain kind words
owner_of (Managed q) = Ok (owner_pointer q)

-- so many words of a value from this one on
unfoldable pub value_part : Value → (from count : ℕ) → Silent (List ℕ)
value_part v i n = do
  words ← all_words v
  part_of words i n

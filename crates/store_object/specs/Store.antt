-- The store: what it holds, and how a request reads and changes that. This project's own.
use Rattle.std.specs.Prelude.{ℕ, ◌+◌, ◌-◌, ◌%◌, ◌^◌, List, [], ◌∷◌, ◌++◌, length, Bool, true, false, ◌&&◌, not, ◌==◌, nat_lt, if◌then◌else◌, Option, None, is_some, unwrap_or, slice_get, slice_index_or, slice_set, sum_by}
use Rattle.store_object.specs.declared.limits.TheConstants.{OBJECT_COST, INDEX_LIMIT}
use Rattle.store_object.specs.declared.place.Place.{Place}
use Rattle.store_object.specs.declared.place.Place.TheVariants as at

-- what never changes of an object
pub record Shape : Type 0 where
  pub kind : ℕ
  pub length : ℕ
  pub words : ℕ

-- the objects in order of allocation, numbered from 1; the word of each object, by its number and an index;
-- the static words, by kind and index; whether each started thread has finished; whether the history has ended
pub record Store : Type 0 where
  pub shapes : List Shape
  pub word : ℕ → ℕ → ℕ
  pub fixed : ℕ → ℕ → ℕ
  pub finished : List Bool
  pub is_over : Bool

-- no objects, all static words 0, and thread 0
abbrev pub opening : Store
opening = record { shapes = []; word = λ object index. 0; fixed = λ kind index. 0; finished = false ∷ []; is_over = false }

-- What is there ---------------------------------------------------------

-- the shape of the object with a number, if it was allocated
abbrev pub shape_at : Store → ℕ → Option Shape
shape_at s object = if object == 0 then None else slice_get s.shapes (object - 1)

abbrev pub is_object : Store → ℕ → Bool
is_object s object = is_some (shape_at s object)

-- the shape of an object that was allocated
abbrev pub shape_of : Store → ℕ → Shape
shape_of s object = unwrap_or (shape_at s object) (record { kind = 0; length = 0; words = 0 })

abbrev pub is_place : Store → Place → Bool
is_place s (at.Object object index) = is_object s object && (nat_lt index (shape_of s object).words && nat_lt index INDEX_LIMIT)
is_place s (at.Fixed kind index) = nat_lt index INDEX_LIMIT

-- the thread was started, and hasn't finished
abbrev pub is_live : Store → ℕ → Bool
is_live s thread = not (slice_index_or s.finished thread true)

-- what the objects take of the heap
abbrev pub heap_of : List Shape → ℕ
heap_of shapes = sum_by (λ shape. OBJECT_COST + shape.words) shapes

-- Words -----------------------------------------------------------------

abbrev pub word_at : Store → Place → ℕ
word_at s (at.Object object index) = s.word object index
word_at s (at.Fixed kind index) = s.fixed kind index

-- the words, but this one at these two numbers
abbrev pub with_value : (ℕ → ℕ → ℕ) → ℕ → ℕ → ℕ → ℕ → ℕ → ℕ
with_value words a b value x y = if (a == x) && (b == y) then value else words x y

abbrev pub with_word : Store → Place → ℕ → Store
with_word s (at.Object object index) value = record s { word = with_value s.word object index value }
with_word s (at.Fixed kind index) value = record s { fixed = with_value s.fixed kind index value }

-- a word of 32 bits as one of 64, with its sign
abbrev pub sign_extended : ℕ → ℕ
sign_extended low = if nat_lt low (2 ^ 31) then low else low + (2 ^ 64 - 2 ^ 32)

-- the sum of two words, at 32 bits where it is narrow, and else at 64
abbrev pub summed : Bool → ℕ → ℕ → ℕ
summed true old value = sign_extended ((old + value) % 2 ^ 32)
summed false old value = (old + value) % 2 ^ 64

-- Objects, threads and the end ------------------------------------------

-- one more object, whose words are all 0
abbrev pub with_object : Store → Shape → Store
with_object s shape = record s {
  shapes = s.shapes ++ shape ∷ [];
  word = λ object index. if object == length s.shapes + 1 then 0 else s.word object index;
}

abbrev pub with_thread : Store → Store
with_thread s = record s { finished = s.finished ++ false ∷ [] }

abbrev pub without_thread : Store → ℕ → Store
without_thread s thread = record s { finished = slice_set s.finished thread true }

abbrev pub ended : Store → Store
ended s = record s { is_over = true }

-- What instructions on vectors come to. Only private contracts cite it.
use Rattle.std.specs.Prelude.{ℕ, ◌*◌, nat_lt, ◌==◌, Bool, ◌||◌, if◌then◌else◌, List, [], ◌∷◌}
use Rattle.type_tree.specs.declared.tree.TExpr.{TExpr}
use Rattle.il_model.specs.declared.program.Program.{Program}
use Rattle.il_model.specs.Kinds.{is_reference}
use Rattle.il_model.specs.Assignable.{element_of}
use Rattle.il_model.specs.Layouts.{words_of}
use Rattle.store_object.specs.declared.place.Place.TheVariants as at
use Rattle.store_object.specs.declared.request.Request.TheVariants as ask
use Rattle.cil_meaning.specs.Arrays.{most_length, negative_from}
use Rattle.cil_meaning.specs.Values.{Native, Plain, Int32, is_int32, is_native}
use Rattle.cil_meaning.specs.Types.{passes_as}
use Rattle.cil_meaning.specs.Search.{overflow, null_reference, index_out_of_range, array_type_mismatch}
use Rattle.unshared.specs.declared.arrays.Element.{Element as ElementHere}
use Rattle.unshared.specs.declared.arrays.Element.TheVariants as element
use Rattle.unshared.specs.declared.frames.Frames.{Frames as FramesHere}
use Rattle.unshared.specs.Boxed.{reference_on, words_on}
use Rattle.unshared.specs.Calculated.{one_word}
use Rattle.unshared.specs.Faults.{the_fault}
use Rattle.unshared.specs.Going.{Did, Throws, goes_on}
use Rattle.unshared.specs.Kept.{words_kept}
use Rattle.unshared.specs.Memory.{loads_from, saves_all, exact_of, type_of}
use Rattle.unshared.specs.Operands.{value_at, reference_at, object_of, word_in_kind, only}
use Rattle.unshared.specs.Silent.{stuck, there}
use Rattle.unshared.specs.Talk.{Talk, ◌>>=◌, ◌>>◌, pure, say, asks_object, asks_word}

-- a new vector of the type with this number, of elements of so many words
unfoldable pub allocates_of : ℕ → (length size : ℕ) → FramesHere → Talk Did
allocates_of number length size f = do
  o ← asks_object (ask.Alloc number length (length * size))
  pure (reference_on f 1 o)

abbrev pub allocates_by : Program → ℕ → TExpr → FramesHere → ℕ → Talk Did
allocates_by p number t f length =
    if nat_lt length most_length then allocates_of number length (words_of p t) f
    else (if nat_lt length negative_from then say stuck else pure (Throws overflow))

unfoldable pub allocates : Program → ℕ → TExpr → FramesHere → Talk Did
allocates p number t f = do
  r ← say (one_word f)
  if is_int32 r.0 || is_native r.0 then allocates_by p number t f r.1 else say stuck

unfoldable pub measures : FramesHere → Talk Did
measures f = do
  w ← say (reference_at f 0)
  if w == 0 then pure (Throws null_reference) else (do
    o ← say (object_of w)
    length ← asks_word (ask.Length o)
    pure (goes_on f 1 (Plain Native (length ∷ []) ∷ [])))

-- an element that an instruction names, by its vector and its index, or what is thrown for it
pub data Element : Type 0 where
  At : (vector index : ℕ) → Element
  Missing : ℕ → Element

abbrev pub the_element : ElementHere → Element
the_element (element.At vector index) = At vector index
the_element (element.Missing fault) = Missing (the_fault fault)

unfoldable pub index_at : FramesHere → ℕ → Talk ℕ
index_at f below = do
  v ← say (value_at f below)
  say (word_in_kind Int32 v)

unfoldable pub measured : ℕ → ℕ → Talk Element
measured w i = do
  o ← say (object_of w)
  length ← asks_word (ask.Length o)
  pure (if nat_lt i length then At o i else Missing index_out_of_range)

-- the element of the vector and the index that stand so far below the top
unfoldable pub element_at : FramesHere → (vector index : ℕ) → Talk Element
element_at f vector index = do
  i ← index_at f index
  w ← say (reference_at f vector)
  if w == 0 then pure (Missing null_reference) else measured w i

unfoldable pub reads_words : Program → TExpr → FramesHere → ℕ → ℕ → Talk Did
reads_words p t f o i = do
  words ← loads_from (words_of p t) (at.Object o (i * words_of p t)) []
  pure (words_on p t f 2 words)

abbrev pub reads_from : Program → TExpr → FramesHere → Element → Talk Did
reads_from p t f (At o i) = reads_words p t f o i
reads_from p t f (Missing fault) = pure (Throws fault)

unfoldable pub reads_element : Program → TExpr → FramesHere → Talk Did
reads_element p t f = element_at f 1 0 >>= reads_from p t f

-- the words of an element are put into it
unfoldable pub puts : (vector index size : ℕ) → List ℕ → FramesHere → Talk Did
puts o i size words f = do
  saves_all words (at.Object o (i * size))
  pure (goes_on f 3 [])

-- whether a reference that isn't null passes as the vector's own element type
unfoldable pub may_put : Program → List TExpr → (vector reference : ℕ) → Talk Bool
may_put p kinds o r = do
  vector ← exact_of p kinds o
  item ← exact_of p kinds r
  vector_type ← say (type_of kinds vector)
  exact ← say (type_of kinds item)
  own ← say (there (element_of vector_type))
  pure (passes_as p exact own)

unfoldable pub puts_tested : Program → List TExpr → (vector index reference : ℕ) → FramesHere → Talk Did
puts_tested p kinds o i r f = do
  may ← may_put p kinds o r
  if may then puts o i 1 (r ∷ []) f else pure (Throws array_type_mismatch)

abbrev pub puts_reference : Program → List TExpr → (vector index reference : ℕ) → FramesHere → Talk Did
puts_reference p kinds o i r f = if r == 0 then puts o i 1 (r ∷ []) f else puts_tested p kinds o i r f

unfoldable pub puts_one : Program → List TExpr → (vector index : ℕ) → List ℕ → FramesHere → Talk Did
puts_one p kinds o i words f = do
  r ← say (only words)
  puts_reference p kinds o i r f

abbrev pub puts_into : Program → List TExpr → TExpr → List ℕ → FramesHere → Element → Talk Did
puts_into p kinds t words f (At o i) = if is_reference p t then puts_one p kinds o i words f else puts o i (words_of p t) words f
puts_into p kinds t words f (Missing fault) = pure (Throws fault)

unfoldable pub writes_element : Program → List TExpr → TExpr → FramesHere → Talk Did
writes_element p kinds t f = do
  x ← say (value_at f 0)
  words ← say (words_kept p t x)
  e ← element_at f 2 1
  puts_into p kinds t words f e

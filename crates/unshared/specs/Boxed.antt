-- What instructions on boxes and casts come to. Only private contracts cite it.
use Rattle.std.specs.Prelude.{ℕ, ◌==◌, Bool, true, if◌then◌else◌, List, [], ◌∷◌, length}
use Rattle.type_tree.specs.declared.tree.TExpr.{TExpr}
use Rattle.il_model.specs.declared.program.Program.{Program}
use Rattle.il_model.specs.Kinds.{is_reference}
use Rattle.il_model.specs.Layouts.{words_of}
use Rattle.store_object.specs.declared.place.Place.TheVariants as at
use Rattle.store_object.specs.declared.request.Request.TheVariants as ask
use Rattle.cil_meaning.specs.Values.{Reference, Plain}
use Rattle.cil_meaning.specs.Types.{kind_of, passes_as}
use Rattle.cil_meaning.specs.Search.{null_reference, invalid_cast}
use Rattle.cil_meaning.specs.Pieces.{Exact, Text, Numbered}
use Rattle.unshared.specs.declared.frames.Frames.{Frames as FramesHere}
use Rattle.unshared.specs.Going.{Did, Throws, goes_on}
use Rattle.unshared.specs.Kept.{words_kept}
use Rattle.unshared.specs.Memory.{loads_from, saves_all, exact_of, type_of}
use Rattle.unshared.specs.Operands.{value_at, reference_at, object_of}
use Rattle.unshared.specs.Talk.{Talk, ◌>>=◌, ◌>>◌, pure, say, asks_object}

-- a reference in place of so many values
abbrev pub reference_on : FramesHere → ℕ → ℕ → Did
reference_on f taken w = goes_on f taken (Plain Reference (w ∷ []) ∷ [])

-- words of a type in place of so many values
abbrev pub words_on : Program → TExpr → FramesHere → ℕ → List ℕ → Did
words_on p t f taken words = goes_on f taken (Plain (kind_of p t) words ∷ [])

-- a new box of the type with this number, holding these words
unfoldable pub boxes_new : ℕ → List ℕ → Talk ℕ
boxes_new number words = do
  o ← asks_object (ask.Alloc number 0 (length words))
  saves_all words (at.Object o 0)
  pure o

unfoldable pub boxes_value : Program → ℕ → TExpr → FramesHere → Talk Did
boxes_value p number t f = do
  u ← say (value_at f 0)
  words ← say (words_kept p t u)
  o ← boxes_new number words
  pure (reference_on f 1 o)

unfoldable pub stays : FramesHere → Talk Did
stays f = do
  u ← say (value_at f 0)
  pure (goes_on f 0 [])

unfoldable pub boxes : Program → ℕ → TExpr → FramesHere → Talk Did
boxes p number t f = if is_reference p t then stays f else boxes_value p number t f

-- whether a reference passes as a type; null passes
unfoldable pub passes : Program → List TExpr → TExpr → ℕ → Talk Bool
passes p kinds t w = if w == 0 then pure true else (do
  e ← exact_of p kinds w
  exact ← say (type_of kinds e)
  pure (passes_as p exact t))

unfoldable pub casts : Program → List TExpr → TExpr → FramesHere → Talk Did
casts p kinds t f = do
  w ← say (reference_at f 0)
  passed ← passes p kinds t w
  pure (if passed then reference_on f 1 w else Throws invalid_cast)

unfoldable pub tests : Program → List TExpr → TExpr → FramesHere → Talk Did
tests p kinds t f = do
  w ← say (reference_at f 0)
  passed ← passes p kinds t w
  pure (reference_on f 1 (if passed then w else 0))

-- the words of a box of exactly the type with this number
unfoldable pub unboxes_words : Program → TExpr → FramesHere → ℕ → Talk Did
unboxes_words p t f w = do
  o ← say (object_of w)
  words ← loads_from (words_of p t) (at.Object o 0) []
  pure (words_on p t f 1 words)

abbrev pub unboxes_exact : Program → ℕ → TExpr → FramesHere → ℕ → Exact → Talk Did
unboxes_exact p number t f w Text = pure (Throws invalid_cast)
unboxes_exact p number t f w (Numbered e) = if e == number then unboxes_words p t f w else pure (Throws invalid_cast)

unfoldable pub unboxes_value : Program → List TExpr → ℕ → TExpr → FramesHere → Talk Did
unboxes_value p kinds number t f = do
  w ← say (reference_at f 0)
  if w == 0 then pure (Throws null_reference) else (exact_of p kinds w >>= unboxes_exact p number t f w)

unfoldable pub unboxes : Program → List TExpr → ℕ → TExpr → FramesHere → Talk Did
unboxes p kinds number t f = if is_reference p t then casts p kinds t f else unboxes_value p kinds number t f

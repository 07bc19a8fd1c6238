-- What calls of the library that have no body come to. Only private contracts cite it.
use Rattle.std.specs.Prelude.{ℕ, ◌+◌, ◌==◌, nat_lt, if◌then◌else◌, List, [], ◌∷◌, Bool, true, false, Option, Some, None, Ok}
use Rattle.type_tree.specs.declared.tree.TExpr.{TExpr}
use Rattle.il_model.specs.declared.program.Program.{Program}
use Rattle.store_object.specs.declared.request.Form.{Form}
use Rattle.store_object.specs.declared.request.Form.TheVariants as printed
use Rattle.store_object.specs.declared.place.Place.{Place}
use Rattle.store_object.specs.declared.place.Place.TheVariants as at
use Rattle.store_object.specs.declared.request.Request.TheVariants as ask
use Rattle.cil_meaning.specs.Words.{low_32}
use Rattle.cil_meaning.specs.Naming.{strings_from, name_word}
use Rattle.cil_meaning.specs.Values.{Kind, Int32, Pointer, Null, InFrame, InFresh, InObject, InStatic, Plain}
use Rattle.cil_meaning.specs.Search.{null_reference, index_out_of_range}
use Rattle.cil_meaning.specs.Groups.{Swapping, Exchanging, Comparing, Adding}
use Rattle.cil_meaning.specs.LibraryCalls.{request_of, gives, leaves}
use Rattle.unshared.specs.declared.frames.Frames.{Frames as FramesHere}
use Rattle.unshared.specs.Boxed.{reference_on}
use Rattle.unshared.specs.Going.{Did, Goes, Throws, goes_on, went_with, stack_with}
use Rattle.unshared.specs.Held.{the_frames, places_of}
use Rattle.unshared.specs.Memory.{string_of, reads_at, writes_at}
use Rattle.unshared.specs.Operands.{value_at, reference_at, pointer_at, word_in_kind, object_of, only}
use Rattle.unshared.specs.Silent.{Silent, stuck}
use Rattle.unshared.specs.Talk.{Talk, ◌>>=◌, ◌>>◌, pure, say, asks_word, asks_thread, asks_ended, asks_done}

-- the word of a value of a kind that stands so far below the top
unfoldable pub kind_word_at : Kind → FramesHere → ℕ → Talk ℕ
kind_word_at kind f below = do
  v ← say (value_at f below)
  say (word_in_kind kind v)

-- a string word that isn't null is judged before it is printed
unfoldable pub judged_string : Program → List TExpr → ℕ → Silent (Unit {0})
judged_string p kinds w = if w == 0 then Ok tt else (if nat_lt w strings_from then stuck else string_of p kinds w)

abbrev pub judged : Program → List TExpr → Form → ℕ → Silent (Unit {0})
judged p kinds printed.Number w = Ok tt
judged p kinds printed.String w = judged_string p kinds w

unfoldable pub prints : Program → List TExpr → Form → Kind → FramesHere → Talk Did
prints p kinds form kind f = do
  w ← kind_word_at kind f 0
  say (judged p kinds form w)
  asks_done (ask.Print form w)
  pure (goes_on f 1 [])

-- the word and the comparand of an exchange, how many values stand above the pointer, and how many are taken
pub record Given : Type 0 where
  pub word : ℕ
  pub comparand : ℕ
  pub above : ℕ
  pub taken : ℕ

unfoldable pub gives_one : Kind → FramesHere → Talk Given
gives_one kind f = do
  w ← kind_word_at kind f 0
  pure (record { word = w; comparand = 0; above = 1; taken = 2 })

unfoldable pub gives_two : Kind → FramesHere → Talk Given
gives_two kind f = do
  c ← kind_word_at kind f 0
  w ← kind_word_at kind f 1
  pure (record { word = w; comparand = c; above = 2; taken = 3 })

abbrev pub operands : Swapping → Kind → FramesHere → Talk Given
operands Exchanging kind f = gives_one kind f
operands Comparing kind f = gives_two kind f
operands Adding kind f = gives_one kind f

abbrev pub word_on : Kind → FramesHere → Given → ℕ → Did
word_on kind f g w = goes_on f g.taken (Plain kind (w ∷ []) ∷ [])

unfoldable pub swaps_stored : Swapping → Kind → FramesHere → Given → Place → Talk Did
swaps_stored form kind f g place = do
  w ← asks_word (request_of form kind place g.word g.comparand)
  pure (word_on kind f g w)

-- in a frame it makes no request
unfoldable pub swaps_held : Swapping → Kind → FramesHere → Given → Pointer → Talk Did
swaps_held form kind f g q = do
  words ← reads_at (places_of f) q 1
  old ← say (only words)
  places ← writes_at (places_of f) q (leaves form kind old g.word g.comparand ∷ [])
  pure (Goes (went_with f (f.top.at + 1) places (stack_with f g.taken (Plain kind (gives form kind old g.word g.comparand ∷ []) ∷ []))))

abbrev pub swaps_at : Swapping → Kind → FramesHere → Given → Pointer → Talk Did
swaps_at form kind f g Null = pure (Throws null_reference)
swaps_at form kind f g (InFrame level place i) = swaps_held form kind f g (InFrame level place i)
swaps_at form kind f g (InFresh level i) = swaps_held form kind f g (InFresh level i)
swaps_at form kind f g (InObject object index) = swaps_stored form kind f g (at.Object object index)
swaps_at form kind f g (InStatic number index) = swaps_stored form kind f g (at.Fixed number index)

unfoldable pub swaps : Swapping → Kind → FramesHere → Talk Did
swaps form kind f = do
  g ← operands form kind f
  q ← say (pointer_at f g.above)
  swaps_at form kind f g q

abbrev pub names : ℕ → FramesHere → Did
names number f = reference_on f 0 (name_word number)

unfoldable pub starts : FramesHere → Talk Did
starts f = do
  w ← say (reference_at f 0)
  if w == 0 then pure (Throws null_reference) else (do
    o ← say (object_of w)
    thread ← asks_thread (ask.Start o)
    pure (goes_on f 1 (Plain Int32 (thread ∷ []) ∷ [])))

-- while the other thread has not finished, it is the same instruction again
abbrev pub joined : FramesHere → Option Bool → Did
joined f (Some true) = goes_on f 1 []
joined f (Some false) = Goes (the_frames f)
joined f None = Throws index_out_of_range

unfoldable pub joins : FramesHere → Talk Did
joins f = do
  w ← kind_word_at Int32 f 0
  ended ← asks_ended (ask.Ended (low_32 w))
  pure (joined f ended)

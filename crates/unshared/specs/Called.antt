-- What calls, new objects and returns come to. Only private contracts cite it.
use Rattle.std.specs.Prelude.{ℕ, ◌+◌, ◌==◌, nat_lt, if◌then◌else◌, List, [], ◌∷◌, ◌++◌, length, map, drop, replicate, Option, Some, None, Ok, slice_get}
use Rattle.type_tree.specs.declared.tree.TExpr.{TExpr}
use Rattle.il_model.specs.declared.program.Program.{Program}
use Rattle.il_model.specs.declared.method.MethodDef.{MethodDef}
use Rattle.il_model.specs.declared.member.MRef.{MRef}
use Rattle.il_model.specs.declared.layout.MethodTree.{MethodTree}
use Rattle.il_model.specs.Found.{method_at}
use Rattle.il_model.specs.Kinds.{is_value}
use Rattle.il_model.specs.Layouts.{words_of, instance_words_of}
use Rattle.il_model.specs.Slots.{slots_of}
use Rattle.store_object.specs.declared.request.Cause.TheVariants as cause
use Rattle.store_object.specs.declared.request.Request.TheVariants as ask
use Rattle.cil_meaning.specs.Values.{Reference, Struct, InFresh, Value, Plain, Managed}
use Rattle.cil_meaning.specs.Frames.{Awaited, Nothing, Result, Object, Built, Frame, Places, Frames, innermost, outer, with_innermost, with_fresh}
use Rattle.cil_meaning.specs.Types.{argument_places}
use Rattle.cil_meaning.specs.Search.{null_reference}
use Rattle.cil_meaning.specs.Calls.{most_frames, slot_found, object_for, first_frame, first_places, waiting}
use Rattle.cil_meaning.specs.Site.{moved}
use Rattle.cil_meaning.specs.Naming.{put_type}
use Rattle.unshared.specs.declared.frames.Frames.{Frames as FramesHere}
use Rattle.unshared.specs.Going.{Did, Goes, Throws}
use Rattle.unshared.specs.Held.{the_frame, awaited_of, frames_around, places_of, stack_of}
use Rattle.unshared.specs.Memory.{exact_of, type_of}
use Rattle.unshared.specs.Settled.{settles_method}
use Rattle.unshared.specs.Silent.{Silent, stuck, there}
use Rattle.unshared.specs.Taken.{has_values, taken_behind, all_kept, result_kept}
use Rattle.unshared.specs.Talk.{Talk, ◌>>=◌, ◌>>◌, pure, say, stops, over, asks_object, asks_done}

-- a method that is named, with the arguments of an instantiated method put
abbrev pub callee_of : MethodTree → MRef → ℕ → MethodTree
callee_of m named number = record { method = number; class = put_type m named.class; args = map (put_type m) named.args }

-- Frames. -----------------------------------------------------------------

-- where a call leaves the frames: so many values are taken from the caller's stack
abbrev pub entered : Program → MethodTree → MethodDef → List Value → FramesHere → ℕ → Awaited → List ℕ → Frames
entered p m d held f taken awaits fresh = record {
  frames = first_frame m ∷ waiting (the_frame f.top) (drop taken (stack_of f)) awaits ∷ frames_around f;
  places = first_places p m d held ∷ with_innermost (places_of f) (with_fresh (innermost (places_of f)) fresh);
}

-- a frame more, where there are fewer than may be
unfoldable pub has_room : FramesHere → Talk (Unit {0})
has_room f = if nat_lt (length f.around.items + 1) most_frames then pure tt else stops cause.Depth

-- calls a method that has a body, with these arguments
unfoldable pub calls : Program → MethodTree → List Value → FramesHere → ℕ → Awaited → List ℕ → Talk Did
calls p m arguments f taken awaits fresh = do
  d ← say (there (method_at p m.method))
  b ← say (there d.body)
  held ← say (all_kept p (argument_places p m d) arguments)
  has_room f
  pure (Goes (entered p m d held f taken awaits fresh))

-- the method in this slot of an exact type, which is settled
unfoldable pub calls_slot : Program → TExpr → ℕ → (MethodTree → Value) → FramesHere → ℕ → Talk Did
calls_slot p exact slot object f given = do
  m ← say (there (slice_get (slots_of p exact) slot))
  settles_method p m
  all ← say (taken_behind (object m ∷ []) f given)
  calls p m all f (given + 1) Result []

-- the method that a reference's exact type has for the one that is named
unfoldable pub calls_exact : Program → List TExpr → (class : TExpr) → ℕ → ℕ → FramesHere → ℕ → Talk Did
calls_exact p kinds class number w f given = do
  e ← exact_of p kinds w
  exact ← say (type_of kinds e)
  slot ← say (there (slot_found p exact class number))
  calls_slot p exact slot (λ m. object_for (is_value p m.class) w) f given

abbrev pub calls_object : Program → List TExpr → (class : TExpr) → ℕ → ℕ → FramesHere → ℕ → Talk Did
calls_object p kinds class number w f given = if w == 0 then pure (Throws null_reference) else calls_exact p kinds class number w f given

-- Each form. --------------------------------------------------------------

unfoldable pub calls_named : Program → MethodTree → MethodDef → FramesHere → Talk Did
calls_named p m d f = do
  all ← say (taken_behind [] f (length (argument_places p m d)))
  calls p m all f (length (argument_places p m d)) Result []

unfoldable pub calls_plainly : Program → MethodTree → ℕ → FramesHere → ℕ → Talk Did
calls_plainly p m w f given = if w == 0 then pure (Throws null_reference) else (do
  all ← say (taken_behind (Plain Reference (w ∷ []) ∷ []) f given)
  calls p m all f (given + 1) Result [])

-- a struct is built in a fresh place of this frame
unfoldable pub builds : Program → MethodTree → FramesHere → ℕ → Talk Did
builds p m f given = do
  all ← say (taken_behind (Managed (InFresh (length f.around.items) 0) ∷ []) f given)
  calls p m all f given Built (replicate (words_of p m.class) 0)

-- a class's object in the heap
unfoldable pub allocates : Program → MethodTree → ℕ → FramesHere → ℕ → Talk Did
allocates p m number f given = do
  say (has_values f given)
  o ← asks_object (ask.Alloc number 0 (instance_words_of p m.class))
  all ← say (taken_behind (Plain Reference (o ∷ []) ∷ []) f given)
  calls p m all f given (Object o) []

-- Returns. ----------------------------------------------------------------

-- the innermost of these frames goes on after its call, with these values put on its stack
abbrev pub resumes : List Frame → List Places → List Value → Frames
resumes [] pl put = record { frames = []; places = pl }
resumes (f ∷ fs) pl put = record { frames = moved f (f.at + 1) (put ++ f.stack) ∷ fs; places = pl }

abbrev pub returns_to : Awaited → List Frame → List Places → List Value → Silent Did
returns_to Nothing fs pl result = stuck
returns_to Result fs pl result = Ok (Goes (resumes fs pl result))
returns_to (Object o) fs pl result = Ok (Goes (resumes fs pl (Plain Reference (o ∷ []) ∷ [])))
returns_to Built fs pl result = Ok (Goes (resumes fs (with_innermost pl (with_fresh (innermost pl) [])) (Plain Struct (innermost pl).fresh ∷ [])))

-- the first frame's return ends the thread
unfoldable pub finishes : Talk Did
finishes = asks_done ask.Finish >> over

abbrev pub returns_from : Option Awaited → List Frame → List Places → List Value → Talk Did
returns_from None fs pl result = finishes
returns_from (Some a) fs pl result = say (returns_to a fs pl result)

unfoldable pub returns : Program → MethodDef → FramesHere → Talk Did
returns p d f = do
  result ← say (result_kept p f.top.method f d.result)
  returns_from (awaited_of (frames_around f)) (frames_around f) (outer (places_of f)) result

-- What instructions on arguments and locals come to. Only private contracts cite it.
use Rattle.std.specs.Prelude.{ℕ, ◌+◌, [], ◌∷◌, length, Ok, slice_get}
use Rattle.il_model.specs.declared.program.Program.{Program}
use Rattle.il_model.specs.declared.method.MethodDef.{MethodDef}
use Rattle.il_model.specs.declared.method.PType.{PType}
use Rattle.il_model.specs.declared.method.PType.TheVariants as ptype
use Rattle.il_model.specs.declared.layout.MethodTree.{MethodTree}
use Rattle.cil_meaning.specs.Values.{InFrame, Managed}
use Rattle.cil_meaning.specs.Frames.{innermost, with_innermost, with_held}
use Rattle.cil_meaning.specs.Types.{argument_places, local_places}
use Rattle.cil_meaning.specs.Groups.{Slot, Argument, Local}
use Rattle.cil_meaning.specs.Places.{PlaceHere}
use Rattle.unshared.specs.declared.placing.Slot.{Slot as SlotHere}
use Rattle.unshared.specs.declared.placing.Slot.TheVariants as code
use Rattle.unshared.specs.declared.placing.Place.{Place as TheirPlace}
use Rattle.unshared.specs.declared.frames.Frames.{Frames as FramesHere}
use Rattle.unshared.specs.Going.{Did, Goes, goes_on, went_with, stack_with}
use Rattle.unshared.specs.Held.{places_of}
use Rattle.unshared.specs.Kept.{place_kept}
use Rattle.unshared.specs.Operands.{value_at}
use Rattle.unshared.specs.Silent.{Silent, ◌>>=◌, stuck, there}

abbrev pub the_slot : SlotHere → Slot
the_slot (code.Argument n) = Argument n
the_slot (code.Local n) = Local n

abbrev pub the_place : TheirPlace → PlaceHere
the_place x = record { number = x.number; kind = x.kind }

-- the type of the argument, and of the local, with a number
unfoldable pub argument_type : Program → MethodTree → MethodDef → ℕ → Silent PType
argument_type p m d n = there (slice_get (argument_places p m d) n)

unfoldable pub local_type : MethodTree → MethodDef → ℕ → Silent PType
local_type m d n = there (slice_get (local_places m d) n)

-- a place of a frame: its number among the arguments and then the locals, and its type
unfoldable pub argument_found : Program → MethodTree → MethodDef → ℕ → Silent PlaceHere
argument_found p m d n = do
  t ← argument_type p m d n
  Ok (record { number = n; kind = t })

unfoldable pub local_found : Program → MethodTree → MethodDef → ℕ → Silent PlaceHere
local_found p m d n = do
  t ← local_type m d n
  Ok (record { number = length (argument_places p m d) + n; kind = t })

abbrev pub place_found : Program → MethodTree → MethodDef → Slot → Silent PlaceHere
place_found p m d (Argument n) = argument_found p m d n
place_found p m d (Local n) = local_found p m d n

unfoldable pub reads : Program → MethodDef → Slot → FramesHere → Silent Did
reads p d slot f = do
  x ← place_found p f.top.method d slot
  v ← there (slice_get (innermost (places_of f)).held x.number)
  Ok (goes_on f 0 (v ∷ []))

abbrev pub points_to : FramesHere → ℕ → PType → Silent Did
points_to f number (ptype.Value t) = Ok (goes_on f 0 (Managed (InFrame (length f.around.items) number 0) ∷ []))
points_to f number (ptype.Pointer t) = stuck
points_to f number ptype.Native = stuck

unfoldable pub points : Program → MethodDef → Slot → FramesHere → Silent Did
points p d slot f = do
  x ← place_found p f.top.method d slot
  points_to f x.number x.kind

unfoldable pub writes : Program → MethodDef → Slot → FramesHere → Silent Did
writes p d slot f = do
  x ← place_found p f.top.method d slot
  v ← value_at f 0
  u ← place_kept p x.kind v
  Ok (Goes (went_with f (f.top.at + 1) (with_innermost (places_of f) (with_held (innermost (places_of f)) x.number u)) (stack_with f 1 [])))

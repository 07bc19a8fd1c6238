-- The frames of the code, as those of the meaning.
use Rattle.std.specs.Prelude.{List, ◌∷◌, map, reverse, slice_get, option_map, Option, Some, None}
use Rattle.il_model.specs.declared.method.MethodDef.{MethodDef}
use Rattle.unshared.specs.declared.frames.Awaited.{Awaited as AwaitedHere}
use Rattle.unshared.specs.declared.frames.Awaited.TheVariants as awaited
use Rattle.unshared.specs.declared.frames.Frame.{Frame as FrameHere}
use Rattle.unshared.specs.declared.frames.Places.{Places as PlacesHere}
use Rattle.unshared.specs.declared.frames.Frames.{Frames as FramesHere}
use Rattle.unshared.specs.declared.value.Value.{Value as ValueHere}
use Rattle.cil_meaning.specs.Values.{Value}
use Rattle.cil_meaning.specs.Frames.{Awaited, Nothing, Result, Object, Built, Frame, Places, Frames}
use Rattle.cil_meaning.specs.Site.{Site}
use Rattle.unshared.specs.Forms.{the_value}

abbrev pub the_awaited : AwaitedHere → Awaited
the_awaited awaited.Nothing = Nothing
the_awaited awaited.Result = Result
the_awaited (awaited.Object number) = Object number
the_awaited awaited.Built = Built

-- a stack whose top stands last, with the top first
abbrev pub the_stack : List ValueHere → List Value
the_stack values = reverse (map the_value values)

abbrev pub the_frame : FrameHere → Frame
the_frame f = record { method = f.method; at = f.at; stack = the_stack f.stack.items; awaits = the_awaited f.awaits }

abbrev pub the_places : PlacesHere → Places
the_places p = record { held = map the_value p.held.items; fresh = p.fresh.items }

-- the frames around the innermost one, and their places, innermost first
abbrev pub frames_around : FramesHere → List Frame
frames_around f = reverse (map the_frame f.around.items)

-- what the innermost of these frames waits for
abbrev pub awaited_of : List Frame → Option Awaited
awaited_of frames = option_map (λ (f : Frame). f.awaits) (slice_get frames 0)

abbrev pub places_of : FramesHere → List Places
places_of f = the_places f.here ∷ reverse (map the_places f.outer.items)

abbrev pub the_frames : FramesHere → Frames
the_frames f = record { frames = the_frame f.top ∷ frames_around f; places = places_of f }

abbrev pub stack_of : FramesHere → List Value
stack_of f = the_stack f.top.stack.items

-- where the frames stand, the innermost with this definition
abbrev pub site_of : MethodDef → FramesHere → Site
site_of d f = record { frame = the_frame f.top; definition = d; around = frames_around f; places = places_of f }

-- a value, if there is one, on a stack
abbrev pub put_on : Option ValueHere → List Value → List Value
put_on None stack = stack
put_on (Some v) stack = the_value v ∷ stack

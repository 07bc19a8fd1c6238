-- Where an instruction leaves the frames of a thread. Only private contracts cite it. This project's own.
use Rattle.std.specs.Prelude.{◌≡◌, ℕ, ◌+◌, List, [], ◌∷◌, ◌++◌, drop, Option, Some, None, Result, Ok, Err, ⊤}
use Rattle.cil_meaning.specs.Values.{Value}
use Rattle.cil_meaning.specs.Frames.{Places, Frames}
use Rattle.cil_meaning.specs.Search.{Thrown}
use Rattle.cil_meaning.specs.Site.{moved}
use Rattle.unshared.specs.declared.frames.Thrown.{Thrown as ThrownHere}
use Rattle.unshared.specs.declared.frames.Done.{Done}
use Rattle.unshared.specs.declared.frames.Done.TheVariants as done
use Rattle.unshared.specs.declared.frames.Frames.{Frames as FramesHere}
use Rattle.unshared.specs.declared.pause.Pause.{Pause}
use Rattle.unshared.specs.declared.pause.Pause.TheVariants as pause
use Rattle.unshared.specs.declared.value.Value.{Value as ValueHere}
use Rattle.unshared.specs.Faults.{the_fault}
use Rattle.unshared.specs.Forms.{the_value}
use Rattle.unshared.specs.Held.{the_frame, the_frames, frames_around, places_of, stack_of}

-- What an instruction comes to: it goes on in these frames, throws an exception of the class with a number, or throws an object.
pub data Did : Type 0 where
  Goes : Frames → Did
  Throws : ℕ → Did
  Raises : Thrown → Did

abbrev pub the_thrown : ThrownHere → Thrown
the_thrown x = record { object = x.object; kind = x.kind }

-- the same of the code, which has changed its frames
abbrev pub did : FramesHere → Done → Did
did f done.Goes = Goes (the_frames f)
did f (done.Throws x) = Throws (the_fault x)
did f (done.Raises x) = Raises (the_thrown x)

-- the innermost frame at an instruction, with this stack and these places
abbrev pub went_with : FramesHere → ℕ → List Places → List Value → Frames
went_with f at places stack = record { frames = moved (the_frame f.top) at stack ∷ frames_around f; places = places }

abbrev pub went : FramesHere → ℕ → List Value → Frames
went f at stack = went_with f at (places_of f) stack

-- the stack with so many values taken, and these put on it
abbrev pub stack_with : FramesHere → ℕ → List Value → List Value
stack_with f taken put = put ++ drop taken (stack_of f)

-- on to the next instruction
abbrev pub goes_on : FramesHere → ℕ → List Value → Did
goes_on f taken put = Goes (went f (f.top.at + 1) (stack_with f taken put))

-- on to another instruction, with so many values taken
abbrev pub goes_at : FramesHere → ℕ → ℕ → Did
goes_at f at taken = Goes (went f at (stack_with f taken []))

-- a value, if there is one
abbrev pub pushed : Option ValueHere → List Value
pushed None = []
pushed (Some v) = the_value v ∷ []

-- the frames are as they were but where the instruction was done
abbrev pub Keeps : Result Done Pause → FramesHere → FramesHere → Type 0
Keeps (Ok done.Goes) old new = ⊤
Keeps (Ok (done.Throws x)) old new = new ≡ old
Keeps (Ok (done.Raises x)) old new = new ≡ old
Keeps (Err (pause.Halts h)) old new = new ≡ old
Keeps (Err pause.NoMemory) old new = ⊤

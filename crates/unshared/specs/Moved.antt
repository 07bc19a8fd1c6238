-- What a call leaves of a thread's frames. Only private contracts cite it.
use Rattle.std.specs.Prelude.{◌≡◌, Result, Ok, Err, ⊤}
use Rattle.unshared.specs.declared.frames.Frames.{Frames}
use Rattle.unshared.specs.declared.pause.Pause.{Pause}
use Rattle.unshared.specs.declared.pause.Pause.TheVariants as pause

-- the frames are the same, but for their places
pub record SameBut (old new : Frames) : Type 0 where
  pub top : new.top ≡ old.top
  pub around : new.around ≡ old.around

-- a call changes the places alone, and only where it succeeds
abbrev pub OnlyPlaces : Result (Unit {0}) Pause → Frames → Frames → Type 0
OnlyPlaces (Ok nothing) old new = SameBut old new
OnlyPlaces (Err (pause.Halts h)) old new = new ≡ old
OnlyPlaces (Err pause.NoMemory) old new = ⊤

-- an instruction that halts leaves the frames as they were
abbrev pub Halted : {A : Type 0} → Result A Pause → Frames → Frames → Type 0
Halted (Ok a) old new = ⊤
Halted (Err (pause.Halts h)) old new = new ≡ old
Halted (Err pause.NoMemory) old new = ⊤

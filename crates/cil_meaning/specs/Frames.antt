-- The frames of one thread, innermost first, and beside them what their places hold. After ECMA-335, Partition I; the form is this project's own.
use Rattle.std.specs.Prelude.{ℕ, List, [], ◌∷◌, length, Option, Some, None, if◌then◌else◌, ◌==◌, slice_set}
use Rattle.il_model.specs.declared.layout.MethodTree.{MethodTree}
use Rattle.cil_meaning.specs.Values.{Value}

-- What a return to a frame puts on its stack: the callee's result, if it has one; the object whose constructor was called; or the
-- struct that was built. `Nothing` is where no call is under way.
pub data Awaited : Type 0 where
  Nothing : Awaited
  Result : Awaited
  Object : ℕ → Awaited
  Built : Awaited

-- A frame: its instantiated method, whose body is that of the definition with the arguments put; the number of its instruction,
-- which stays at a call until the call returns; its stack, the top first.
pub record Frame : Type 0 where
  pub method : MethodTree
  pub at : ℕ
  pub stack : List Value
  pub awaits : Awaited

-- What stands in the places of a frame: its arguments, then its locals; and the words of the struct that is being built.
pub record Places : Type 0 where
  pub held : List Value
  pub fresh : List ℕ

-- the frame at a level and its places stand beside each other
pub record Frames : Type 0 where
  pub frames : List Frame
  pub places : List Places

-- the places of the frame at a level; the last of the list are those of level 0
abbrev pub places_at : List Places → ℕ → Option Places
places_at [] level = None
places_at (p ∷ ps) level = if level == length ps then Some p else places_at ps level

-- the same, with others at this level
abbrev pub with_places : List Places → ℕ → Places → List Places
with_places [] level new = []
with_places (p ∷ ps) level new = if level == length ps then new ∷ ps else p ∷ with_places ps level new

-- the places of the innermost frame, and those of the frames around it
abbrev pub innermost : List Places → Places
innermost [] = record { held = []; fresh = [] }
innermost (p ∷ ps) = p

abbrev pub outer : List Places → List Places
outer [] = []
outer (p ∷ ps) = ps

-- a value in place of one that a frame's places hold
abbrev pub with_held : Places → ℕ → Value → Places
with_held p place v = record p { held = slice_set p.held place v }

-- so many words for the struct that is being built, and none when it is there
abbrev pub with_fresh : Places → List ℕ → Places
with_fresh p words = record p { fresh = words }

abbrev pub with_innermost : List Places → Places → List Places
with_innermost [] new = []
with_innermost (p ∷ ps) new = new ∷ ps

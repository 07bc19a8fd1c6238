-- Where an instruction stands, and the ways on from it. This project's own.
use Rattle.std.specs.Prelude.{ℕ, suc, List, ◌∷◌, length, Option, option_and_then, slice_get}
use Rattle.il_model.specs.declared.program.Program.{Program}
use Rattle.il_model.specs.declared.method.Body.{Body}
use Rattle.il_model.specs.declared.method.MethodDef.{MethodDef}
use Rattle.il_model.specs.declared.op.Op.{Op}
use Rattle.interaction.specs.Process.{Next}
use Rattle.cil_meaning.specs.Values.{Value}
use Rattle.cil_meaning.specs.Frames.{Frame, Places, Frames, Nothing}
use Rattle.cil_meaning.specs.Replies.{Left}
use Rattle.cil_meaning.specs.Search.{raises}

-- the innermost frame with its definition, the frames around it, and what all places hold
pub record Site : Type 0 where
  pub frame : Frame
  pub definition : MethodDef
  pub around : List Frame
  pub places : List Places

-- the level of the innermost frame
abbrev pub level_of : Site → ℕ
level_of s = length s.around

abbrev pub frames_of : Site → Frames
frames_of s = record { frames = s.frame ∷ s.around; places = s.places }

-- the frame at another instruction, with another stack
abbrev pub moved : Frame → ℕ → List Value → Frame
moved f at stack = record { method = f.method; at = at; stack = stack; awaits = Nothing }

-- goes on at an instruction of the body, with this stack
abbrev pub goes_to : Site → ℕ → List Value → Left
goes_to s at stack = Next (record { frames = moved s.frame at stack ∷ s.around; places = s.places })

-- goes on at the next instruction
abbrev pub goes : Site → List Value → Left
goes s stack = goes_to s (suc s.frame.at) stack

-- the same, after places were written
abbrev pub goes_with : Site → List Places → List Value → Left
goes_with s places stack = Next (record { frames = moved s.frame (suc s.frame.at) stack ∷ s.around; places = places })

-- throws a new exception of a class of the library
abbrev pub throws : Program → Site → ℕ → Left
throws p s class = raises p class (frames_of s)

-- the instruction with a number in a definition
abbrev pub op_at : MethodDef → ℕ → Option Op
op_at d at = option_and_then (λ (b : Body). slice_get b.code at) d.body

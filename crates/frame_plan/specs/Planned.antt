-- The plan of a body's frame. This project's own.
use Rattle.std.specs.Prelude.{◌≤◌, ℕ, ◌+◌, List, sum}
use Rattle.il_model.specs.declared.key.KeyPart.{KeyPart}
use Rattle.il_model.specs.declared.method.MethodDef.{MethodDef}
use Rattle.il_model.specs.declared.program.Program.{Program}
use Rattle.il_model.specs.Layouts.{offsets_from}
use Rattle.rgctx_words.specs.Frames.{header_count, scratch_words}
use Rattle.cil_flow.specs.declared.plan.Plan.{Plan}
use Rattle.cil_flow.specs.declared.state.State.{State}
use Rattle.frame_plan.specs.Widths.{stand_ins_of}
use Rattle.frame_plan.specs.Places.{place_widths, place_count}
use Rattle.frame_plan.specs.Named.{most_passed}

-- a frame has at most so many places, and as many words for a list of argument addresses
abbrev pub most_places : ℕ
most_places = 120

-- the frame with places of these widths and a list of so many addresses
abbrev pub laid : List ℕ → ℕ → Plan
laid widths addresses = record {
  offsets = offsets_from header_count widths;
  widths = widths;
  scratch = header_count + sum widths;
  list = header_count + sum widths + scratch_words;
  frame = header_count + sum widths + scratch_words + addresses;
}

-- the frame of a method's body with these stacks before its instructions, compiled for a key
abbrev pub plan_of : Program → MethodDef → List State → List KeyPart → Plan
plan_of program m states key = laid (place_widths program (stand_ins_of program m key) m states) (most_passed m)

-- the method has few places, and its calls pass few arguments
pub record IsSmallBody (m : MethodDef) (states : List State) : Type 0 where
  pub places : place_count m states ≤ most_places
  pub passed : most_passed m ≤ most_places

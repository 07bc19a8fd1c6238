-- The places of a method, and how wide each is. This project's own.
use Rattle.std.specs.Prelude.{ℕ, ◌+◌, max, List, [], ◌∷◌, ◌++◌, length, map, fold, Option, Some, None, if◌then◌else◌}
use Rattle.il_model.specs.declared.method.PType.{PType}
use Rattle.il_model.specs.declared.method.PType.TheVariants as ptype
use Rattle.il_model.specs.declared.method.Body.{Body}
use Rattle.il_model.specs.declared.method.MethodDef.{MethodDef}
use Rattle.il_model.specs.Find.{takes_object}
use Rattle.cil_flow.specs.declared.state.State.{State}
use Rattle.cil_flow.specs.declared.state.StackType.{StackType}
use Rattle.cil_flow.specs.declared.state.StackType.TheVariants as stack
use Rattle.il_model.specs.declared.program.Program.{Program}
use Rattle.frame_plan.specs.declared.kinds.StandIns.{StandIns}
use Rattle.frame_plan.specs.Widths.{width_in}

-- the width of an argument or a local
abbrev pub width_of_place : Program → StandIns → PType → ℕ
width_of_place program ins (ptype.Value t) = width_in program ins t
width_of_place program ins (ptype.Pointer t) = 1
width_of_place program ins ptype.Native = 1

-- the width of a value on the stack
abbrev pub width_of_stack : Program → StandIns → StackType → ℕ
width_of_stack program ins stack.Int32 = 1
width_of_stack program ins stack.Int64 = 1
width_of_stack program ins stack.Native = 1
width_of_stack program ins stack.Null = 1
width_of_stack program ins (stack.Kind t) = width_in program ins t
width_of_stack program ins (stack.Boxed t) = 1
width_of_stack program ins (stack.Pointer t) = 1

-- the widths for a stack, the deepest place first
abbrev pub state_widths : Program → StandIns → State → List ℕ
state_widths program ins s = map (width_of_stack program ins) s.stack

-- place by place the larger width; the longer list goes on alone
abbrev pub widest : List ℕ → List ℕ → List ℕ
widest [] ys = ys
widest (x ∷ xs) [] = x ∷ xs
widest (x ∷ xs) (y ∷ ys) = max x y ∷ widest xs ys

-- each place of the stack is as wide as the widest value that it holds before some instruction
abbrev pub stack_widths : Program → StandIns → List State → List ℕ
stack_widths program ins states = fold widest [] (map (state_widths program ins) states)

-- the object is a reference or a pointer
abbrev pub object_widths : MethodDef → List ℕ
object_widths m = if takes_object m.shape then 1 ∷ [] else []

abbrev pub locals_in : Option Body → List PType
locals_in None = []
locals_in (Some b) = b.locals

-- the widths of all places: the arguments, the object first; the locals; the stack
abbrev pub place_widths : Program → StandIns → MethodDef → List State → List ℕ
place_widths program ins m states =
    object_widths m ++ map (width_of_place program ins) m.params ++ map (width_of_place program ins) (locals_in m.body) ++ stack_widths program ins states

-- how many values the deepest stack holds
abbrev pub deepest : List State → ℕ
deepest states = fold max 0 (map (λ (s : State). length s.stack) states)

-- how many places a method has with these stacks
abbrev pub place_count : MethodDef → List State → ℕ
place_count m states = length (object_widths m) + length m.params + length (locals_in m.body) + deepest states

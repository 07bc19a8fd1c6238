-- How deep the stack is before each instruction. After ECMA-335, Partition III, as far as this project's rules go.
use Rattle.std.specs.Prelude.{ℕ, zero, suc, ◌+◌, ◌-◌, ◌==◌, Bool, if◌then◌else◌, List, [], ◌∷◌, ◌++◌, length, slice_get, slice_index, Option, Some, None, unwrap_or, option_and_then}
use Rattle.std.specs.Option.{option_or}
use Rattle.std.specs.List.{list_any}
use Rattle.il_model.specs.declared.op.Op.{Op}
use Rattle.il_model.specs.declared.method.Body.{Body}
use Rattle.cil_flow.specs.declared.control.Control.{Control}
use Rattle.cil_flow.specs.declared.control.Control.TheVariants as control
use Rattle.cil_flow.specs.declared.effect.Effect.{Effect}
use Rattle.cil_flow.specs.Effects.{effect_of}
use Rattle.cil_flow.specs.Control.{control_at, any_follower, targets_of}
use Rattle.cil_flow.specs.Regions.{begins_handler}

-- the depth after an effect
abbrev pub depth_moved : Effect → ℕ → ℕ
depth_moved e depth = (depth - e.takes) + e.leaves

-- the depth where an instruction goes on, from the depth before it: `leave` empties the stack
abbrev pub depth_left : Control → Effect → ℕ → ℕ
depth_left control.Falls e depth = depth_moved e depth
depth_left control.Jumps e depth = depth_moved e depth
depth_left control.Branches e depth = depth_moved e depth
depth_left control.Leaves e depth = 0
depth_left control.Returns e depth = depth_moved e depth
depth_left control.Stops e depth = depth_moved e depth
depth_left control.Refused e depth = depth_moved e depth

abbrev pub depth_after : Bool → Op → ℕ → ℕ
depth_after has_result i depth = depth_left (control_at i) (effect_of has_result i) depth

-- whether the instruction at this number goes on to that one
abbrev pub goes_on_to : Op → ℕ → ℕ → Bool
goes_on_to i at to = any_follower (λ j. j == to) i at

-- with which depth the instruction at this number goes on to that one, if it does
abbrev pub arrival : Bool → List ℕ → ℕ → ℕ → Op → Option ℕ
arrival has_result depths at to i = if goes_on_to i at to then Some (depth_after has_result i (slice_index depths at)) else None

-- with which depth the first of the instructions before `at` that goes on to `to` does
abbrev pub first_arrival : Bool → List Op → List ℕ → ℕ → ℕ → Option ℕ
first_arrival has_result code depths to zero = None
first_arrival has_result code depths to (suc at) =
    option_or (first_arrival has_result code depths to at) (option_and_then (arrival has_result depths at to) (slice_get code at))

-- the depth before an instruction, from those before the earlier ones: one value where a handler begins, else what the first
-- earlier instruction that goes on to it leaves, and none where no earlier one does
abbrev pub depth_given : Bool → Body → List ℕ → ℕ → ℕ
depth_given has_result body depths at =
    if begins_handler body.clauses at then 1 else unwrap_or (first_arrival has_result body.code depths at at) 0

-- the depths before the first so many instructions
abbrev pub depths_before : Bool → Body → ℕ → List ℕ
depths_before has_result body zero = []
depths_before has_result body (suc at) =
    depths_before has_result body at ++ depth_given has_result body (depths_before has_result body at) at ∷ []

-- the depth before each instruction
abbrev pub depths_of : Bool → Body → List ℕ
depths_of has_result body = depths_before has_result body (length body.code)

-- whether some instruction names this one as a target
abbrev pub is_target : List Op → ℕ → Bool
is_target code at = list_any (λ i. list_any (λ j. j == at) (targets_of i)) code

-- for each of the numbers before this one, whether it is a target
abbrev pub targets_before : List Op → ℕ → List Bool
targets_before code zero = []
targets_before code (suc at) = targets_before code at ++ is_target code at ∷ []

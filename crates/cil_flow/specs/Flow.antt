-- The flow of a body: its depths and targets, or the first instruction at which a rule is broken. After ECMA-335, Partition III, as far as this project's rules go.
use Rattle.std.specs.Prelude.{ℕ, zero, suc, ◌==◌, nat_le, max, Bool, true, false, not, ◌&&◌, ◌||◌, if◌then◌else◌, List, length, slice_get, slice_index, ◌≡◌, Option, Some, None, option_map, is_none, Result, Ok, Err, ⊤}
use Rattle.std.specs.Option.{option_or}
use Rattle.mn_outside.specs.declared.outside.Refused.{Refused}
use Rattle.mn_outside.specs.declared.outside.Refused.TheVariants as refused
use Rattle.il_model.specs.declared.op.Op.{Op}
use Rattle.il_model.specs.declared.method.Clause.{Clause}
use Rattle.il_model.specs.declared.method.Body.{Body}
use Rattle.cil_flow.specs.declared.control.Control.{Control}
use Rattle.cil_flow.specs.declared.control.Control.TheVariants as control
use Rattle.cil_flow.specs.declared.effect.Effect.{Effect}
use Rattle.cil_flow.specs.declared.fault.FlowFault.{FlowFault}
use Rattle.cil_flow.specs.declared.fault.FlowCause.{FlowCause}
use Rattle.cil_flow.specs.declared.fault.FlowCause.TheVariants as cause
use Rattle.cil_flow.specs.declared.outcome.Flow.{Flow}
use Rattle.cil_flow.specs.Effects.{effect_of}
use Rattle.cil_flow.specs.Control.{control_at, any_follower}
use Rattle.cil_flow.specs.Regions.{is_enclosed, begins_try, crosses, first_bad_place}
use Rattle.cil_flow.specs.Depths.{depth_after, first_arrival, depths_of, targets_before}

-- whether an instruction goes on to a number past the last instruction: a target that is none, or the fall behind the last
abbrev pub leads_out : ℕ → Op → ℕ → Bool
leads_out count i at = any_follower (λ j. nat_le count j) i at

-- whether going on crosses the border of a region
abbrev pub crosses_border : List Clause → Op → ℕ → Bool
crosses_border cs i at = any_follower (λ j. crosses cs at j) i at

-- the rules on regions for an instruction that goes on so: `leave` may cross borders and has to stand in a region, `ret` may not stand in one, and the others cross none
abbrev pub breaks_regions : Control → List Clause → Op → ℕ → Bool
breaks_regions control.Falls cs i at = crosses_border cs i at
breaks_regions control.Jumps cs i at = crosses_border cs i at
breaks_regions control.Branches cs i at = crosses_border cs i at
breaks_regions control.Leaves cs i at = not (is_enclosed cs at)
breaks_regions control.Returns cs i at = is_enclosed cs at
breaks_regions control.Stops cs i at = false
breaks_regions control.Refused cs i at = true

-- the rules on an instruction that need no depth
abbrev pub is_bad_step : Body → ℕ → Op → Bool
is_bad_step body at i = leads_out (length body.code) i at || breaks_regions (control_at i) body.clauses i at

-- whether the stack is deep enough; at `ret` it holds the result and nothing else
abbrev pub has_enough : Control → Effect → ℕ → Bool
has_enough control.Falls e depth = nat_le e.takes depth
has_enough control.Jumps e depth = nat_le e.takes depth
has_enough control.Branches e depth = nat_le e.takes depth
has_enough control.Leaves e depth = nat_le e.takes depth
has_enough control.Returns e depth = e.takes == depth
has_enough control.Stops e depth = nat_le e.takes depth
has_enough control.Refused e depth = nat_le e.takes depth

abbrev pub is_deep_enough : Bool → List ℕ → ℕ → Op → Bool
is_deep_enough has_result depths at i = has_enough (control_at i) (effect_of has_result i) (slice_index depths at)

-- whether no earlier instruction goes on to this one
abbrev pub is_unreached : Bool → Body → List ℕ → ℕ → Bool
is_unreached has_result body depths to = is_none (first_arrival has_result body.code depths to to)

-- whether going on to an instruction with this depth breaks a rule: two depths meet there, the stack isn't empty at a try's start,
-- or it isn't empty on a backward branch to an instruction that no earlier one goes on to
abbrev pub meets_badly : Bool → Body → List ℕ → ℕ → ℕ → ℕ → Bool
meets_badly has_result body depths at depth to =
    not (slice_index depths to == depth) ||
    not (depth == 0) && (begins_try body.clauses to || nat_le to at && is_unreached has_result body depths to)

abbrev pub is_bad_meeting : Bool → Body → List ℕ → ℕ → Op → Bool
is_bad_meeting has_result body depths at i =
    any_follower (meets_badly has_result body depths at (depth_after has_result i (slice_index depths at))) i at

-- the fault of an instruction, where the rules on clauses are kept: BadFlow comes before Underflow, and no rule on the depth
-- after an instruction is judged where it finds too few values
abbrev pub cause_of_step : Bool → Body → List ℕ → ℕ → Op → Option FlowCause
cause_of_step has_result body depths at i =
    if is_bad_step body at i then Some cause.BadFlow
    else (if not (is_deep_enough has_result depths at i) then Some cause.Underflow
    else (if is_bad_meeting has_result body depths at i then Some cause.BadFlow else None))

abbrev pub cause_of : Bool → Body → List ℕ → ℕ → Option Op → Option FlowCause
cause_of has_result body depths at None = None
cause_of has_result body depths at (Some i) = cause_of_step has_result body depths at i

abbrev pub is_at : ℕ → Option ℕ → Bool
is_at at (Some place) = place == at
is_at at None = false

-- the fault at this number: the first instruction at which a rule on clauses is broken has one
abbrev pub cause_at : Bool → Body → List ℕ → ℕ → Option FlowCause
cause_at has_result body depths at =
    if is_at at (first_bad_place (length body.code) body.clauses) then Some cause.BadFlow
    else cause_of has_result body depths at (slice_get body.code at)

abbrev pub fault_with : ℕ → FlowCause → FlowFault
fault_with at c = record { instr = at; cause = c }

-- the first fault before this number
abbrev pub fault_before : Bool → Body → List ℕ → ℕ → Option FlowFault
fault_before has_result body depths zero = None
fault_before has_result body depths (suc at) =
    option_or (fault_before has_result body depths at) (option_map (fault_with at) (cause_at has_result body depths at))

-- the first fault of a body; of one without instructions its clauses are judged at instruction 0
abbrev pub first_fault : Bool → Body → Option FlowFault
first_fault has_result body = fault_before has_result body (depths_of has_result body) (max 1 (length body.code))

-- the depth before each instruction, and whether it is a target
abbrev pub sound_flow : Bool → Body → Flow
sound_flow has_result body =
    record { depth = depths_of has_result body; targets = targets_before body.code (length body.code) }

abbrev pub flow_or : Flow → Option FlowFault → Result Flow FlowFault
flow_or f None = Ok f
flow_or f (Some fault) = Err fault

-- the flow of a body, or its first fault
abbrev pub flow_of : Bool → Body → Result Flow FlowFault
flow_of has_result body = flow_or (sound_flow has_result body) (first_fault has_result body)

-- an answer is the expected one; want of memory says nothing
abbrev pub Gives : Result Flow (Refused FlowFault) → Result Flow FlowFault → Type 0
Gives (Ok f) expected = expected ≡ Ok f
Gives (Err (refused.Fault e)) expected = expected ≡ Err e
Gives (Err refused.NoMemory) expected = ⊤

-- the depths and the fault before any, against the expected ones
abbrev pub GivesDepths : Result (List ℕ) (Refused FlowFault) → List ℕ → Option FlowFault → Type 0
GivesDepths (Ok found) depths fault = (found ≡ depths) × (fault ≡ None)
GivesDepths (Err (refused.Fault e)) depths fault = fault ≡ Some e
GivesDepths (Err refused.NoMemory) depths fault = ⊤

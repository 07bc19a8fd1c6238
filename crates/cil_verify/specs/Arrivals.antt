-- What the pass over a body keeps: for each instruction, what the earlier ones left for it so far. Only private contracts cite it.
use Rattle.std.specs.Prelude.{◌≡◌, ℕ, zero, suc, ◌+◌, ◌<◌, ◌≤◌, nat_le, nat_lt, Bool, false, List, [], ◌∷◌, ◌++◌, length, map, slice_get, slice_index_or, slice_set, unwrap_or, Option, Some, None, option_map, option_and_then, if◌then◌else◌}
use Rattle.il_model.specs.declared.method.Clause.{Clause}
use Rattle.il_model.specs.declared.op.Op.{Op}
use Rattle.cil_flow.specs.declared.state.State.{State}
use Rattle.cil_flow.specs.Regions.{begins_handler}
use Rattle.cil_flow.specs.Control.{control_at, falls, targets_of}
use Rattle.cil_flow.specs.Flow.{leads_out}
use Rattle.cil_verify.specs.declared.arrival.Arrival.{Arrival}
use Rattle.cil_verify.specs.Places.{View, code_of}
use Rattle.cil_verify.specs.Joins.{joined_stacks, are_assignable}
use Rattle.cil_verify.specs.States.{Stack, handler_stack, stack_at, arrived, states_of}

abbrev pub stacks_of : List State → List Stack
stacks_of states = map (λ s. s.stack) states

-- nothing arrived
abbrev pub nothing : Arrival
nothing = record { before = 0; stack = None }

-- what arrived at an instruction so far
abbrev pub known : List Arrival → ℕ → Option Stack
known all to = (slice_index_or all to nothing).stack

-- a number above that of each instruction that went on there so far
abbrev pub bound_of : List Arrival → ℕ → ℕ
bound_of all to = (slice_index_or all to nothing).before

-- whether the instruction with this number is known to have gone on there
abbrev pub came : List Arrival → ℕ → ℕ → Bool
came all at to = nat_lt at (bound_of all to)

-- what is left where a stack arrives beside what arrived before, if the two agree
abbrev pub met : View → Option Stack → Stack → Option Stack
met v None left = Some left
met v (Some s) left = joined_stacks v s left

abbrev pub arrival_of : ℕ → Stack → Arrival
arrival_of at both = record { before = at + 1; stack = Some both }

-- what is known after the instruction at this number went on to a later one, if that agrees with what is known
abbrev pub gone_forward : View → ℕ → Stack → ℕ → List Arrival → Option (List Arrival)
gone_forward v at left to all =
    if came all at to then Some all else option_map (λ both. slice_set all to (arrival_of at both)) (met v (known all to) left)

-- the same of any one instruction
abbrev pub gone_on_to : View → List Stack → ℕ → Stack → ℕ → List Arrival → Option (List Arrival)
gone_on_to v states at left to all =
    if nat_le to at then (if are_assignable v left (stack_at states to) then Some all else None) else gone_forward v at left to all

-- the same of several, one after the other
abbrev pub gone_among : View → List Stack → ℕ → Stack → List ℕ → List Arrival → Option (List Arrival)
gone_among v states at left [] all = Some all
gone_among v states at left (to ∷ tos) all = option_and_then (gone_among v states at left tos) (gone_on_to v states at left to all)

-- the instructions that the one at this number goes on to
abbrev pub followers_of : Op → ℕ → List ℕ
followers_of i at = targets_of i ++ (if falls (control_at i) then ((at + 1) ∷ []) else [])

-- the stack before an instruction, from what arrived there
abbrev pub state_from : List Clause → Option Stack → ℕ → Stack
state_from cs arrived at = if begins_handler cs at then handler_stack cs at else unwrap_or arrived []

-- no instruction of a body goes on to one that it has not
pub record StaysInside (v : View) : Type 0 where
  pub inside : (at : ℕ) (i : Op) → slice_get (code_of v.method.body) at ≡ Some i → leads_out (length (code_of v.method.body)) i at ≡ false

-- before the instruction with this number the list has, for it and each later one, what arrived so far
pub record Knows (v : View) (at : ℕ) (all : List Arrival) : Type 0 where
  pub size : length all ≡ length (code_of v.method.body)
  pub ahead : (j : ℕ) → at ≤ j → j < length (code_of v.method.body) → known all j ≡ arrived v (states_of v) j at
  pub early : (j : ℕ) → bound_of all j ≤ at

-- a list in which nothing has arrived
abbrev pub none_arrived : ℕ → List Arrival
none_arrived zero = []
none_arrived (suc n) = none_arrived n ++ nothing ∷ []

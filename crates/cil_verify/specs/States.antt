-- The state before each instruction of a body, and the first instruction that is refused. This project's own, after ECMA-335, Partition III.
use Rattle.std.specs.Prelude.{ℕ, zero, suc, nat_le, Bool, true, not, List, [], ◌∷◌, ◌++◌, length, slice_get, is_some, find, unwrap_or, Option, Some, None, option_map, option_and_then, if◌then◌else◌}
use Rattle.std.specs.Option.{option_or}
use Rattle.il_model.specs.declared.method.Sort.{Sort}
use Rattle.il_model.specs.declared.method.Sort.TheVariants as sort
use Rattle.il_model.specs.declared.method.Clause.{Clause}
use Rattle.il_model.specs.declared.op.Op.{Op}
use Rattle.cil_flow.specs.declared.state.StackType.{StackType}
use Rattle.cil_flow.specs.Control.{any_follower}
use Rattle.cil_flow.specs.Depths.{goes_on_to}
use Rattle.cil_flow.specs.Regions.{handler_of, begins, begins_handler}
use Rattle.cil_verify.specs.declared.fault.VerifyCause.{VerifyCause}
use Rattle.cil_verify.specs.declared.fault.VerifyCause.TheVariants as cause
use Rattle.cil_verify.specs.Places.{View, code_of, clauses_of, stack_of}
use Rattle.cil_verify.specs.Admits.{left_by}
use Rattle.cil_verify.specs.Joins.{joined_stacks, are_assignable}
use Rattle.cil_verify.specs.Members.{names_well, meets_all_bounds}

-- a stack, from its deepest place up
abbrev pub Stack : Type 0
Stack = List StackType

-- the type that a handler gets on its stack
abbrev pub caught_of : Sort → Stack
caught_of (sort.Catch t) = stack_of t ∷ []
caught_of sort.Finally = []

-- the stack at a handler's first instruction: the type of its clause alone
abbrev pub handler_stack : List Clause → ℕ → Stack
handler_stack cs at = unwrap_or (option_map (λ c. caught_of c.sort) (find (λ c. begins (handler_of c) at) cs)) []

-- the stack before an instruction, of those before the first so many
abbrev pub stack_at : List Stack → ℕ → Stack
stack_at states at = unwrap_or (slice_get states at) []

-- what the instruction at this number leaves for that one, if it goes on to it
abbrev pub arriving : View → List Stack → ℕ → ℕ → Op → Option Stack
arriving v states at to i = if goes_on_to i at to then left_by v i (stack_at states at) else None

-- what two ways leave, where the first may not be there yet; where they do not agree, the first stays
abbrev pub meet : View → Option Stack → Option Stack → Option Stack
meet v None s = s
meet v (Some s) None = Some s
meet v (Some s) (Some t) = Some (unwrap_or (joined_stacks v s t) s)

-- the join of what the instructions before the number `at` leave for that one, in rising order
abbrev pub arrived : View → List Stack → ℕ → ℕ → Option Stack
arrived v states to zero = None
arrived v states to (suc at) =
    meet v (arrived v states to at) (option_and_then (arriving v states at to) (slice_get (code_of v.method.body) at))

-- the state before an instruction, from those before the earlier ones
abbrev pub state_given : View → List Stack → ℕ → Stack
state_given v states at =
    if begins_handler (clauses_of v.method.body) at then handler_stack (clauses_of v.method.body) at else unwrap_or (arrived v states at at) []

-- the states before the first so many instructions
abbrev pub states_before : View → ℕ → List Stack
states_before v zero = []
states_before v (suc at) = states_before v at ++ state_given v (states_before v at) at ∷ []

-- the state before each instruction
abbrev pub states_of : View → List Stack
states_of v = states_before v (length (code_of v.method.body))

-- ---- refusals

abbrev pub agrees : View → Option Stack → Stack → Bool
agrees v None left = true
agrees v (Some s) left = is_some (joined_stacks v s left)

-- whether what is left may go on to an instruction: forward it joins with what earlier ones left, backward it is assignable to the state there
abbrev pub meets_well : View → List Stack → ℕ → Stack → ℕ → Bool
meets_well v states at left to =
    if nat_le to at then are_assignable v left (stack_at states to) else agrees v (arrived v states to at) left

abbrev pub cause_of_merge : View → List Stack → ℕ → Op → Option Stack → Option VerifyCause
cause_of_merge v states at i None = Some cause.BadType
cause_of_merge v states at i (Some left) =
    if any_follower (λ to. not (meets_well v states at left to)) i at then Some cause.BadMerge else None

-- the first cause for which an instruction is refused: its members, the bounds of its types, its operands, and where it goes on to
abbrev pub cause_of_instr : View → List Stack → ℕ → Op → Option VerifyCause
cause_of_instr v states at i =
    if not (names_well v i) then Some cause.BadMember
    else (if not (meets_all_bounds v i) then Some cause.BadConstraint
    else cause_of_merge v states at i (left_by v i (stack_at states at)))

-- an instruction that is refused, and why
pub record Refusal : Type 0 where
  pub instr : ℕ
  pub cause : VerifyCause

abbrev pub refusal_if : ℕ → Option VerifyCause → Option Refusal
refusal_if at c = option_map (λ cause. record { instr = at; cause = cause }) c

-- the first of so many instructions that is refused
abbrev pub refused_before : View → List Stack → ℕ → Option Refusal
refused_before v states zero = None
refused_before v states (suc at) =
    option_or (refused_before v states at)
    (refusal_if at (option_and_then (cause_of_instr v states at) (slice_get (code_of v.method.body) at)))

-- the first instruction of the body that is refused
abbrev pub first_refused : View → Option Refusal
first_refused v = refused_before v (states_of v) (length (code_of v.method.body))

-- What the pass over a body answers. This project's own.
use Rattle.std.specs.Prelude.{◌≡◌, is_some, Option, Some, None, Result, Ok, Err, ⊤}
use Rattle.mn_outside.specs.declared.outside.Refused.{Refused}
use Rattle.mn_outside.specs.declared.outside.Refused.TheVariants as refused
use Rattle.il_model.specs.declared.method.Body.{Body}
use Rattle.il_model.specs.declared.method.MethodDef.{MethodDef}
use Rattle.cil_flow.specs.declared.state.States.{States}
use Rattle.cil_flow.specs.Flow.{first_fault}
use Rattle.cil_verify.specs.declared.fault.BodyFault.{BodyFault}
use Rattle.cil_verify.specs.Places.{View}
use Rattle.cil_verify.specs.States.{Refusal, states_of, first_refused}
use Rattle.cil_verify.specs.Arrivals.{stacks_of}

-- the flow of a method's body has no fault
abbrev pub FlowsWellIn : MethodDef → Option Body → Type 0
FlowsWellIn m (Some b) = first_fault (is_some m.result) b ≡ None
FlowsWellIn m None = ⊤

abbrev pub FlowsWell : MethodDef → Type 0
FlowsWell m = FlowsWellIn m m.body

abbrev pub refusal_of : BodyFault → Refusal
refusal_of f = record { instr = f.instr; cause = f.cause }

-- the states of a body none of whose instructions is refused, or the first that is; want of memory says nothing
abbrev pub GivesStates : Result States (Refused BodyFault) → View → Type 0
GivesStates (Ok found) v = (stacks_of found.states ≡ states_of v) × (first_refused v ≡ None)
GivesStates (Err (refused.Fault f)) v = first_refused v ≡ Some (refusal_of f)
GivesStates (Err refused.NoMemory) v = ⊤

-- What the judging of rules answers, part by part. Only private contracts cite it. This project's own.
use Rattle.std.specs.Prelude.{◌≡◌, ℕ, List, map, option_map, Option, Some, None, Result, Ok, Err, ⊤}
use Rattle.mn_outside.specs.declared.outside.NoMemory.{NoMemory}
use Rattle.mn_outside.specs.declared.outside.Refused.{Refused}
use Rattle.mn_outside.specs.declared.outside.Refused.TheVariants as refused
use Rattle.il_model.specs.declared.class.ClassDef.{ClassDef}
use Rattle.il_model.specs.declared.method.MethodDef.{MethodDef}
use Rattle.il_model.specs.declared.program.Program.{Program}
use Rattle.cil_flow.specs.declared.fault.FlowFault.{FlowFault}
use Rattle.cil_flow.specs.declared.state.States.{States}
use Rattle.cil_verify.specs.declared.fault.Where.{Where}
use Rattle.cil_verify.specs.declared.fault.Where.TheVariants as at
use Rattle.cil_verify.specs.declared.fault.VerifyCause.{VerifyCause}
use Rattle.cil_verify.specs.declared.fault.VerifyFault.{VerifyFault}
use Rattle.cil_verify.specs.declared.fault.BodyFault.{BodyFault}
use Rattle.cil_verify.specs.Places.{view_of}
use Rattle.cil_verify.specs.States.{Refusal, states_of}
use Rattle.cil_verify.specs.Arrivals.{stacks_of}
use Rattle.cil_verify.specs.Passes.{refusal_of}
use Rattle.cil_verify.specs.WellTyped.{Rule, HoldAll, FirstBroken, refusal_of_flow, refused_in, IsGoodMethod, IsRefusedMethod, Each, IsFirstRefusal}

-- what is answered of rules on one class or method: that all hold, or the cause of the first that does not
abbrev pub Judges : {D : Type 0} → List (Rule D) → Program → ℕ → D → Option VerifyCause → Type 0
Judges rules program number d None = HoldAll rules program number d
Judges rules program number d (Some c) = FirstBroken rules program number d c

-- a cause that was found, as the refusal at this place
abbrev pub refusal_at : Where → Result (Option VerifyCause) NoMemory → Result (Unit {0}) (Refused VerifyFault)
refusal_at place (Ok None) = Ok tt
refusal_at place (Ok (Some c)) = Err (refused.Fault (record { at = place; cause = c }))
refusal_at place (Err e) = Err refused.NoMemory

-- the refusal at an instruction of the method with this number
abbrev pub fault_in : ℕ → Refusal → VerifyFault
fault_in number r = record { at = at.Instr number r.instr; cause = r.cause }

-- what is answered of the rules on all classes: that they hold of each, or the first refusal of the program
abbrev pub JudgesClasses : List (Rule ClassDef) → Program → Result (Unit {0}) (Refused VerifyFault) → Type 0
JudgesClasses rules program (Ok u) = Each (HoldAll rules program) program.classes
JudgesClasses rules program (Err (refused.Fault f)) = IsFirstRefusal program f
JudgesClasses rules program (Err refused.NoMemory) = ⊤

-- what is answered of the flow of a body with this first fault
abbrev pub FlowsOr : Option FlowFault → Result (Unit {0}) (Refused BodyFault) → Type 0
FlowsOr fault (Ok u) = fault ≡ None
FlowsOr fault (Err (refused.Fault f)) = option_map refusal_of_flow fault ≡ Some (refusal_of f)
FlowsOr fault (Err refused.NoMemory) = ⊤

-- what is answered of a method's body: its states, or the first instruction that is refused
abbrev pub GivesBody : Program → MethodDef → Result States (Refused BodyFault) → Type 0
GivesBody program m (Ok found) = (stacks_of found.states ≡ states_of (view_of program m)) × (refused_in program m ≡ None)
GivesBody program m (Err (refused.Fault f)) = refused_in program m ≡ Some (refusal_of f)
GivesBody program m (Err refused.NoMemory) = ⊤

-- what is answered of a method: its states where it is good, or why it is refused
abbrev pub JudgesMethod : Program → ℕ → MethodDef → Result States (Refused VerifyFault) → Type 0
JudgesMethod program number m (Ok found) = (stacks_of found.states ≡ states_of (view_of program m)) × IsGoodMethod program number m
JudgesMethod program number m (Err (refused.Fault f)) = IsRefusedMethod program number m f
JudgesMethod program number m (Err refused.NoMemory) = ⊤

-- the states of each method of a program
abbrev pub AreStatesOf : Program → List States → List MethodDef → Type 0
AreStatesOf program states methods = map (λ s. stacks_of s.states) states ≡ map (λ m. states_of (view_of program m)) methods

-- what is answered of all methods: their states where they are good, or the first refusal of the program
abbrev pub JudgesMethods : Program → Result (List States) (Refused VerifyFault) → Type 0
JudgesMethods program (Ok states) = AreStatesOf program states program.methods × Each (IsGoodMethod program) program.methods
JudgesMethods program (Err (refused.Fault f)) = IsFirstRefusal program f
JudgesMethods program (Err refused.NoMemory) = ⊤

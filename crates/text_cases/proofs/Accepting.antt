-- What calls on types need of a program, from the verifier's answer.
use Rattle.std.proofs.Common.{Result, Ok, Err, IfOk}
use Rattle.mn_outside.specs.declared.outside.Refused.{Refused}
use Rattle.il_model.specs.declared.program.Program.{Program}
use Rattle.il_model.specs.ClassRules.{EachClass, HasFewSlots, HasTypes}
use Rattle.cil_verify.specs.declared.fault.VerifyFault.{VerifyFault}
use Rattle.cil_verify.specs.declared.verified.Verified.{Verified}
use Rattle.cil_verify.specs.Verifies.{Verifies}
use Rattle.cil_verify.proofs.Examples.{has_types}

pub types_of : (p : Program) (r : Result Verified (Refused VerifyFault)) → Verifies p r → IfOk r (λ v. HasTypes v.program)
types_of p (Ok v) says = has_types v.program says.1.well_typed
types_of p (Err e) says = tt

pub few_of : (p : Program) (r : Result Verified (Refused VerifyFault)) → Verifies p r → IfOk r (λ v. EachClass HasFewSlots v.program)
few_of p (Ok v) says = record { each = λ number c here. (says.1.well_typed.later.each number c here).1.1.0 }
few_of p (Err e) says = tt

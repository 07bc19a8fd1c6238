-- What a verified program has.
use Rattle.il_model.specs.ClassRules.{HasTypes, EachClass, HasFewSlots}
use Rattle.cil_verify.specs.declared.verified.Verified.{Verified}
use Rattle.cil_verify.specs.Verifies.{IsVerified}
use Rattle.cil_verify.proofs.JudgingLemmas.{types_of_first}

pub types_of : (v : Verified) → IsVerified v → HasTypes v.program
types_of v ok = types_of_first v.program ok.well_typed.first

pub slots_of : (v : Verified) → IsVerified v → EachClass HasFewSlots v.program
slots_of v ok = record { each = λ number c there. (ok.well_typed.later.each number c there).1.1.0 }

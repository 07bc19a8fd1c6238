-- What the verifier answers. This project's own.
use Rattle.std.specs.Prelude.{◌≡◌, ◌⊎◌, Option, Some, None, option_map, Result, Ok, Err, ⊤}
use Rattle.mn_outside.specs.declared.outside.Refused.{Refused}
use Rattle.mn_outside.specs.declared.outside.Refused.TheVariants as refused
use Rattle.il_model.specs.declared.program.Program.{Program}
use Rattle.cil_verify.specs.declared.fault.Where.{Where}
use Rattle.cil_verify.specs.declared.fault.VerifyCause.TheVariants as cause
use Rattle.cil_verify.specs.declared.fault.VerifyFault.{VerifyFault}
use Rattle.cil_verify.specs.declared.verified.Verified.{Verified}
use Rattle.cil_verify.specs.WellTyped.{IsWellTyped, IsFirstRefusal}
use Rattle.cil_verify.specs.Forms.{first_unbuilt}
use Rattle.cil_verify.specs.Judging.{AreStatesOf}

-- a program that passed: all of its forms are built, it is well-typed, and the states are those of its methods
pub record IsVerified (v : Verified) : Type 0 where
  pub built : first_unbuilt v.program ≡ None
  pub well_typed : IsWellTyped v.program
  pub states : AreStatesOf v.program v.states v.program.methods

-- a refusal for a form that is not built, which comes before any other
abbrev pub not_built_at : Where → VerifyFault
not_built_at place = record { at = place; cause = cause.NotBuilt }

-- why a program is refused: at its first place that is not built or, where all is built, by the first refusal
abbrev pub IsRefused : Program → VerifyFault → Type 0
IsRefused program f = (option_map not_built_at (first_unbuilt program) ≡ Some f) ⊎ ((first_unbuilt program ≡ None) × IsFirstRefusal program f)

-- the answer on a program; want of memory says nothing
abbrev pub Verifies : Program → Result Verified (Refused VerifyFault) → Type 0
Verifies program (Ok v) = (v.program ≡ program) × IsVerified v
Verifies program (Err (refused.Fault f)) = IsRefused program f
Verifies program (Err refused.NoMemory) = ⊤

-- A program that passed is not refused.
use Rattle.std.proofs.Common.{◌≡◌, ◌∙◌, None, Some, inl, inr, sym, ap}
use Rattle.std.specs.Prelude.{option_map}
use Rattle.cil_verify.specs.declared.fault.VerifyFault.{VerifyFault}
use Rattle.cil_verify.specs.declared.verified.Verified.{Verified}
use Rattle.cil_verify.specs.Verifies.{IsRefused, IsVerified, not_built_at}
use Rattle.cil_verify.proofs.RefusalLemmas.{refused_is_not_typed}

none_some : (f : VerifyFault) → None ≡ Some f → ⊥
none_some f is = cc

pub verified_is_not_refused : (v : Verified) (f : VerifyFault) → IsVerified v → IsRefused v.program f → ⊥
verified_is_not_refused v f is (inl unbuilt) = none_some f (sym (ap (option_map not_built_at) is.built) ∙ unbuilt)
verified_is_not_refused v f is (inr refused) = refused_is_not_typed v.program f refused.1 is.well_typed

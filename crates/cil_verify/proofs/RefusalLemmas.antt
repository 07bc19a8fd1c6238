-- A program with a first refusal is not well-typed.
use Rattle.std.proofs.Common.{◌≡◌, ℕ, List, [], ◌∷◌, Option, Some, None, inl, inr, is_some, sym, ap, ◌∙◌}
use Rattle.std.proofs.lemmas.Bool.{true≢false}
use Rattle.il_model.specs.declared.method.MethodDef.{MethodDef}
use Rattle.il_model.specs.declared.program.Program.{Program}
use Rattle.cil_verify.specs.declared.fault.VerifyCause.{VerifyCause}
use Rattle.cil_verify.specs.declared.fault.VerifyFault.{VerifyFault}
use Rattle.cil_verify.specs.WellTyped.{Rule, HoldAll, FirstBroken, head_rules, size_rules, first_class_rules, later_class_rules, IsGoodMethod, IsRefusedMethod, by_head, by_body, by_size, IsWellTyped, IsFirstRefusal, of_class, of_class_later, of_method}

-- rules that all hold have none that is broken first
pub none_broken : {D : Type 0} (rules : List (Rule D)) (program : Program) (number : ℕ) (d : D) (c : VerifyCause) → FirstBroken rules program number d c → HoldAll rules program number d → ⊥
none_broken [] program number d c broken all = broken
none_broken (r ∷ rules) program number d c (inl broken) all = broken.0 all.0
none_broken (r ∷ rules) program number d c (inr broken) all = none_broken rules program number d c broken.1 all.1

pub some_is_not_none : {A : Type 0} (o : Option A) (x : A) → o ≡ Some x → o ≡ None → ⊥
some_is_not_none o x some none = true≢false (sym (ap is_some some) ∙ ap is_some none)

pub refused_is_not_good : (program : Program) (number : ℕ) (m : MethodDef) (f : VerifyFault) → IsRefusedMethod program number m f → IsGoodMethod program number m → ⊥
refused_is_not_good program number m _ (by_head c broken) good = none_broken head_rules program number m c broken good.head
refused_is_not_good program number m _ (by_body r heads is) good = some_is_not_none _ r is good.body.none
refused_is_not_good program number m _ (by_size c heads body broken) good = none_broken size_rules program number m c broken good.sizes

pub refused_is_not_typed : (program : Program) (f : VerifyFault) → IsFirstRefusal program f → IsWellTyped program → ⊥
refused_is_not_typed program _ (of_class number c why here before broken) typed =
    none_broken first_class_rules program number c why broken (typed.first.each number c here)
refused_is_not_typed program _ (of_class_later number c why here first before broken) typed =
    none_broken later_class_rules program number c why broken (typed.later.each number c here)
refused_is_not_typed program _ (of_method number m fault here first later before refused) typed =
    refused_is_not_good program number m fault refused (typed.methods.each number m here)

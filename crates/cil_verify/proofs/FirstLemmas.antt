-- A program has at most one first refusal.
use Rattle.std.proofs.Common.{◌≡◌, ℕ, zero, suc, ◌<◌, ◌⊎◌, inl, inr, List, [], ◌∷◌, Option, Some, None, slice_get, refl, sym, ap, ◌∙◌, subst, arith}
use Rattle.il_model.specs.declared.class.ClassDef.{ClassDef}
use Rattle.il_model.specs.declared.method.MethodDef.{MethodDef}
use Rattle.il_model.specs.declared.program.Program.{Program}
use Rattle.cil_verify.specs.declared.fault.Where.TheVariants as at
use Rattle.cil_verify.specs.declared.fault.VerifyCause.{VerifyCause}
use Rattle.cil_verify.specs.declared.fault.VerifyFault.{VerifyFault}
use Rattle.cil_verify.specs.States.{Refusal}
use Rattle.cil_verify.specs.WellTyped.{Rule, HoldAll, FirstBroken, head_rules, size_rules, first_class_rules, later_class_rules, HasGoodBody, IsGoodMethod, IsRefusedMethod, by_head, by_body, by_size, Each, EachBefore, IsFirstRefusal, of_class, of_class_later, of_method}
use Rattle.cil_verify.proofs.RefusalLemmas.{none_broken, some_is_not_none, refused_is_not_good}

data Order (a b : ℕ) : Type 0 where
  less : a < b → Order a b
  same : a ≡ b → Order a b
  more : b < a → Order a b

order : (a b : ℕ) → Order a b
order zero zero = same refl
order zero (suc b) = less (omega arith)
order (suc a) zero = more (omega arith)
order (suc a) (suc b) = elim (order a b) [ less h ↦ less (omega (arith, h)) | same e ↦ same (ap suc e) | more h ↦ more (omega (arith, h)) ]

-- the first rule that is broken has one cause
pub broken_once : {D : Type 0} (rules : List (Rule D)) (program : Program) (number : ℕ) (d : D) (c e : VerifyCause) →
    FirstBroken rules program number d c → FirstBroken rules program number d e → c ≡ e
broken_once [] program number d c e one other = absurd one
broken_once (r ∷ rules) program number d c e (inl one) (inl other) = one.1 ∙ sym other.1
broken_once (r ∷ rules) program number d c e (inl one) (inr other) = absurd (one.0 other.0)
broken_once (r ∷ rules) program number d c e (inr one) (inl other) = absurd (other.0 one.0)
broken_once (r ∷ rules) program number d c e (inr one) (inr other) = broken_once rules program number d c e one.1 other.1

refused_once : (program : Program) (number : ℕ) (m : MethodDef) (f g : VerifyFault) → IsRefusedMethod program number m f → IsRefusedMethod program number m g → f ≡ g
refused_once program number m _ _ (by_head c broken) (by_head e other) =
    ap (λ (k : VerifyCause). record { at = at.Method number; cause = k }) (broken_once head_rules program number m c e broken other)
refused_once program number m _ _ (by_head c broken) (by_body r heads is) = absurd (none_broken head_rules program number m c broken heads)
refused_once program number m _ _ (by_head c broken) (by_size e heads body other) = absurd (none_broken head_rules program number m c broken heads)
refused_once program number m _ _ (by_body r heads is) (by_head e other) = absurd (none_broken head_rules program number m e other heads)
refused_once program number m _ _ (by_body r heads is) (by_body s other so) =
    let same : r ≡ s = cc in ap (λ (k : Refusal). record { at = at.Instr number k.instr; cause = k.cause }) same
refused_once program number m _ _ (by_body r heads is) (by_size e other body broken) = absurd (some_is_not_none _ r is body.none)
refused_once program number m _ _ (by_size c heads body broken) (by_head e other) = absurd (none_broken head_rules program number m e other heads)
refused_once program number m _ _ (by_size c heads body broken) (by_body s other so) = absurd (some_is_not_none _ s so body.none)
refused_once program number m _ _ (by_size c heads body broken) (by_size e others again other) =
    ap (λ (k : VerifyCause). record { at = at.Method number; cause = k }) (broken_once size_rules program number m c e broken other)

abbrev class_refusal : ℕ → VerifyCause → VerifyFault
class_refusal number why = record { at = at.Class number; cause = why }

-- two classes of which each is the first that these rules refuse
class_once : (rules : List (Rule ClassDef)) (program : Program) (number other : ℕ) (c d : ClassDef) (why so : VerifyCause) →
    slice_get program.classes number ≡ Some c → slice_get program.classes other ≡ Some d →
    EachBefore (HoldAll rules program) program.classes number → EachBefore (HoldAll rules program) program.classes other →
    FirstBroken rules program number c why → FirstBroken rules program other d so →
    Order number other → class_refusal number why ≡ class_refusal other so
class_once rules program number other c d why so here there before earlier broken again (less h) =
    absurd (none_broken rules program number c why broken (earlier.each number c h here))
class_once rules program number other c d why so here there before earlier broken again (more h) =
    absurd (none_broken rules program other d so again (before.each other d h there))
class_once rules program number other c d why so here there before earlier broken again (same e) =
    let at_one : slice_get program.classes number ≡ Some d = ap (λ (k : ℕ). slice_get program.classes k) e ∙ there in
    let one : c ≡ d = cc in
    let moved : FirstBroken rules program number c so = subst (λ (k : ℕ). FirstBroken rules program k c so) (sym e) (subst (λ (x : ClassDef). FirstBroken rules program other x so) (sym one) again) in
    ap (λ (k : VerifyCause). class_refusal number k) (broken_once rules program number c why so broken moved)
    ∙ ap (λ (k : ℕ). class_refusal k so) e

method_once : (program : Program) (number other : ℕ) (m n : MethodDef) (f g : VerifyFault) →
    slice_get program.methods number ≡ Some m → slice_get program.methods other ≡ Some n →
    EachBefore (IsGoodMethod program) program.methods number → EachBefore (IsGoodMethod program) program.methods other →
    IsRefusedMethod program number m f → IsRefusedMethod program other n g → Order number other → f ≡ g
method_once program number other m n f g here there before earlier refused again (less h) =
    absurd (refused_is_not_good program number m f refused (earlier.each number m h here))
method_once program number other m n f g here there before earlier refused again (more h) =
    absurd (refused_is_not_good program other n g again (before.each other n h there))
method_once program number other m n f g here there before earlier refused again (same e) =
    let at_one : slice_get program.methods number ≡ Some n = ap (λ (k : ℕ). slice_get program.methods k) e ∙ there in
    let one : m ≡ n = cc in
    let moved : IsRefusedMethod program number m g = subst (λ (k : ℕ). IsRefusedMethod program k m g) (sym e) (subst (λ (x : MethodDef). IsRefusedMethod program other x g) (sym one) again) in
    refused_once program number m f g refused moved

pub refused_first : (program : Program) (f g : VerifyFault) → IsFirstRefusal program f → IsFirstRefusal program g → f ≡ g
refused_first program _ _ (of_class number c why here before broken) (of_class other d so there earlier again) =
    class_once first_class_rules program number other c d why so here there before earlier broken again (order number other)
refused_first program _ _ (of_class number c why here before broken) (of_class_later other d so there first earlier again) =
    absurd (none_broken first_class_rules program number c why broken (first.each number c here))
refused_first program _ _ (of_class number c why here before broken) (of_method other n g there first later earlier again) =
    absurd (none_broken first_class_rules program number c why broken (first.each number c here))
refused_first program _ _ (of_class_later number c why here first before broken) (of_class other d so there earlier again) =
    absurd (none_broken first_class_rules program other d so again (first.each other d there))
refused_first program _ _ (of_class_later number c why here first before broken) (of_class_later other d so there firsts earlier again) =
    class_once later_class_rules program number other c d why so here there before earlier broken again (order number other)
refused_first program _ _ (of_class_later number c why here first before broken) (of_method other n g there firsts later earlier again) =
    absurd (none_broken later_class_rules program number c why broken (later.each number c here))
refused_first program _ _ (of_method number m f here first later before refused) (of_class other d so there earlier again) =
    absurd (none_broken first_class_rules program other d so again (first.each other d there))
refused_first program _ _ (of_method number m f here first later before refused) (of_class_later other d so there firsts earlier again) =
    absurd (none_broken later_class_rules program other d so again (later.each other d there))
refused_first program _ _ (of_method number m f here first later before refused) (of_method other n g there firsts laters earlier again) =
    method_once program number other m n f g here there before earlier refused again (order number other)

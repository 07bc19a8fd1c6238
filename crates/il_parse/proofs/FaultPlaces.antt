-- The first fault of a text lies in it, and no later than a text may reach.
use Rattle.std.proofs.Common.{◌≡◌, ℕ, zero, suc, ◌+◌, ◌-◌, ◌<◌, ◌≤◌, Bool, true, false, cond, List, [], ◌∷◌, length, nat_lt, nat_le, Option, Some, None, refl, sym, ◌∙◌, ap, subst, arith}
use Rattle.std.proofs.lemmas.Bool.{ltb-true, ltb-false, leb-true}
use Rattle.il_text.specs.declared.fault.TextFault.{TextFault}
use Rattle.il_text.specs.declared.fault.TextCause.{TextCause}
use Rattle.il_text.specs.declared.fault.TextCause.TheVariants.{TooLong}
use Rattle.il_text.specs.Faults.{first_refusal, fault_or, cause_of, front_len, length_fault, earlier, fault_of}

-- if there is a fault, it is before this offset
abbrev IsBefore : ℕ → Option TextFault → Type 0
IsBefore end r = (f : TextFault) → r ≡ Some f → f.offset < end

none_before : (end : ℕ) → IsBefore end None
none_before end f e = cc

some_before : (end at : ℕ) (cause : TextCause) → at < end → IsBefore end (Some (record { offset = at; cause = cause }))
some_before end at cause order f e =
    let same : record { offset = at; cause = cause } ≡ f = cc in
    let is : at ≡ f.offset = ap (λ g. g.offset) same in
    omega arith

fault_before : (end at : ℕ) (cause : Option TextCause) (later : Option TextFault) → at < end → IsBefore end later → IsBefore end (fault_or cause at later)
fault_before end at None later order after = after
fault_before end at (Some cause) later order after = some_before end at cause order

refusal_before : (at inside : ℕ) (bytes : List ℕ) (end : ℕ) → end ≡ at + length bytes → IsBefore end (first_refusal at inside bytes)
refusal_before at inside [] end is = none_before end
refusal_before at (suc inside) (b ∷ bs) end is = refusal_before (at + 1) inside bs end (omega arith)
refusal_before at zero (b ∷ bs) end is =
    fault_before end at (cause_of (b ∷ bs)) (first_refusal (at + 1) (front_len (b ∷ bs) - 1) bs) (omega arith)
    (refusal_before (at + 1) (front_len (b ∷ bs) - 1) bs end (omega arith))

-- a fault in the text, and no later than this
pub record IsInside (len most : ℕ) (f : TextFault) : Type 0 where
  pub inside : f.offset ≤ len
  pub early : f.offset ≤ most

length_inside : (len most : ℕ) (t : Bool) → nat_lt most len ≡ t → (f : TextFault) → cond t (Some (record { offset = most; cause = TooLong })) None ≡ Some f → IsInside len most f
length_inside len most true is f e =
    let same : record { offset = most; cause = TooLong } ≡ f = cc in
    let at : most ≡ f.offset = ap (λ g. g.offset) same in
    let long : most < len = ltb-true most len is in
    record { inside = omega arith; early = omega arith }
length_inside len most false is f e = absurd (cc)

one_of : (len most : ℕ) (a : TextFault) (u : Bool) → nat_le a.offset most ≡ u → a.offset < len → most < len → (f : TextFault) →
    cond u (Some a) (Some (record { offset = most; cause = TooLong })) ≡ Some f → IsInside len most f
one_of len most a true is before long f e =
    let same : a ≡ f = cc in
    let at : a.offset ≡ f.offset = ap (λ g. g.offset) same in
    let early : a.offset ≤ most = leb-true a.offset most is in
    record { inside = omega arith; early = omega arith }
one_of len most a false is before long f e =
    let same : record { offset = most; cause = TooLong } ≡ f = cc in
    let at : most ≡ f.offset = ap (λ g. g.offset) same in
    record { inside = omega arith; early = omega arith }

earlier_inside : (len most : ℕ) (t : Bool) → nat_lt most len ≡ t → (first : Option TextFault) → IsBefore len first → (f : TextFault) →
    earlier first (cond t (Some (record { offset = most; cause = TooLong })) None) ≡ Some f → IsInside len most f
earlier_inside len most t is None before f e = length_inside len most t is f e
earlier_inside len most true is (Some a) before f e = one_of len most a (nat_le a.offset most) refl (before a refl) (ltb-true most len is) f e
earlier_inside len most false is (Some a) before f e =
    let same : a ≡ f = cc in
    let at : a.offset ≡ f.offset = ap (λ g. g.offset) same in
    let inside : a.offset < len = before a refl in
    let short : len ≤ most = ltb-false most len is in
    record { inside = omega arith; early = omega arith }

pub fault_inside : (text : List ℕ) (f : TextFault) → fault_of text ≡ Some f → IsInside (length text) 4194304 f
fault_inside text f e =
    earlier_inside (length text) 4194304 (nat_lt 4194304 (length text)) refl (first_refusal 0 0 text) (refusal_before 0 0 text (length text) (omega arith)) f e

-- The fault of a text.
use Rattle.std.proofs.Common.{◌≡◌, ◌<◌, ◌≤◌, ◌+◌, ◌-◌, ℕ, zero, suc, List, [], ◌∷◌, length, drop, Option, Some, None, refl, sym, ap, ◌∙◌, arith, inl, inr, if◌then◌else◌}
use Rattle.std.proofs.lemmas.Bool.{cases_lt, lt-ltb, le-ltb, le-leb, lt-leb}
use Rattle.il_text.specs.declared.token.Token.{Token}
use Rattle.il_text.specs.declared.fault.TextFault.{TextFault}
use Rattle.il_text.specs.declared.fault.TextCause.{TextCause}
use Rattle.il_text.specs.declared.fault.TextCause.TheVariants.{TooLong}
use Rattle.il_text.specs.Tokens.{AreTokens}
use Rattle.il_text.specs.Faults.{front_len, cause_of, fault_or, first_refusal, length_fault, earlier, fault_of}
use Rattle.il_text.proofs.Steps.{first_refusal-step}
use Rattle.il_text.proofs.OneReading.{first_refusal-read}

length_fault-long : (text : List ℕ) → 4194304 < length text → length_fault text ≡ Some (record { offset = 4194304; cause = TooLong })
length_fault-long text l = ap (λ t. if t then Some (record { offset = 4194304; cause = TooLong }) else None) (lt-ltb 4194304 (length text) l)

length_fault-short : (text : List ℕ) → length text ≤ 4194304 → length_fault text ≡ None
length_fault-short text l = ap (λ t. if t then Some (record { offset = 4194304; cause = TooLong }) else None) (le-ltb 4194304 (length text) l)

earlier_first : (text : List ℕ) (f : TextFault) → f.offset ≤ 4194304 → earlier (Some f) (length_fault text) ≡ Some f
earlier_first text f l =
    elim (cases_lt 4194304 (length text)) [
      | inl long ↦ ap (earlier (Some f)) (length_fault-long text long) ∙ ap (λ t. if t then Some f else Some (record { offset = 4194304; cause = TooLong })) (le-leb f.offset 4194304 l)
      | inr short ↦ ap (earlier (Some f)) (length_fault-short text short)
    ]

refusal_here : (at : ℕ) (bytes : List ℕ) (cause : TextCause) → 0 < length bytes → cause_of bytes ≡ Some cause → first_refusal at 0 bytes ≡ Some (record { offset = at; cause = cause })
refusal_here at [] cause l e = absurd (omega (arith, l))
refusal_here at (b ∷ bytes) cause l e = ap (λ c. fault_or c at (first_refusal (at + 1) (front_len (b ∷ bytes) - 1) bytes)) e

-- what is refused at the place that is reached is the fault
pub fault_here : (text bytes : List ℕ) (at : ℕ) (cause : TextCause) → first_refusal at 0 bytes ≡ first_refusal 0 0 text → at ≤ 4194304 → 0 < length bytes → cause_of bytes ≡ Some cause → fault_of text ≡ Some (record { offset = at; cause = cause })
fault_here text bytes at cause same l some e =
    ap (λ o. earlier o (length_fault text)) (sym same ∙ refusal_here at bytes cause some e) ∙ earlier_first text (record { offset = at; cause = cause }) l

fault_or-offset : (c : Option TextCause) (at : ℕ) (later : Option TextFault) (f : TextFault) → fault_or c at later ≡ Some f → (later ≡ Some f → at ≤ f.offset) → at ≤ f.offset
fault_or-offset None at later f e go = go e
fault_or-offset (Some cause) at later f e go =
    let same : record { offset = at; cause = cause } ≡ f = cc in
    omega (arith, ap (λ (g : TextFault). g.offset) same)

first_refusal-offset : (at inside : ℕ) (bytes : List ℕ) (f : TextFault) → first_refusal at inside bytes ≡ Some f → at ≤ f.offset
first_refusal-offset at inside [] f e = let wrong : None ≡ Some f = e in cc
first_refusal-offset at (suc inside) (b ∷ bytes) f e = omega (arith, first_refusal-offset (at + 1) inside bytes f e)
first_refusal-offset at zero (b ∷ bytes) f e =
    fault_or-offset (cause_of (b ∷ bytes)) at (first_refusal (at + 1) (front_len (b ∷ bytes) - 1) bytes) f e (λ g. omega (arith, first_refusal-offset (at + 1) (front_len (b ∷ bytes) - 1) bytes f g))

later_fault : (text : List ℕ) (r : Option TextFault) → 4194304 < length text → ((f : TextFault) → r ≡ Some f → 4194304 < f.offset) → earlier r (length_fault text) ≡ Some (record { offset = 4194304; cause = TooLong })
later_fault text None long past = length_fault-long text long
later_fault text (Some f) long past =
    ap (earlier (Some f)) (length_fault-long text long) ∙ ap (λ t. if t then Some f else Some (record { offset = 4194304; cause = TooLong })) (lt-leb f.offset 4194304 (past f refl))

-- where what stands in front goes past the limit, the text is too long
pub too_long : (text bytes : List ℕ) (at len : ℕ) → first_refusal at 0 bytes ≡ first_refusal 0 0 text → cause_of bytes ≡ None → front_len bytes ≡ len → 0 < len → 4194304 < at + len → at + len ≤ length text → fault_of text ≡ Some (record { offset = 4194304; cause = TooLong })
too_long text bytes at len same fine front some past inside =
    let r = first_refusal (at + len) 0 (drop len bytes) in
    ap (λ o. earlier o (length_fault text)) (sym same ∙ first_refusal-step at bytes len fine front some)
    ∙ later_fault text r (omega (arith, past, inside)) (λ f e. omega (arith, past, first_refusal-offset (at + len) 0 (drop len bytes) f e))

-- a text that has tokens has no fault
pub no_tokens : (text : List ℕ) (tokens : List Token) (f : TextFault) → fault_of text ≡ Some f → AreTokens text tokens → ⊥
no_tokens text tokens f e a =
    let none : fault_of text ≡ None = ap (λ o. earlier o (length_fault text)) (first_refusal-read text tokens a) ∙ length_fault-short text a.short in
    let wrong : None ≡ Some f = sym none ∙ e in cc

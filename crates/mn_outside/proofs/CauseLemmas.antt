-- Lemmas on what answers say.
use Rattle.std.proofs.Common.{◌≡◌, ◌∙◌, ℕ, List, [], ◌++◌, Result, Ok, Err, Some, None, take, drop, take-append-drop, take-add, length, length-drop, ◌-◌, ap, ◌+◌, refl, sym, append-nil, arith, Option, subst}
use Rattle.std.proofs.Math.Seq.{take-length}
use Rattle.std.specs.Prelude.{IfOk, OnOk, OnErr}
use Rattle.std.specs.Io.KnownBytes.{Appends, Keeps}
use Rattle.std.proofs.KnownBytes.{Appends-trans, Appends-kept}
use Rattle.mn_outside.specs.Causes.{AppendsPrefix, Holds, HasCause, IsFault}
use Rattle.mn_outside.specs.declared.outside.Refused.{Refused}
use Rattle.mn_outside.specs.declared.outside.Refused.TheVariants.{Fault, NoMemory}

-- what is as it was has grown by a prefix of any bytes
pub prefix-same : (before now bytes : List ℕ) → now ≡ before → AppendsPrefix (Some before) (Some now) bytes
prefix-same before now bytes same = ([], bytes, refl, same ∙ sym (append-nil before))

pub prefix-on_err : {T E : Type 0} (result : Result T E) (before now bytes : List ℕ) → OnErr result (now ≡ before)
    → OnErr result (AppendsPrefix (Some before) (Some now) bytes)
prefix-on_err (Ok x) before now bytes same = same
prefix-on_err (Err e) before now bytes same = prefix-same before now bytes same

-- where there is no fault, none has to have a cause
pub cause-never : {T E : Type 0} (result : Result T (Refused E)) → ¬ IsFault result → HasCause 0 0 result
cause-never (Ok x) never = record { later = omega arith; failed = tt }
cause-never (Err (Fault e)) never = absurd (never tt)
cause-never (Err NoMemory) never = record { later = omega arith; failed = tt }

-- where it isn't told what is held or written, nothing is said of it
pub holds-untold : {E : Type 0} {T : Type 0} (view : T → List ℕ) (result : Result T E) (name : List ℕ) → IfOk result (λ x. Holds None name (view x))
holds-untold view (Ok x) name = tt
holds-untold view (Err e) name = tt

pub holds_now-untold : {T E : Type 0} (result : Result T E) (name bytes : List ℕ) → OnOk result (Holds None name bytes)
holds_now-untold (Ok x) name bytes = tt
holds_now-untold (Err e) name bytes = tt

pub appends-untold : {T E : Type 0} (result : Result T E) (bytes : List ℕ) → OnOk result (Appends None None bytes)
appends-untold (Ok x) bytes = tt
appends-untold (Err e) bytes = tt

pub prefix-untold : {T E : Type 0} (result : Result T E) (bytes : List ℕ) → OnErr result (AppendsPrefix None None bytes)
prefix-untold (Ok x) bytes = tt
prefix-untold (Err e) bytes = ([], bytes, refl, tt)

-- what was put so far is a prefix, where the next write put nothing
pub prefix-kept : (a b c : Option (List ℕ)) (bytes : List ℕ) (at : ℕ) → Appends a b (take at bytes) → Keeps b c → AppendsPrefix a c bytes
prefix-kept a b c bytes at put kept = (take at bytes, drop at bytes, sym (take-append-drop at bytes), Appends-kept a b c (take at bytes) put kept)

pub prefix-put : (a b c : Option (List ℕ)) (bytes rest : List ℕ) (at count : ℕ) → Appends a b (take at bytes) → Appends b c (take count rest) → count ≡ 0
    → AppendsPrefix a c bytes
prefix-put a b c bytes rest at count put more none =
    let nothing : take at bytes ++ take count rest ≡ take at bytes = rw none (append-nil (take at bytes)) in
    (take at bytes, drop at bytes, sym (take-append-drop at bytes), subst (Appends a c) nothing (Appends-trans a b c _ _ put more))

-- the rest of a list, as a range
pub take-rest : (xs : List ℕ) (n : ℕ) → take (length xs - n) (drop n xs) ≡ drop n xs
take-rest xs n = subst (λ k. take k (drop n xs) ≡ drop n xs) (length-drop n xs) (take-length (drop n xs))

-- what was put so far, and then what the next write took
pub appends-more : (a b c : Option (List ℕ)) (bytes : List ℕ) (at count : ℕ) → Appends a b (take at bytes)
    → Appends b c (take count (take (length bytes - at) (drop at bytes))) → Appends a c (take (at + count) bytes)
appends-more a b c bytes at count put more =
    let joined : take at bytes ++ take count (take (length bytes - at) (drop at bytes)) ≡ take (at + count) bytes =
    ap (λ l. take at bytes ++ take count l) (take-rest bytes at) ∙ sym (take-add at count bytes) in
    subst (Appends a c) joined (Appends-trans a b c _ _ put more)

-- What an answer of the outside may say, and what it leaves. This project's own.
use Rattle.std.specs.Prelude.{◌≡◌, ◌≢◌, ◌+◌, ◌-◌, ◌^◌, ◌≤◌, ℕ, min, List, ◌++◌, Option, Some, None, Result, Ok, Err, OnOk, OnErr, ⊤}
use Rattle.std.specs.Io.KnownBytes.{Appends}
use Rattle.mn_outside.specs.declared.outside.Failed.{Failed}
use Rattle.mn_outside.specs.declared.outside.Refused.{Refused}
use Rattle.mn_outside.specs.declared.outside.Refused.TheVariants.{Fault, NoMemory}

-- a count went up, or stands at its last value
abbrev pub Rose : ℕ → ℕ → Type 0
Rose before now = min (before + 1) (2 ^ 64 - 1) ≤ now

-- a fact for a fault alone, and not for want of memory
abbrev pub OnFault : {T E : Type 0} → Result T (Refused E) → Type 0 → Type 0
OnFault (Ok x) P = ⊤
OnFault (Err (Fault e)) P = P
OnFault (Err NoMemory) P = ⊤

-- the answer is a fault
abbrev pub IsFault : {T E : Type 0} → Result T (Refused E) → Type 0
IsFault (Ok x) = ⊥
IsFault (Err (Fault e)) = ⊤
IsFault (Err NoMemory) = ⊥

-- a count never falls, and rose where a fault is told
pub record HasCause {T E : Type 0} (before now : ℕ) (result : Result T (Refused E)) : Type 0 where
  pub later : before ≤ now
  pub failed : OnFault result (Rose before now)

-- no name's count falls
abbrev pub NeverFall : (List ℕ → ℕ) → (List ℕ → ℕ) → Type 0
NeverFall before now = (name : List ℕ) → before name ≤ now name

-- what is held under each name
abbrev pub Held : Type 0
Held = List ℕ → Option (List ℕ)

-- these bytes are held under the name, where it is told what is held
abbrev pub Holds : Option Held → List ℕ → List ℕ → Type 0
Holds None name bytes = ⊤
Holds (Some held) name bytes = held name ≡ Some bytes

-- all names but this one hold what they held, where it was told and is
abbrev pub KeepsOthers : Option Held → Option Held → List ℕ → Type 0
KeepsOthers None now name = ⊤
KeepsOthers (Some before) None name = ⊥
KeepsOthers (Some before) (Some now) name = (other : List ℕ) → other ≢ name → now other ≡ before other

-- a prefix of the bytes was put at the end
abbrev pub AppendsPrefix : Option (List ℕ) → Option (List ℕ) → List ℕ → Type 0
AppendsPrefix before now bytes = (front rest : List ℕ) × (bytes ≡ front ++ rest) × Appends before now front

-- a prefix of the first, and then a prefix of the second
abbrev pub AppendsTwo : Option (List ℕ) → Option (List ℕ) → List ℕ → List ℕ → Type 0
AppendsTwo before now first second = (mid : Option (List ℕ)) × AppendsPrefix before mid first × AppendsPrefix mid now second

-- what a call that writes leaves of a sink: Ok put the bytes at the end, any refusal a prefix of them,
-- and a fault has its cause
pub record Wrote {T : Type 0} (before now : Option (List ℕ)) (faults_before faults_now : ℕ) (result : Result T (Refused Failed)) (bytes : List ℕ) : Type 0 where
  pub ok : OnOk result (Appends before now bytes)
  pub err : OnErr result (AppendsPrefix before now bytes)
  pub cause : HasCause faults_before faults_now result

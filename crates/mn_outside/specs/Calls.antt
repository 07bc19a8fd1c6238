-- The calls of files and sinks in memory: their numbers, which of them fail, and the count of faults. This project's own.
use Rattle.std.specs.Prelude.{◌+◌, ◌-◌, ◌^◌, ◌<◌, ℕ, min, List, Contains, Result, Ok, Err}
use Rattle.mn_outside.specs.declared.outside.Refused.{Refused}
use Rattle.mn_outside.specs.declared.outside.Refused.TheVariants.{Fault, NoMemory}

-- the call with this number is one of those that fail; at its last value a number is that of many calls, and of none of these
abbrev pub Fails : List ℕ → ℕ → Type 0
Fails fail number = (number < 2 ^ 32 - 1) × Contains fail number

-- the number of the next call
abbrev pub next_call : ℕ → ℕ
next_call number = min (number + 1) (2 ^ 32 - 1)

-- the count of faults after one more
abbrev pub next_fault : ℕ → ℕ
next_fault faults = min (faults + 1) (2 ^ 64 - 1)

-- the count of faults after an answer
abbrev pub faults_after : {T E : Type 0} → Result T (Refused E) → ℕ → ℕ
faults_after (Ok x) faults = faults
faults_after (Err (Fault e)) faults = next_fault faults
faults_after (Err NoMemory) faults = faults

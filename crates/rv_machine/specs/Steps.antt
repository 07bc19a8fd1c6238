-- One step of the machine: what it answers, and what the core and the bus are after it.
-- Registers and words are after the RISC-V unprivileged ISA; where code lies, and the faults, are this project's own.
use Rattle.std.specs.Prelude.{◌≡◌, ◌≢◌, ℕ, ◌-◌, ◌*◌, ◌/◌, ◌%◌, ◌^◌, ◌==◌, ◌&&◌, nat_le, Bool, true, false, if◌then◌else◌, Option, Some, None, MatchOption, List, slice_get}
use Rattle.mn_outside.specs.declared.machine.FaultCause.{FaultCause}
use Rattle.mn_outside.specs.declared.machine.FaultCause.TheVariants.{Fetch, Undefined, Misaligned, Access, Break}
use Rattle.rv_isa.specs.Reading.{decode_of}
use Rattle.rv_machine.specs.declared.registers.Core.{Core}
use Rattle.rv_machine.specs.declared.effect.Effect.{Effect}
use Rattle.rv_machine.specs.declared.effect.Effect.TheVariants.{Sets, Loads, Stores, Goes, Calls, Breaks}
use Rattle.rv_machine.specs.declared.size.Size.{Size}
use Rattle.rv_machine.specs.declared.size.Size.TheVariants.{One, Two, Four, Eight}
use Rattle.rv_machine.specs.declared.outcome.Step.{Step}
use Rattle.rv_machine.specs.declared.outcome.Step.TheVariants.{Went, Call, Fault}
use Rattle.rv_machine.specs.Arithmetic.{extended}
use Rattle.rv_machine.specs.Registers.{with_register, next_pc, at_pc}
use Rattle.rv_machine.specs.Effect.{effect_of}

-- the code word at an address: code word i is at 65,536 + 4 i
abbrev pub fetched : List ℕ → ℕ → Option ℕ
fetched code pc = if nat_le 65536 pc && (pc % 4 == 0) then slice_get code ((pc - 65536) / 4) else None

-- how many bytes
abbrev pub bytes_of : Size → ℕ
bytes_of One = 1
bytes_of Two = 2
bytes_of Four = 4
bytes_of Eight = 8

-- the low bytes of a word
abbrev pub stored : Size → ℕ → ℕ
stored size word = word % 2 ^ (8 * bytes_of size)

-- what a load puts into its register, from what the bus answered: its low bytes, extended by sign or zeros
abbrev pub loaded : Size → Bool → ℕ → ℕ
loaded size sign word = if sign then extended (8 * bytes_of size) word else stored size word

-- a fault at the core's pc
abbrev pub fault_of : FaultCause → Core → Step
fault_of cause core = Fault (record { pc = core.pc; cause = cause })

-- a step that ends in a fault leaves the core and the bus as before
abbrev pub Faults : {B : Type 0} → FaultCause → Core → B → Step → Core → B → Type 0
Faults cause core bus answer core' bus' =
    (answer ≡ fault_of cause core) × (core' ≡ core) × (bus' ≡ bus)

-- after the one read of a load that isn't misaligned: `reply` is what the bus answered
abbrev pub LoadEnds : {B : Type 0} → ℕ → Size → Bool → ℕ → Option ℕ → Core → B → Step → Core → B → Type 0
LoadEnds rd size sign address None core bus answer core' bus' = Faults (Access address) core bus answer core' bus'
LoadEnds rd size sign address (Some word) core bus answer core' bus' =
    (answer ≡ Went) × (core' ≡ at_pc (with_register core rd (loaded size sign word)) (next_pc core))

pub record Loaded {B : Type 0} (reads : B → ℕ → ℕ → Option ℕ → B → Type 0) (rd : ℕ) (size : Size) (sign : Bool) (address : ℕ) (core : Core) (bus : B) (answer : Step) (core' : Core) (bus' : B) : Type 0 where
  pub reply : Option ℕ
  pub access : reads bus address (bytes_of size) reply bus'
  pub ends : LoadEnds rd size sign address reply core bus answer core' bus'

-- after the one write of a store that isn't misaligned: `reply` is whether the bus took it
abbrev pub StoreEnds : {B : Type 0} → ℕ → Bool → Core → B → Step → Core → B → Type 0
StoreEnds address false core bus answer core' bus' = Faults (Access address) core bus answer core' bus'
StoreEnds address true core bus answer core' bus' = (answer ≡ Went) × (core' ≡ at_pc core (next_pc core))

pub record Stored {B : Type 0} (writes : B → ℕ → ℕ → ℕ → Bool → B → Type 0) (size : Size) (address word : ℕ) (core : Core) (bus : B) (answer : Step) (core' : Core) (bus' : B) : Type 0 where
  pub reply : Bool
  pub access : writes bus address (bytes_of size) (stored size word) reply bus'
  pub ends : StoreEnds address reply core bus answer core' bus'

-- what is so after an effect, one equation a kind of effect
abbrev pub Does : {B : Type 0} → (B → ℕ → ℕ → Option ℕ → B → Type 0) → (B → ℕ → ℕ → ℕ → Bool → B → Type 0)
    → Effect → Core → B → Step → Core → B → Type 0
Does reads writes (Sets rd word) core bus answer core' bus' =
    (answer ≡ Went) × (core' ≡ at_pc (with_register core rd word) (next_pc core)) × (bus' ≡ bus)
Does reads writes (Loads rd size sign address) core bus answer core' bus' =
    (address % bytes_of size ≡ 0 → Loaded reads rd size sign address core bus answer core' bus')
    × (address % bytes_of size ≢ 0 → Faults (Misaligned address) core bus answer core' bus')
Does reads writes (Stores size address word) core bus answer core' bus' =
    (address % bytes_of size ≡ 0 → Stored writes size address word core bus answer core' bus')
    × (address % bytes_of size ≢ 0 → Faults (Misaligned address) core bus answer core' bus')
Does reads writes (Goes rd target) core bus answer core' bus' =
    (answer ≡ Went) × (core' ≡ at_pc (with_register core rd (next_pc core)) target) × (bus' ≡ bus)
Does reads writes Calls core bus answer core' bus' =
    (answer ≡ Call) × (core' ≡ at_pc core (next_pc core)) × (bus' ≡ bus)
Does reads writes Breaks core bus answer core' bus' = Faults Break core bus answer core' bus'

-- a step, whole: from code, core and bus to the answer, the next core and the next bus, by what reads and writes of this bus mean
abbrev pub Steps : {B : Type 0} → (B → ℕ → ℕ → Option ℕ → B → Type 0) → (B → ℕ → ℕ → ℕ → Bool → B → Type 0)
    → List ℕ → Core → B → Step → Core → B → Type 0
Steps reads writes code core bus answer core' bus' =
    MatchOption (fetched code core.pc)
    (Faults Fetch core bus answer core' bus')
    (λ word. MatchOption (decode_of word)
    (Faults (Undefined word) core bus answer core' bus')
    (λ instr. Does reads writes (effect_of instr core) core bus answer core' bus'))

-- The example's threads: two words, a node's and an entry's, which are filled when the first thread needs them.
use Rattle.std.specs.Prelude.{◌≡◌, ◌⊎◌, ℕ, List, [], ◌∷◌, nat_lt, if◌then◌else◌, ◌==◌}
use Rattle.interaction.specs.declared.turn.What.TheVariants.{Instr, Load as LoadNote}
use Rattle.interaction.specs.Thread.{Want, Turn, Go, Read, Load, Claim, Ask, Fault, Over}
use Rattle.interaction.specs.LooseRun.{Told}
use Rattle.interaction.specs.Run.{Machine}
use Rattle.interaction.specs.Starts.{begin_of}
use Rattle.interaction.specs.CounterProcess.{leave_by}
use Rattle.interaction.specs.CounterObject.{Request, Reply, Counter, Add, Start, Sum, Begun, Done, Halted, Improper, counter, starts_at}

-- where a thread's code stands; between settling and adding it may fill the node's word and then the entry's
pub data State : Type 0 where
  AtBeginning : State
  AtForking : State
  AtSettling : State
  Filling : State
  Entering : State
  AtAdding : ℕ → State
  AtLeaving : ℕ → State
  Ended : State
  Broken : State

abbrev pub on_begun : Reply → State
on_begun (Sum n) = Broken
on_begun (Begun u) = AtSettling
on_begun Done = Broken
on_begun Halted = Broken
on_begun Improper = Broken

abbrev pub on_added : Reply → State
on_added (Sum n) = AtLeaving n
on_added (Begun u) = Broken
on_added Done = Broken
on_added Halted = Broken
on_added Improper = Broken

abbrev pub on_done : Reply → State
on_done (Sum n) = Broken
on_done (Begun u) = Broken
on_done Done = Ended
on_done Halted = Broken
on_done Improper = Broken

-- one turn of a thread
abbrev pub want : State → Want Request Reply State
want AtBeginning = Go (Instr 65536 19) AtForking
want AtForking = Ask Start on_begun
want AtSettling = Load (LoadNote 1) 1 (λ v. if v == 0 then Filling else AtAdding v)
want Filling = Claim 0 7 (λ v. Entering)
want Entering = Claim 1 1 (λ v. AtAdding 1)
want (AtAdding i) = Read 0 (λ t. Ask (Add t) on_added)
want (AtLeaving n) = Ask (leave_by (nat_lt 10 n) n) on_done
want Ended = Over
want Broken = Fault

abbrev pub machine : Machine Request Reply State Counter
machine = record { object = counter; want = want; begin = begin_of AtBeginning (starts_at AtSettling) }

-- the words fit: the node's word is put before the entry's
pub data Fits : List ℕ → Type 0 where
  empty : Fits (0 ∷ 0 ∷ [])
  named : Fits (7 ∷ 0 ∷ [])
  filled : Fits (7 ∷ 1 ∷ [])

-- a thread that knows the entry knows the node that it names
abbrev pub Known : List ℕ → List (Turn Request Reply) → ℕ → Type 0
Known w ts i = Told ts i ⊎ ((i ≡ 0) × Told ts 1)

-- the turns that a fill gains: the two claims
abbrev pub gain : State → ℕ
gain AtSettling = 2
gain s = 0

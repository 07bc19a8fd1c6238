-- The example's process: a thread adds the amount that an entry names, and finishes with the sum that it was told, or stops all where that is above 10; the first one starts another before.
use Rattle.std.specs.Prelude.{ℕ, Bool, true, false, nat_lt, List, Option, Some, None, if◌then◌else◌, ◌==◌, slice_index}
use Rattle.interaction.specs.declared.history.Event.{Event}
use Rattle.interaction.specs.Process.{Act, Naming, Next, Settle, Spell, Ask, Over, Stuck}
use Rattle.interaction.specs.Starts.{begin_of, as_process}
use Rattle.interaction.specs.CounterObject.{Request, Reply, Add, Start, Finish, Stop, Sum, Begun, Done, Halted, Improper, starts_at}

-- the one entry that is mentioned
pub data Mention : Type 0 where
  Amount : Mention

-- which instruction comes next, with what it has
pub data Frames : Type 0 where
  Beginning : Frames
  Forking : Frames
  Settling : Frames
  Adding : ℕ → Frames
  Leaving : ℕ → Frames

abbrev pub Left : Type 0
Left = Act Mention ℕ Request Reply Frames

abbrev pub when_begun : Reply → Left
when_begun (Sum n) = Stuck
when_begun (Begun u) = Next Settling
when_begun Done = Stuck
when_begun Halted = Stuck
when_begun Improper = Stuck

abbrev pub when_added : Reply → Left
when_added (Sum n) = Next (Leaving n)
when_added (Begun u) = Stuck
when_added Done = Stuck
when_added Halted = Stuck
when_added Improper = Stuck

abbrev pub when_done : Reply → Left
when_done (Sum n) = Stuck
when_done (Begun u) = Stuck
when_done Done = Over
when_done Halted = Stuck
when_done Improper = Stuck

-- how a thread leaves
abbrev pub leave_by : (stops : Bool) → ℕ → Request
leave_by true n = Stop
leave_by false n = Finish n

-- each instruction once, as a tree
abbrev pub meaning : Frames → Left
meaning Beginning = Next Forking
meaning Forking = Ask Start when_begun
meaning Settling = Settle Amount (λ i. Next (Adding i))
meaning (Adding i) = Spell i (λ t. Ask (Add t) when_added)
meaning (Leaving n) = Ask (leave_by (nat_lt 10 n) n) when_done

-- Number 1 is the node's, whose word at index 0 is the amount; the entry's word at index 1 is that number.
abbrev pub amount_in : ℕ → Option ℕ
amount_in word = if word == 0 then None else Some word

abbrev pub naming_of : List ℕ → Naming Mention ℕ
naming_of w = record {
  value_of = λ m. if slice_index w 0 == 0 then None else Some 1;
  tree_at = λ i. if i == 1 then amount_in (slice_index w 0) else None;
}

-- where the process of each thread begins
abbrev pub begin : List (Event Request Reply) → ℕ → Option Left
begin h u = as_process (begin_of Beginning (starts_at Settling) h u)

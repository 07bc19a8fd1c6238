-- The run of an image, as an instance: its machine, the numbers that a seed draws, and what the code keeps of it.
use Rattle.std.specs.Prelude.{◌≡◌, ℕ, zero, suc, ◌+◌, ◌*◌, ◌/◌, ◌%◌, ◌^◌, List, [], ◌∷◌, map}
use Rattle.interaction.specs.declared.history.Event.{Event}
use Rattle.interaction.specs.Thread.{what_of}
use Rattle.interaction.specs.Starts.{begin_of}
use Rattle.interaction.specs.Run.{Machine, Taken, Outcome, Ending, Done as AllDone, TurnsUsed, StuckAt, FullAt, Idle, run}
use Rattle.store_object.specs.declared.ending.Ending.{Ending as KeptEnding}
use Rattle.store_object.specs.declared.ending.Ending.TheVariants as kept
use Rattle.store_object.specs.declared.reply.Reply.{Reply}
use Rattle.store_object.specs.declared.request.Request.{Request}
use Rattle.store_object.specs.Replay.{store}
use Rattle.store_object.specs.Store.{Store}
use Rattle.run_top.specs.declared.record.Turn.{Turn}
use Rattle.run_top.specs.Process.{starts}
use Rattle.run_top.specs.Machine.{Thread, want, start}

-- the image, and Main's frame of so many words
abbrev pub machine_of : List ℕ → ℕ → Machine Request Reply Thread Store
machine_of image words = record { object = store; want = want image; begin = begin_of (start words) (starts (start words)) }

-- the numbers that are drawn from a seed, one before each turn
abbrev pub next_seed : ℕ → ℕ
next_seed s = (s * 6364136223846793005 + 1442695040888963407) % 2 ^ 64

abbrev pub numbers : ℕ → ℕ → List ℕ
numbers s zero = []
numbers s (suc n) = next_seed s / 2 ^ 33 ∷ numbers (next_seed s) n

-- at most so many turns of the image from seed 0; no turn of this stage reads a word of the context
abbrev pub image_run : List ℕ → ℕ → ℕ → Outcome Request Reply Thread Store
image_run image words limit = run (machine_of image words) (numbers 0 limit) []

-- the turns as they are noted
abbrev pub notes_of : List (Taken Request Reply) → List Turn
notes_of turns = map (λ t. record { thread = t.thread; what = what_of t.turn }) turns

-- the ending that is kept is the run's; a run of this form has no other than these two
abbrev pub IsEnding : KeptEnding → Ending Thread → Type 0
IsEnding kept.Done ending = ending ≡ AllDone
IsEnding (kept.Uncaught kind) ending = ⊥
IsEnding kept.Turns ending = ending ≡ TurnsUsed
IsEnding (kept.Stopped why) ending = ⊥
IsEnding (kept.Full region key) ending = ⊥
IsEnding (kept.Fault fault) ending = ⊥

-- the run ends where no thread lives or the turns are used up, and not for want of a turn
abbrev pub IsRegular : Ending Thread → Type 0
IsRegular AllDone = Unit {0}
IsRegular TurnsUsed = Unit {0}
IsRegular (StuckAt thread t) = ⊥
IsRegular (FullAt thread t) = ⊥
IsRegular (Idle thread) = ⊥

-- what is kept is this run
pub record IsRun (r : Outcome Request Reply Thread Store) (turns : List Turn) (history : List (Event Request Reply)) (ending : KeptEnding) : Type 0 where
  pub turns_are : turns ≡ notes_of r.world.turns
  pub history_is : history ≡ r.world.history
  pub ending_is : IsEnding ending r.ending

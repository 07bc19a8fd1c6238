-- The run of an image under a schedule, and what a record of it says. This project's own.
use Rattle.std.specs.Prelude.{◌≡◌, ◌≢◌, ℕ, suc, ◌-◌, List, [], ◌∷◌, map, take, length, filter_map, slice_index, Option, Some, None}
use Rattle.std.specs.List.{last_or, range_with_len}
use Rattle.il_model.specs.declared.program.Program.{Program}
use Rattle.mn_outside.specs.declared.machine.FaultCause.TheVariants.{Service}
use Rattle.mn_outside.specs.declared.machine.MachineFault.{MachineFault}
use Rattle.interaction.specs.declared.history.Event.{Event}
use Rattle.interaction.specs.Thread.{what_of}
use Rattle.interaction.specs.Run.{Machine, World, Outcome, Taken, run, claims_in}
use Rattle.interaction.specs.Run as running
use Rattle.rgctx_words.specs.Regions.{word_count}
use Rattle.rgctx_words.specs.declared.place.ContextPlace.{ContextPlace}
use Rattle.rgctx_words.specs.declared.place.ContextPlace.TheVariants as place
use Rattle.rgctx_words.specs.Places.{place_of, entry_of}
use Rattle.rgctx_fill.specs.Leaves.{opening}
use Rattle.rgctx_fill.specs.Fitting.{use_of}
use Rattle.rgctx_fill.specs.ThreadStates.{ImageData, ThreadData, Move, Goes, Reads, Loads, Claims, Asks, IsFull, Faults, IsOver}
use Rattle.rgctx_fill.specs.ThreadTurns.{want, next_move}
use Rattle.rv_machine.specs.Registers.{register_of}
use Rattle.schedules.specs.Ends.{ended_by}
use Rattle.schedules.specs.Numbers.{numbers}
use Rattle.store_object.specs.declared.ending.Chooser.{Chooser}
use Rattle.store_object.specs.declared.ending.Ending.{Ending}
use Rattle.store_object.specs.declared.ending.Ending.TheVariants as ends
use Rattle.store_object.specs.declared.request.Request.{Request}
use Rattle.store_object.specs.declared.reply.Reply.{Reply}
use Rattle.store_object.specs.declared.reply.Reply.TheVariants as says
use Rattle.store_object.specs.Replay.{store}
use Rattle.store_object.specs.Store.{Store}
use Rattle.thread_core.specs.declared.record.Turn.{Turn}
use Rattle.thread_core.specs.declared.record.FillNote.{FillNote}
use Rattle.thread_core.specs.Starts.{begin}

-- the words with which the run of a program begins
abbrev pub opening_words : Program → List ℕ
opening_words p = map (opening p) (range_with_len 0 word_count)

-- the store, the next turn of a thread of the image, and where its threads begin
abbrev pub machine_of : ImageData → Machine Request Reply ThreadData Store
machine_of im = record { object = store; want = want im; begin = begin im }

-- at most so many turns, one for each number of the chooser
abbrev pub image_run : ImageData → Chooser → ℕ → Outcome Request Reply ThreadData Store
image_run im chooser turns = run (machine_of im) (numbers chooser turns) (opening_words im.cat.program)

-- ---- how it ends

-- the fault of a request that names what the store does not have: that of its service, at the address of the ECALL
abbrev pub improper_fault : ThreadData → MachineFault
improper_fault s = record { pc = s.core.pc - 4; cause = Service (register_of s.core 17) }

-- the end of a run whose chosen thread, in this state, has no turn, where the node words that it reads are these
abbrev pub end_of_move : (ℕ → ℕ) → ThreadData → Move → Ending
end_of_move w s (Goes what t) = ends.Done
end_of_move w s (Reads i next) = end_of_move w s (next (w i))
end_of_move w s (Loads what i next) = ends.Done
end_of_move w s (Claims i put next) = ends.Done
end_of_move w s (Asks request next) = ends.Fault (improper_fault s)
end_of_move w s (IsFull region key) = ends.Full region key
end_of_move w s (Faults fault) = ends.Fault fault
end_of_move w s IsOver = ends.Done

abbrev pub ending_at : ImageData → World Request Reply ThreadData Store → running.Ending ThreadData → Ending
ending_at im x running.Done = ended_by (last_or None x.history)
ending_at im x running.TurnsUsed = ends.Turns
ending_at im x (running.StuckAt thread s) = end_of_move (slice_index x.words) s (next_move im s)
ending_at im x (running.FullAt thread s) = end_of_move (slice_index x.words) s (next_move im s)
ending_at im x (running.Idle thread) = ends.Done

-- how a reply ends the run that refuses a request of a thread in this state
abbrev pub refusal : ThreadData → Reply → Option Ending
refusal s (says.Object number) = None
refusal s (says.Kind number) = None
refusal s (says.Word word) = None
refusal s (says.Thread thread) = None
refusal s (says.Ended has_finished) = None
refusal s says.Unknown = None
refusal s says.Done = None
refusal s (says.Stopped why) = None
refusal s says.Halted = Some ends.Done
refusal s says.Improper = Some (ends.Fault (improper_fault s))

-- the end where so many turns are made, by those that live then
abbrev pub last_ending : List (Event Request Reply) → List ℕ → Ending
last_ending h [] = ended_by (last_or None h)
last_ending h (u ∷ us) = ends.Turns

-- the end where nobody lives, and none where a thread does
abbrev pub IsEndOf : List (Event Request Reply) → List ℕ → Option Ending → Type 0
IsEndOf h live None = live ≢ []
IsEndOf h live (Some e) = (live ≡ []) × (e ≡ ended_by (last_or None h))

-- ---- what a record says

-- the turns as they are noted
abbrev pub notes_of : List (Taken Request Reply) → List Turn
notes_of turns = map (λ t. record { thread = t.thread; what = what_of t.turn }) turns

-- of a claim that found 0 the entry that it filled, if the word is one of a row, by what the directory says of the row
abbrev pub fill_in : (ℕ → ℕ) → ℕ → ContextPlace → Option FillNote
fill_in w value (place.Node node) = None
fill_in w value (place.Directory row) = None
fill_in w value (place.Root node) = None
fill_in w value (place.Link row) = None
fill_in w value (place.Entry row slot) = Some (record { node = (use_of w row).node; entry = entry_of (use_of w row).depth slot; value = value })

-- the same of the claim of an index, once its word stands
abbrev pub note_at : List ℕ → ℕ → Option FillNote
note_at words i = fill_in (slice_index words) (slice_index words i) (place_of i)

-- the entries that were filled, in order
abbrev pub fills_of : (ℕ → ℕ) → List (Taken Request Reply) → List FillNote
fills_of w turns = filter_map (λ (c : ℕ × ℕ). fill_in w c.1 (place_of c.0)) (claims_in turns)

-- how many numbers were drawn: one for each turn, and one for a chosen thread that had no turn
abbrev pub draws_of : running.Ending ThreadData → ℕ → ℕ
draws_of running.Done n = n
draws_of running.TurnsUsed n = n
draws_of (running.StuckAt thread s) n = suc n
draws_of (running.FullAt thread s) n = suc n
draws_of (running.Idle thread) n = suc n

-- the record is this run's
pub record IsRun (im : ImageData) (drawn : List ℕ) (r : Outcome Request Reply ThreadData Store) (schedule : List ℕ) (turns : List Turn) (history : List (Event Request Reply)) (fills : List FillNote) (words : List ℕ) (ending : Ending) : Type 0 where
  pub schedule_is : schedule ≡ take (draws_of r.ending (length r.world.turns)) drawn
  pub turns_are : turns ≡ notes_of r.world.turns
  pub history_is : history ≡ r.world.history
  pub fills_are : fills ≡ fills_of (slice_index r.world.words) r.world.turns
  pub words_are : words ≡ r.world.words
  pub ending_is : ending ≡ ending_at im r.world r.ending

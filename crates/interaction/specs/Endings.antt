-- What each ending says of the last world of a run, and what an instance owes so that no chosen thread is idle. This project's own.
use Rattle.std.specs.Prelude.{◌≡◌, ◌≢◌, ◌⊎◌, ℕ, ◌<◌, List, [], length, true, false, Some, slice_index}
use Rattle.interaction.specs.declared.history.Event.{Event}
use Rattle.interaction.specs.Thread.{Want, Turn, Makes, request_of}
use Rattle.interaction.specs.Thread as thread
use Rattle.interaction.specs.Object.{Answers, Replays, replayed, is_active, live_threads}
use Rattle.interaction.specs.LooseRun.{IsStuck}
use Rattle.interaction.specs.Run.{Machine, World, Ending, Done, TurnsUsed, StuckAt, FullAt, Idle, state_of}

-- the next turn comes to a full region, where the nodes' words that it reads stand
abbrev pub IsFull : {R Y S : Type 0} → (ℕ → ℕ) → Want R Y S → Type 0
IsFull w thread.Full = Unit {0}
IsFull w (thread.Read i k) = (w i ≢ 0) × IsFull w (k (w i))
IsFull w (thread.Go a s) = ⊥
IsFull w (thread.Load a i k) = ⊥
IsFull w (thread.Claim i put k) = ⊥
IsFull w (thread.Ask r k) = ⊥
IsFull w thread.Fault = ⊥
IsFull w thread.Over = ⊥

-- the chosen thread lives, is in this state, and made no turn, though the schedule had a number left
pub record ChosenAt {R Y S X : Type 0} (m : Machine R Y S X) (limit : ℕ) (x : World R Y S X) (u : ℕ) (s : S) : Type 0 where
  pub early : length x.turns < limit
  pub lives : is_active m.object x.store u ≡ true
  pub state : state_of m x u ≡ Some s

-- How a run of at most so many turns has ended in this world: nobody lives; all turns are made and somebody lives; or
-- the chosen thread is stuck, or full. An idle thread is not among these.
abbrev pub EndsSo : {R Y S X : Type 0} → Machine R Y S X → ℕ → World R Y S X → Ending S → Type 0
EndsSo m limit x Done = live_threads m.object x.store ≡ []
EndsSo m limit x TurnsUsed = (length x.turns ≡ limit) × (live_threads m.object x.store ≢ [])
EndsSo m limit x (StuckAt u s) = ChosenAt m limit x u s × IsStuck m.object x.store (slice_index x.words) u (m.want s)
EndsSo m limit x (FullAt u s) = ChosenAt m limit x u s × IsFull (slice_index x.words) (m.want s)
EndsSo m limit x (Idle u) = ⊥

-- the next turn is not over, whatever words it reads
abbrev pub IsBusy : {R Y S : Type 0} → Want R Y S → Type 0
IsBusy thread.Over = ⊥
IsBusy (thread.Read i k) = (v : ℕ) → IsBusy (k v)
IsBusy (thread.Go a s) = Unit {0}
IsBusy (thread.Load a i k) = Unit {0}
IsBusy (thread.Claim i put k) = Unit {0}
IsBusy (thread.Ask r k) = Unit {0}
IsBusy thread.Full = Unit {0}
IsBusy thread.Fault = Unit {0}

-- Who is active is busy: an active thread has begun and is not answered as halted; a thread is busy where it begins and after
-- each turn, but where its request ends it; and who has ended is not active again.
pub record LiveLaws {R Y S X : Type 0} (m : Machine R Y S X) (Busy : S → Type 0) : Type 0 where
  pub wants : (s : S) → Busy s → IsBusy (m.want s)
  pub answered : (x : X) (u : ℕ) (r : R) → is_active m.object x u ≡ true → m.object.is_halted (m.object.reply x u r) ≡ false
  pub live_begun : (h : List (Event R Y)) (u : ℕ) → Replays m.object m.object.first h → is_active m.object (replayed m.object m.object.first h) u ≡ true → (s : S) × (m.begin h u ≡ Some s)
  pub begin_busy : (h : List (Event R Y)) (u : ℕ) (s : S) → m.begin h u ≡ Some s → Busy s
  pub quiet_busy : (w : ℕ → ℕ) (s t : S) (turn : Turn R Y) → Busy s → Makes w s (m.want s) turn t → request_of turn ≡ [] → Busy t
  pub asked_busy : (w : ℕ → ℕ) (s t : S) (x : X) (u : ℕ) (r : R) (y : Y) → Busy s → Makes w s (m.want s) (thread.Asked (record { request = r; reply = y })) t → Answers m.object x u r y → Busy t ⊎ (is_active m.object (m.object.after x u r) u ≡ false)
  pub ended_stays : (h : List (Event R Y)) (u t : ℕ) (r : R) (y : Y) (s : S) → Replays m.object m.object.first h → m.begin h u ≡ Some s → Answers m.object (replayed m.object m.object.first h) t r y → is_active m.object (replayed m.object m.object.first h) u ≡ false → is_active m.object (m.object.after (replayed m.object m.object.first h) t r) u ≡ false

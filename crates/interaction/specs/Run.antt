-- The run under a schedule: many threads take turns over one list of words and one object. This project's own.
use Rattle.std.specs.Prelude.{ℕ, ◌%◌, List, [], ◌∷◌, ◌++◌, Option, Some, None, length, slice_get, slice_index, slice_set, if◌then◌else◌, ◌==◌, nat_lt}
use Rattle.interaction.specs.declared.history.Event.{Event}
use Rattle.interaction.specs.declared.turn.What.TheVariants as noted
use Rattle.interaction.specs.Thread.{Want, Turn, Did, Loaded, Claimed, Asked}
use Rattle.interaction.specs.Thread as thread
use Rattle.interaction.specs.Object.{Sequential, live_threads}

-- What runs: the object, the next turn of a state, and where a history begins a thread.
pub record Machine (R Y S X : Type 0) : Type 0 where
  pub object : Sequential R Y X
  pub want : S → Want R Y S
  pub begin : List (Event R Y) → ℕ → Option S

-- a turn of the run, with the thread that took it
pub record Taken (R Y : Type 0) : Type 0 where
  pub thread : ℕ
  pub turn : Turn R Y

-- What has happened so far: where each thread that has moved has come, the words, the object's state, the history and
-- the turns, both oldest first.
pub record World (R Y S X : Type 0) : Type 0 where
  pub moved : ℕ → Option S
  pub words : List ℕ
  pub store : X
  pub history : List (Event R Y)
  pub turns : List (Taken R Y)

-- before the first turn: these words, and nothing else
abbrev pub opening : {R Y S X : Type 0} → Machine R Y S X → List ℕ → World R Y S X
opening m words = record { moved = λ u. None; words = words; store = m.object.first; history = []; turns = [] }

-- How a run ends: no thread lives; the schedule is used up, and a thread lives; the chosen thread in its state is
-- stuck, or full. `Idle` is a chosen thread that has not begun, is over, or is answered that the object has halted:
-- where the object knows who lives this does not come.
pub data Ending (S : Type 0) : Type 0 where
  Done : Ending S
  TurnsUsed : Ending S
  StuckAt : (thread : ℕ) → S → Ending S
  FullAt : (thread : ℕ) → S → Ending S
  Idle : (thread : ℕ) → Ending S

pub record Outcome (R Y S X : Type 0) : Type 0 where
  pub world : World R Y S X
  pub ending : Ending S

-- the one that the number chooses: the live threads counted from 0, at the number modulo their count
abbrev pub chosen : List ℕ → ℕ → Option ℕ
chosen [] k = None
chosen (t ∷ ts) k = slice_get (t ∷ ts) (k % length (t ∷ ts))

-- the first of two, if it is there
abbrev pub first_of : {A : Type 0} → Option A → Option A → Option A
first_of None o = o
first_of (Some s) o = Some s

-- a thread's state: where it has come, or where the history begins it
abbrev pub state_of : {R Y S X : Type 0} → Machine R Y S X → World R Y S X → ℕ → Option S
state_of m x u = first_of (x.moved u) (m.begin x.history u)

-- a state, or `d` where there is none
abbrev pub state_or : {S : Type 0} → S → Option S → S
state_or d None = d
state_or d (Some s) = s

-- where each thread stands; one that has not begun stands at `d`
abbrev pub ends_in : {R Y S X : Type 0} → Machine R Y S X → S → World R Y S X → ℕ → S
ends_in m d x u = state_or d (state_of m x u)

-- the same function, but at one number
abbrev pub with_value : {A : Type 0} → (ℕ → A) → ℕ → A → ℕ → A
with_value f u v j = if j == u then v else f j

-- thread u has come to `t` by this turn, over these words
abbrev pub moved_on : {R Y S X : Type 0} → World R Y S X → ℕ → S → Turn R Y → List ℕ → World R Y S X
moved_on x u t turn words = record {
  moved = with_value x.moved u (Some t);
  words = words;
  store = x.store;
  history = x.history;
  turns = x.turns ++ record { thread = u; turn = turn } ∷ [];
}

-- thread u has come to `t` by this request, which got this reply
abbrev pub spoken : {R Y S X : Type 0} → Machine R Y S X → World R Y S X → ℕ → S → R → Y → World R Y S X
spoken m x u t r y = record {
  moved = with_value x.moved u (Some t);
  words = x.words;
  store = m.object.after x.store u r;
  history = x.history ++ record { thread = u; request = r; reply = y } ∷ [];
  turns = x.turns ++ record { thread = u; turn = Asked (record { request = r; reply = y }) } ∷ [];
}

-- what a number of the schedule leads to: one turn more, or the end
pub data Step (R Y S X : Type 0) : Type 0 where
  Moves : World R Y S X → Step R Y S X
  Ends : Ending S → Step R Y S X

-- an improper request is no turn, and neither is one to an object that has halted
abbrev pub asked : {R Y S X : Type 0} → Machine R Y S X → World R Y S X → ℕ → S → R → (Y → S) → Y → Step R Y S X
asked m x u s r k y = if m.object.is_improper y then Ends (StuckAt u s) else if m.object.is_halted y then Ends (Idle u) else Moves (spoken m x u (k y) r y)

-- a claim finds what stands there, and puts its word where that is 0
abbrev pub claimed : {R Y S X : Type 0} → World R Y S X → ℕ → (i put : ℕ) → (ℕ → S) → ℕ → Step R Y S X
claimed x u i put k found = Moves (moved_on x u (k found) (Claimed i put found) (if found == 0 then slice_set x.words i put else x.words))

-- the turn of thread u in the state `s`, which wants this; a claim of a place outside the words, or of 0, is no turn
abbrev pub turned : {R Y S X : Type 0} → Machine R Y S X → World R Y S X → ℕ → S → Want R Y S → Step R Y S X
turned m x u s (thread.Go a t) = Moves (moved_on x u t (Did a) x.words)
turned m x u s (thread.Read i k) = if slice_index x.words i == 0 then Moves (moved_on x u s (Loaded (noted.Load i) i 0) x.words) else turned m x u s (k (slice_index x.words i))
turned m x u s (thread.Load a i k) = Moves (moved_on x u (k (slice_index x.words i)) (Loaded a i (slice_index x.words i)) x.words)
turned m x u s (thread.Claim i put k) = if nat_lt i (length x.words) then if put == 0 then Ends (StuckAt u s) else claimed x u i put k (slice_index x.words i) else Ends (StuckAt u s)
turned m x u s (thread.Ask r k) = asked m x u s r k (m.object.reply x.store u r)
turned m x u s thread.Full = Ends (FullAt u s)
turned m x u s thread.Fault = Ends (StuckAt u s)
turned m x u s thread.Over = Ends (Idle u)

-- the turn of a thread, if it has begun
abbrev pub thread_turn : {R Y S X : Type 0} → Machine R Y S X → World R Y S X → ℕ → Option S → Step R Y S X
thread_turn m x u None = Ends (Idle u)
thread_turn m x u (Some s) = turned m x u s (m.want s)

-- the turn of the chosen thread, if one lives
abbrev pub chosen_turn : {R Y S X : Type 0} → Machine R Y S X → World R Y S X → Option ℕ → Step R Y S X
chosen_turn m x None = Ends Done
chosen_turn m x (Some u) = thread_turn m x u (state_of m x u)

-- on from a step, or to the end
abbrev pub onward : {R Y S X : Type 0} → World R Y S X → Step R Y S X → (World R Y S X → Outcome R Y S X) → Outcome R Y S X
onward x (Moves y) go = go y
onward x (Ends e) go = record { world = x; ending = e }

-- how the end of the schedule ends a run
abbrev pub used_up : {S : Type 0} → List ℕ → Ending S
used_up [] = Done
used_up (t ∷ ts) = TurnsUsed

-- the run from this world on, one turn for each number of the schedule, until it ends
abbrev pub run_from : {R Y S X : Type 0} → Machine R Y S X → List ℕ → World R Y S X → Outcome R Y S X
run_from m [] x = record { world = x; ending = used_up (live_threads m.object x.store) }
run_from m (k ∷ ks) x = onward x (chosen_turn m x (chosen (live_threads m.object x.store) k)) (run_from m ks)

-- the whole run: the schedule, and the words at the beginning
abbrev pub run : {R Y S X : Type 0} → Machine R Y S X → List ℕ → List ℕ → Outcome R Y S X
run m schedule words = run_from m schedule (opening m words)

-- the turns of one thread
abbrev pub turns_of : {R Y : Type 0} → ℕ → List (Taken R Y) → List (Turn R Y)
turns_of u [] = []
turns_of u (t ∷ ts) = if t.thread == u then t.turn ∷ turns_of u ts else turns_of u ts

-- a place and the word that was put there
abbrev pub put_by : {R Y : Type 0} → Turn R Y → List (ℕ × ℕ)
put_by (Did a) = []
put_by (Loaded a i answer) = []
put_by (Claimed i put answer) = if answer == 0 then (i, put) ∷ [] else []
put_by (Asked e) = []

-- the claims that found 0, in order: each place with the word that was put there
abbrev pub claims_in : {R Y : Type 0} → List (Taken R Y) → List (ℕ × ℕ)
claims_in [] = []
claims_in (t ∷ ts) = put_by t.turn ++ claims_in ts

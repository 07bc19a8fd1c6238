-- What the code has of a run after so many turns, and how one turn more goes. This project's own.
use Rattle.std.specs.Prelude.{◌≡◌, ◌≢◌, ◌⊎◌, ℕ, ◌+◌, ◌≤◌, List, [], ◌∷◌, ◌++◌, length, take, drop, slice_get, slice_set, slice_index, Option, Some, None, true, false}
use Rattle.interaction.specs.declared.history.Event.{Event}
use Rattle.interaction.specs.declared.turn.What.{What}
use Rattle.interaction.specs.declared.turn.What.TheVariants as noted
use Rattle.interaction.specs.Endings.{EndsSo}
use Rattle.interaction.specs.Object.{Answers, is_active}
use Rattle.interaction.specs.Run.{World, run, run_from, state_of, claims_in}
use Rattle.interaction.specs.Run as running
use Rattle.rgctx_words.specs.Held.{AreFit}
use Rattle.rgctx_template.specs.Catalogue.{CatData}
use Rattle.rgctx_fill.specs.Fitting.{AreFitting}
use Rattle.rgctx_fill.specs.Moves.{span, IsMade, IsReplied}
use Rattle.rgctx_fill.specs.ThreadStates.{ImageData, ThreadData}
use Rattle.rgctx_fill.specs.ThreadTurns.{next_move}
use Rattle.rgctx_fill.specs.Turns.{FillData}
use Rattle.rgctx_fill.specs.declared.doing.Doing.TheVariants.{Fills}
use Rattle.rgctx_fill.specs.declared.thread.Want.{Want}
use Rattle.rt_service.specs.Notes.{IsUnderWay}
use Rattle.schedules.specs.Living.{HasStarted, change_of, finished_after, over_after}
use Rattle.store_object.specs.declared.ending.Ending.{Ending}
use Rattle.store_object.specs.declared.ending.Ending.TheVariants as ends
use Rattle.store_object.specs.declared.request.Request.{Request}
use Rattle.store_object.specs.declared.reply.Reply.{Reply}
use Rattle.store_object.specs.Replay.{store, replayed, is_halted, is_improper}
use Rattle.store_object.specs.Store.{Store}
use Rattle.thread_core.specs.declared.record.Turn.{Turn as TurnHere}
use Rattle.thread_core.specs.declared.progress.Progress.{Progress as ProgressHere}
use Rattle.thread_core.specs.Followed.{IsFollowed}
use Rattle.thread_core.specs.Going.{IsGoing, has_ended}
use Rattle.thread_core.specs.Listed.{Listed, IsListed, claims_of, unclaimed}
use Rattle.thread_core.specs.Runs.{opening_words, machine_of, improper_fault, ending_at, notes_of, draws_of}
use Rattle.thread_core.specs.Starts.{started_thread, starts}

-- ---- after so many turns

-- the words meet the rule
abbrev pub AreMet : CatData → List ℕ → Type 0
AreMet cat words = AreFit (λ ws. AreFitting cat (λ i. slice_index ws i)) words

-- each fill under way can make its next turn
abbrev pub AreFine : CatData → List ℕ → List ThreadData → Type 0
AreFine cat words threads = (u : ℕ) (s : ThreadData) → slice_get threads u ≡ Some s → (f : FillData) → s.doing ≡ Fills f → IsUnderWay cat (slice_index words) f

-- each thread that lives goes on
abbrev pub AreBusy : List (Event Request Reply) → List ThreadData → Type 0
AreBusy h threads = (u : ℕ) (s : ThreadData) → slice_get threads u ≡ Some s → is_active store (replayed h) u ≡ true → has_ended s.doing ≡ false

pub record IsReady (im : ImageData) (r : ProgressHere) : Type 0 where
  pub fine : AreFine im.cat r.words.words r.threads.items
  pub busy : AreBusy r.world.history r.threads.items
  pub met : AreMet im.cat r.words.words
  pub listed : IsListed r.words
  pub lives : HasStarted r.started (replayed r.world.history)
  pub threads : length r.threads.items ≡ length (replayed r.world.history).finished

module _ (im : ImageData) (ks : List ℕ) where
  -- After `made` turns of the run these threads stand where its threads do, with these words, this history and these notes.
  pub record Reached (made : ℕ) (threads : List ThreadData) (l : Listed) (h : List (Event Request Reply)) (turns : List TurnHere) : Type 0 where
    pub world : World Request Reply ThreadData Store
    pub same : run (machine_of im) ks (opening_words im.cat.program) ≡ run_from (machine_of im) (drop made ks) world
    pub history_is : world.history ≡ h
    pub store_is : world.store ≡ replayed h
    pub words_are : world.words ≡ l.words
    pub claims_are : claims_in world.turns ≡ claims_of l
    pub turns_are : notes_of world.turns ≡ turns
    pub count : length world.turns ≡ made
    pub each : (u : ℕ) → state_of (machine_of im) world u ≡ slice_get threads u
    pub within : made ≤ length ks
    pub followed : IsFollowed im world

  -- and so many numbers are noted
  pub record IsAt (made drawn : ℕ) (r : ProgressHere) : Type 0 where
    pub reached : Reached made r.threads.items r.words r.world.history r.turns.items
    pub ready : IsReady im r
    pub schedule : r.schedule.items ≡ take drawn ks

  -- the run ends here, so
  pub record HasEnded (made : ℕ) (r : ProgressHere) (e : Ending) : Type 0 where
    pub world : World Request Reply ThreadData Store
    pub ending : running.Ending ThreadData
    pub whole : run (machine_of im) ks (opening_words im.cat.program) ≡ record { world = world; ending = ending }
    pub named : e ≡ ending_at im world ending
    pub history_is : world.history ≡ r.world.history
    pub words_are : world.words ≡ r.words.words
    pub claims_are : claims_in world.turns ≡ claims_of r.words
    pub turns_are : notes_of world.turns ≡ r.turns.items
    pub count : length world.turns ≡ made
    pub met : AreMet im.cat r.words.words
    pub lives : HasStarted r.started (replayed r.world.history)
    pub schedule : r.schedule.items ≡ take (draws_of ending made) ks
    pub followed : IsFollowed im world
    pub so : EndsSo (machine_of im) (length ks) world ending

  -- one turn more, or the end; the number of the turn is noted
  abbrev pub GoesOnOrEnds : ℕ → ProgressHere → Option Ending → Type 0
  GoesOnOrEnds made r None = IsAt (made + 1) (made + 1) r
  GoesOnOrEnds made r (Some e) = HasEnded made r e

-- ---- one turn

-- thread u made its next turn, or there is none
pub record Turned (im : ImageData) (u : ℕ) (old new : List ThreadData) (before after : Listed) (said : Want) : Type 0 where
  pub was : ThreadData
  pub now : ThreadData
  pub there : slice_get old u ≡ Some was
  pub set : new ≡ slice_set old u now
  pub going : IsGoing im.cat (slice_index before.words) was.doing
  pub made : IsMade im.cat (span true (slice_index before.words) (slice_index after.words) (Some (claims_of before)) (Some (claims_of after))) was (next_move im was) said now
  pub place : unclaimed after ≡ unclaimed before
  pub grows : (j : ℕ) → slice_index before.words j ≢ 0 → slice_index after.words j ≡ slice_index before.words j
  pub met : AreMet im.cat after.words
  pub listed : IsListed after
  pub ready : (f : FillData) → now.doing ≡ Fills f → IsUnderWay im.cat (slice_index after.words) f

-- thread u took the reply
pub record Replied (im : ImageData) (u : ℕ) (old new : List ThreadData) (reply : Reply) : Type 0 where
  pub was : ThreadData
  pub now : ThreadData
  pub there : slice_get old u ≡ Some was
  pub set : new ≡ slice_set old u now
  pub replied : IsReplied (next_move im was) reply now
  pub fill : (f : FillData) → now.doing ≡ Fills f → was.doing ≡ Fills f

-- the threads that a start puts behind the others
abbrev pub begun_of : Option (ℕ × ThreadData) → List ThreadData
begun_of None = []
begun_of (Some b) = b.1 ∷ []

-- the thread with an object
abbrev pub begun_with : ImageData → Option ℕ → List ThreadData
begun_with im None = []
begun_with im (Some object) = started_thread im object ∷ []

-- the request of thread u was answered, and all is noted
pub record Spoke (im : ImageData) (u : ℕ) (request : Request) (old new : ProgressHere) : Type 0 where
  pub reply : Reply
  pub answers : Answers store (replayed old.world.history) u request reply
  pub threads : List ThreadData
  pub replied : Replied im u old.threads.items threads reply
  pub more : new.threads.items ≡ threads ++ begun_of (starts im request reply)
  pub history : new.world.history ≡ old.world.history ++ record { thread = u; request = request; reply = reply } ∷ []
  pub finished : new.started.finished.items ≡ finished_after (change_of request reply) u old.started.finished.items
  pub over : new.started.is_over ≡ over_after (change_of request reply) old.started.is_over
  pub words : new.words ≡ old.words
  pub turns : new.turns.items ≡ old.turns.items ++ record { thread = u; what = noted.Action } ∷ []
  pub schedule : new.schedule.items ≡ old.schedule.items

-- the reply refuses, so there is no turn
pub record Refused (u : ℕ) (request : Request) (old new : ProgressHere) (e : Ending) : Type 0 where
  pub was : ThreadData
  pub there : slice_get old.threads.items u ≡ Some was
  pub so : ((is_improper (store.reply (replayed old.world.history) u request) ≡ true) × (e ≡ ends.Fault (improper_fault was)))
      ⊎ ((is_improper (store.reply (replayed old.world.history) u request) ≡ false) × (is_halted (store.reply (replayed old.world.history) u request) ≡ true) × (e ≡ ends.Done))
  pub history : new.world.history ≡ old.world.history
  pub words : new.words ≡ old.words
  pub started : new.started ≡ old.started
  pub turns : new.turns.items ≡ old.turns.items
  pub schedule : new.schedule.items ≡ old.schedule.items

abbrev pub SpokeOrRefused : ImageData → ℕ → Request → ProgressHere → ProgressHere → Option Ending → Type 0
SpokeOrRefused im u request old new None = Spoke im u request old new
SpokeOrRefused im u request old new (Some e) = Refused u request old new e

-- the turn is noted, and nothing else
pub record IsNoted (thread : ℕ) (what : What) (old new : ProgressHere) : Type 0 where
  pub turns : new.turns.items ≡ old.turns.items ++ record { thread = thread; what = what } ∷ []
  pub words : new.words ≡ old.words
  pub world : new.world ≡ old.world
  pub started : new.started ≡ old.started
  pub threads : new.threads.items ≡ old.threads.items
  pub schedule : new.schedule.items ≡ old.schedule.items

-- a number is noted, and nothing else
pub record IsDrawn (number : ℕ) (old new : ProgressHere) : Type 0 where
  pub schedule : new.schedule.items ≡ old.schedule.items ++ number ∷ []
  pub words : new.words ≡ old.words
  pub world : new.world ≡ old.world
  pub started : new.started ≡ old.started
  pub threads : new.threads.items ≡ old.threads.items
  pub turns : new.turns.items ≡ old.turns.items

-- What a run has whose threads take turns as its caller chooses. This project's own.
use Rattle.std.specs.Prelude.{◌≡◌, ◌≢◌, ◌⊎◌, ℕ, ◌++◌, ◌∷◌, [], List, length, Option, Some, None, true, false}
use Rattle.interaction.specs.Object.{is_active, live_threads}
use Rattle.interaction.specs.Run.{chosen}
use Rattle.rgctx_fill.specs.ThreadStates.{ImageData}
use Rattle.store_object.specs.declared.ending.Ending.{Ending}
use Rattle.store_object.specs.Replay.{store, replayed}
use Rattle.store_object.specs.Store.{Store}
use Rattle.thread_core.specs.declared.progress.Progress.{Progress as ProgressHere}
use Rattle.thread_core.specs.declared.stepping.RunSoFar.{RunSoFar as RunHere}
use Rattle.thread_core.specs.declared.stepping.TurnEnd.{TurnEnd}
use Rattle.thread_core.specs.declared.stepping.TurnEnd.TheVariants as end
use Rattle.thread_core.specs.Reached.{IsAt, HasEnded}

-- the number chooses the thread among those that live; there is none where it does not live
abbrev pub IsPlaceOf : Store → ℕ → Option ℕ → Type 0
IsPlaceOf s thread None = is_active store s thread ≡ false
IsPlaceOf s thread (Some place) = chosen (live_threads store s) place ≡ Some thread

-- The run under every schedule that begins with the noted numbers comes here after as many turns.
abbrev pub IsSoFar : ImageData → ProgressHere → Type 0
IsSoFar im r = (rest : List ℕ) → IsAt im (r.schedule.items ++ rest) (length r.schedule.items) (length r.schedule.items) r

-- The run under every schedule that begins with the noted numbers ends here, so.
abbrev pub IsOver : ImageData → ProgressHere → Ending → Type 0
IsOver im r e = (rest : List ℕ) → (made : ℕ) × HasEnded im (r.schedule.items ++ rest) made r e

abbrev pub StandsBy : ImageData → ProgressHere → Option Ending → Type 0
StandsBy im r None = IsSoFar im r
StandsBy im r (Some e) = IsOver im r e

abbrev pub StandsSo : ImageData → RunHere → Type 0
StandsSo im run = StandsBy im run.progress run.ended

-- the thread lives, and the number that chooses it is noted
pub record IsChosen (thread : ℕ) (old new : RunHere) : Type 0 where
  pub going : old.ended ≡ None
  pub place : ℕ
  pub chooses : chosen (live_threads store (replayed old.progress.world.history)) place ≡ Some thread
  pub schedule : new.progress.schedule.items ≡ old.progress.schedule.items ++ place ∷ []

-- a turn more, behind which a thread lives
pub record HasGone (im : ImageData) (thread : ℕ) (old new : RunHere) : Type 0 where
  pub chosen : IsChosen thread old new
  pub goes : new.ended ≡ None
  pub so_far : IsSoFar im new.progress
  pub lives : live_threads store (replayed new.progress.world.history) ≢ []

-- the run is over now
pub record HasCome (im : ImageData) (thread : ℕ) (old new : RunHere) (e : Ending) : Type 0 where
  pub chosen : IsChosen thread old new
  pub ends : new.ended ≡ Some e
  pub over : IsOver im new.progress e

-- it was over before
pub record WasOver (thread : ℕ) (old new : RunHere) (e : Ending) : Type 0 where
  pub lives : is_active store (replayed old.progress.world.history) thread ≡ true
  pub ended : old.ended ≡ Some e
  pub same : new ≡ old

-- How a turn of the thread went.
abbrev pub HasTaken : ImageData → ℕ → RunHere → RunHere → TurnEnd → Type 0
HasTaken im thread old new end.Went = HasGone im thread old new
HasTaken im thread old new (end.Over e) = HasCome im thread old new e ⊎ WasOver thread old new e
HasTaken im thread old new end.NotLive = (is_active store (replayed old.progress.world.history) thread ≡ false) × (new ≡ old)

-- What is kept of a run's threads as they take turns, so that the run is a loose one at its end. This project's own.
use Rattle.std.specs.Prelude.{◌≡◌, ◌⊎◌, ℕ, false, List, slice_index, Some}
use Rattle.interaction.specs.Object.{is_active}
use Rattle.interaction.specs.LooseRun.{Remembers}
use Rattle.interaction.specs.Run.{World, state_of, turns_of}
use Rattle.interaction.specs.RunLaws.{Grows}
use Rattle.interaction.proofs.RunLoose.{Runs}
use Rattle.rgctx_fill.specs.ThreadStates.{ImageData, ThreadData}
use Rattle.store_object.specs.declared.request.Request.{Request}
use Rattle.store_object.specs.declared.reply.Reply.{Reply}
use Rattle.store_object.specs.Replay.{store}
use Rattle.store_object.specs.Store.{Store}
use Rattle.thread_core.specs.Going.{has_ended}
use Rattle.thread_core.specs.Known.{IsKnown}
use Rattle.thread_core.specs.Runs.{machine_of}

-- Each thread has made its part of the history by its turns, was answered with nothing nowhere that its turns before made known,
-- and goes on while it lives.
pub record IsFollowed (im : ImageData) (x : World Request Reply ThreadData Store) : Type 0 where
  pub runs : Runs (machine_of im) x
  pub remembers : (u : ℕ) (v : List ℕ) → Grows (slice_index x.words) (slice_index v) → Remembers (IsKnown im.cat (slice_index v)) (turns_of u x.turns)
  pub busy : (u : ℕ) (s : ThreadData) → state_of (machine_of im) x u ≡ Some s → (has_ended s.doing ≡ false) ⊎ (is_active store x.store u ≡ false)

-- What contracts see of a world. This project's own.
use Rattle.std.specs.Prelude.{◌≡◌, ℕ, ◌≤◌, List}
use Rattle.interaction.specs.declared.history.Event.{Event}
use Rattle.store_object.specs.declared.request.Request.{Request}
use Rattle.store_object.specs.declared.request.Request.TheVariants as ask
use Rattle.store_object.specs.declared.reply.Reply.{Reply}

-- the history that is kept, and for how many events besides there is room
pub record Kept : Type 0 where
  pub history : List (Event Request Reply)
  pub room : ℕ

-- the history stays, and no room is lost
pub record KeepsAll (old new : Kept) : Type 0 where
  pub history : new.history ≡ old.history
  pub room : old.room ≤ new.room

abbrev pub IsAlloc : Request → Type 0
IsAlloc (ask.Alloc kind count words) = Unit {0}
IsAlloc (ask.TypeOf object) = ⊥
IsAlloc (ask.Length object) = ⊥
IsAlloc (ask.Load place) = ⊥
IsAlloc (ask.Save place word) = ⊥
IsAlloc (ask.Exchange place word) = ⊥
IsAlloc (ask.CompareExchange place word comparand) = ⊥
IsAlloc (ask.Add place word narrow) = ⊥
IsAlloc (ask.Print form word) = ⊥
IsAlloc (ask.Start object) = ⊥
IsAlloc (ask.Ended thread) = ⊥
IsAlloc ask.Finish = ⊥
IsAlloc (ask.Fall kind) = ⊥
IsAlloc (ask.Stop why) = ⊥

-- How the whole state holds the store. This project's own.
use Rattle.std.specs.Prelude.{◌≡◌, ℕ, ◌-◌, ◌≤◌, min, List, length, vec_capacity, vec_len}
use Rattle.store_object.specs.declared.limits.TheConstants.{THREAD_LIMIT}
use Rattle.store_object.specs.declared.state.State.{State}
use Rattle.store_object.specs.Store.{Store}
use Rattle.store_object.specs.Held.{HoldsObjects, HoldsStatics}
use Rattle.std.specs.HashMap.{spare}
use Rattle.std.specs.Global.{Vec}
use Rattle.interaction.specs.declared.history.Event.{Event}
use Rattle.store_object.specs.declared.request.Request.{Request}
use Rattle.store_object.specs.declared.reply.Reply.{Reply}
use Rattle.store_object.specs.Replay.{replayed, Replays}

-- the state is that of the store; there is room for all threads that may start
pub record Holds (state : State) (s : Store) : Type 0 where
  pub objects : HoldsObjects state.objects s
  pub statics : HoldsStatics state.statics s
  pub finished : state.finished.items ≡ s.finished
  pub over : state.is_over ≡ s.is_over
  pub few : length s.finished ≤ THREAD_LIMIT
  pub room : THREAD_LIMIT ≤ vec_capacity state.finished

-- the reply is the one of the answer, and the state after it that of the store after it
pub record Gives (state : State) (said : Reply) (answer : Reply × Store) : Type 0 where
  pub reply : said ≡ answer.0
  pub after : Holds state answer.1

-- the fields of a world: its state is that of its history, and the history replays
pub record IsKept (state : State) (events : List (Event Request Reply)) : Type 0 where
  pub holds : Holds state (replayed events)
  pub replays : Replays events

-- for how many events besides there is room, and as many static words
abbrev pub room_of : State → Vec (Event Request Reply) → ℕ
room_of state history = min (vec_capacity history - vec_len history) (spare state.statics.words)

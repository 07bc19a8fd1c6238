-- The store as a sequential object, and the store after a history. This project's own.
use Rattle.std.specs.Prelude.{ℕ, List, [], ◌∷◌, ◌++◌, length, Bool, true, false, if◌then◌else◌, ◌||◌}
use Rattle.interaction.specs.declared.history.Event.{Event}
use Rattle.interaction.specs.Object as object
use Rattle.store_object.specs.declared.request.Request.{Request}
use Rattle.store_object.specs.declared.reply.Reply.{Reply}
use Rattle.store_object.specs.declared.reply.Reply.TheVariants as says
use Rattle.store_object.specs.Store.{Store, opening, is_live}
use Rattle.store_object.specs.Answer.{answer}

abbrev pub is_halted : Reply → Bool
is_halted (says.Object number) = false
is_halted (says.Kind number) = false
is_halted (says.Word word) = false
is_halted (says.Thread number) = false
is_halted (says.Ended has_finished) = false
is_halted says.Unknown = false
is_halted says.Done = false
is_halted (says.Stopped why) = false
is_halted says.Halted = true
is_halted says.Improper = false

abbrev pub is_improper : Reply → Bool
is_improper (says.Object number) = false
is_improper (says.Kind number) = false
is_improper (says.Word word) = false
is_improper (says.Thread number) = false
is_improper (says.Ended has_finished) = false
is_improper says.Unknown = false
is_improper says.Done = false
is_improper (says.Stopped why) = false
is_improper says.Halted = false
is_improper says.Improper = true

-- the store, which refuses by Halted and Improper; its threads are numbered in the order of their starts
abbrev pub store : object.Sequential Request Reply Store
store = record {
  first = opening;
  reply = λ s thread request. (answer s thread request).0;
  after = λ s thread request. (answer s thread request).1;
  is_halted = is_halted;
  is_improper = is_improper;
  threads = λ s. length s.finished;
  is_live = is_live;
  has_ended = λ s. s.is_over;
}

-- the store after the events, from the opening one
unfoldable pub replayed : List (Event Request Reply) → Store
replayed events = object.replayed store opening events

-- each reply is the one that `answer` gives at that place, and none is Halted or Improper
unfoldable pub Replays : List (Event Request Reply) → Type 0
Replays events = object.Replays store opening events

-- the history after a reply: what is refused isn't kept
abbrev pub noted : List (Event Request Reply) → ℕ → Request → Reply → List (Event Request Reply)
noted events thread request reply =
    if is_halted reply || is_improper reply then events
    else events ++ record { thread = thread; request = request; reply = reply } ∷ []

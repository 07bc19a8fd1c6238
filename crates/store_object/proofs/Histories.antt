-- A history with one more event.
use Rattle.std.proofs.Common.{◌≡◌, ℕ, List, [], ◌∷◌, ◌++◌, Bool, true, false, ◌||◌, if◌then◌else◌, Result, Ok, Err, IfOk, OnErr, refl, sym, ap, ◌∙◌, subst}
use Rattle.std.specs.declared.alloc.AllocError.{AllocError}
use Rattle.interaction.specs.declared.history.Event.{Event}
use Rattle.interaction.specs.Object as object
use Rattle.interaction.proofs.Histories.{replayed-append, replays_more}
use Rattle.store_object.specs.declared.request.Request.{Request}
use Rattle.store_object.specs.declared.reply.Reply.{Reply}
use Rattle.store_object.specs.declared.state.State.{State}
use Rattle.store_object.specs.Store.{opening}
use Rattle.store_object.specs.Answer.{answer}
use Rattle.store_object.specs.Replay.{is_halted, is_improper, store, replayed, Replays, noted}
use Rattle.store_object.specs.State.{Holds, Gives, IsKept}
use Rattle.store_object.proofs.StoreLaws.{refuses, refused_same}

abbrev event : ℕ → Request → Reply → Event Request Reply
event thread request reply = record { thread = thread; request = request; reply = reply }

-- the two words of contracts are those of a sequential object
pub replayed_is : (events : List (Event Request Reply)) → replayed events ≡ object.replayed store opening events
unfolding replayed
replayed_is events = refl

pub object_replays : (events : List (Event Request Reply)) → Replays events → object.Replays store opening events
unfolding Replays
object_replays events h = h

pub replays_object : (events : List (Event Request Reply)) → object.Replays store opening events → Replays events
unfolding Replays
replays_object events h = h

-- the store after one more event
pub replayed-push : (events : List (Event Request Reply)) (thread : ℕ) (request : Request) (reply : Reply) → replayed (events ++ event thread request reply ∷ []) ≡ (answer (replayed events) thread request).1
unfolding replayed
replayed-push events thread request reply = replayed-append store opening events (event thread request reply ∷ [])

pub replays_nothing : Replays []
unfolding Replays
replays_nothing = tt

pub replayed_nothing : replayed [] ≡ opening
unfolding replayed
replayed_nothing = refl

pub replays_push : (events : List (Event Request Reply)) (thread : ℕ) (request : Request) (reply : Reply) → Replays events → reply ≡ (answer (replayed events) thread request).0 → is_halted reply ≡ false → is_improper reply ≡ false → Replays (events ++ event thread request reply ∷ [])
unfolding replayed Replays
replays_push events thread request reply before given goes_on proper = replays_more store opening events (event thread request reply) before (record { given = sym given; goes_on = goes_on; proper = proper })

or_left : (a b : Bool) → (a || b) ≡ false → a ≡ false
or_left true b e = e
or_left false b e = refl

or_right : (a b : Bool) → (a || b) ≡ false → b ≡ false
or_right true b e = absurd (cc e)
or_right false b e = e

-- the reply's history, by whether it refuses
pub kept_by : (state : State) (events : List (Event Request Reply)) (thread : ℕ) (request : Request) (reply : Reply) (refused : Bool) → refuses reply ≡ refused → Replays events → Gives state reply (answer (replayed events) thread request) → IsKept state (if refused then events else events ++ event thread request reply ∷ [])
kept_by state events thread request reply true e before gives = record {
  holds = subst (Holds state) (refused_same (replayed events) thread request (ap refuses (sym gives.reply) ∙ e)) gives.after;
  replays = before;
}
kept_by state events thread request reply false e before gives = record {
  holds = subst (Holds state) (sym (replayed-push events thread request reply)) gives.after;
  replays = replays_push events thread request reply before gives.reply (or_left (is_halted reply) (is_improper reply) e) (or_right (is_halted reply) (is_improper reply) e);
}

-- the fields of a world after an answer
pub kept_after : (state : State) (events events' : List (Event Request Reply)) (thread : ℕ) (request : Request) (r : Result Reply AllocError) → Replays events → IfOk r (λ reply. Gives state reply (answer (replayed events) thread request)) → IfOk r (λ reply. events' ≡ noted events thread request reply) → OnErr r (Holds state (replayed events)) → OnErr r (events' ≡ events) → IsKept state events'
kept_after state events events' thread request (Ok reply) before gives is holds same = subst (IsKept state) (sym is) (kept_by state events thread request reply (refuses reply) refl before gives)
kept_after state events events' thread request (Err e) before gives is holds same = subst (IsKept state) (sym same) (record { holds = holds; replays = before })

-- ..and at the beginning
pub kept_nothing : (state : State) (events : List (Event Request Reply)) → events ≡ [] → Holds state opening → IsKept state events
unfolding replayed Replays
kept_nothing state events none holds = subst (IsKept state) (sym none) (record { holds = holds; replays = tt })

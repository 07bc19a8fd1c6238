-- A sequential object: one state that answers the threads' requests one after another. This project's own, after linearizable objects.
use Rattle.std.specs.Prelude.{◌≡◌, ℕ, zero, suc, List, [], ◌∷◌, ◌++◌, Bool, false, not, ◌&&◌, if◌then◌else◌}
use Rattle.interaction.specs.declared.history.Event.{Event}

-- The object: its first state, its reply to a request of a thread, and its state after that; the replies by which it
-- refuses, as it has halted or as the request is improper; how many threads have started, whose numbers lie below
-- that count, and which of them live, as they have not finished; and whether the object has ended, for all of them.
pub record Sequential (R Y X : Type 0) : Type 0 where
  pub first : X
  pub reply : X → ℕ → R → Y
  pub after : X → ℕ → R → X
  pub is_halted : Y → Bool
  pub is_improper : Y → Bool
  pub threads : X → ℕ
  pub is_live : X → ℕ → Bool
  pub has_ended : X → Bool

-- the object's state after the events
abbrev pub replayed : {R Y X : Type 0} → Sequential R Y X → X → List (Event R Y) → X
replayed o x [] = x
replayed o x (e ∷ es) = replayed o (o.after x e.thread e.request) es

-- the object gives this reply to the request, and refuses nothing by it
pub record Answers {R Y X : Type 0} (o : Sequential R Y X) (x : X) (thread : ℕ) (request : R) (reply : Y) : Type 0 where
  pub given : o.reply x thread request ≡ reply
  pub goes_on : o.is_halted reply ≡ false
  pub proper : o.is_improper reply ≡ false

-- each reply is the one that the object gives at that place, and none refuses
abbrev pub Replays : {R Y X : Type 0} → Sequential R Y X → X → List (Event R Y) → Type 0
Replays o x [] = Unit {0}
Replays o x (e ∷ es) = Answers o x e.thread e.request e.reply × Replays o (o.after x e.thread e.request) es

-- the numbers below the count that pass the test, in rising order
abbrev pub chosen_below : (ℕ → Bool) → ℕ → List ℕ
chosen_below test zero = []
chosen_below test (suc n) = chosen_below test n ++ (if test n then n ∷ [] else [])

-- a thread that lives while the object has not ended
abbrev pub is_active : {R Y X : Type 0} → Sequential R Y X → X → ℕ → Bool
is_active o x u = not (o.has_ended x) && o.is_live x u

-- the threads that may be chosen, in rising order
abbrev pub live_threads : {R Y X : Type 0} → Sequential R Y X → X → List ℕ
live_threads o x = chosen_below (is_active o x) (o.threads x)

-- Legal histories: the object gave the replies, and each thread's part is a talk of its process. This project's own.
use Rattle.std.specs.Prelude.{◌≡◌, ℕ, List, [], ◌∷◌, ◌++◌, false, Option, Some, None, if◌then◌else◌, ◌==◌}
use Rattle.interaction.specs.declared.history.Event.{Event}
use Rattle.interaction.specs.Process.{Act, Ask, Exchange, Naming, Halts, Talk}
use Rattle.interaction.specs.Object.{Sequential, Answers, Replays, replayed}

-- an event without its thread
abbrev pub exchange_of : {R Y : Type 0} → Event R Y → Exchange R Y
exchange_of e = record { request = e.request; reply = e.reply }

-- the part of one thread in the history
abbrev pub part : {R Y : Type 0} → ℕ → List (Event R Y) → List (Exchange R Y)
part u [] = []
part u (e ∷ es) = if e.thread == u then exchange_of e ∷ part u es else part u es

-- a thread's part is a talk of its process, and who has not begun has none
abbrev pub Talks : {M T R Y F : Type 0} → Naming M T → (F → Act M T R Y F) → Option (Act M T R Y F) → List (Exchange R Y) → Type 0
Talks n meaning None es = es ≡ []
Talks n meaning (Some p) es = (q : Act _ _ _ _ _) × Talk n meaning p es q

-- The history is one that the processes make over the object. `begin h u` is where thread u begins, if `h` has started it.
pub record Legal {M T R Y F X : Type 0} (o : Sequential R Y X) (n : Naming M T) (meaning : F → Act M T R Y F) (begin : List (Event R Y) → ℕ → Option (Act M T R Y F)) (h : List (Event R Y)) : Type 0 where
  pub replays : Replays o o.first h
  pub talks : (u : ℕ) → Talks n meaning (begin h u) (part u h)

-- Threads begin as the history starts them: who has begun has begun for good, and only such a thread makes a request.
pub record Begins {M T R Y F X : Type 0} (o : Sequential R Y X) (begin : List (Event R Y) → ℕ → Option (Act M T R Y F)) : Type 0 where
  pub grows : (d r : List (Event R Y)) (u : ℕ) (p : Act M T R Y F) → begin d u ≡ Some p → begin (d ++ r) u ≡ Some p
  pub known : (d : List (Event R Y)) (u : ℕ) (r : R) (y : Y) → Replays o o.first d → Answers o (replayed o o.first d) u r y → (p : Act M T R Y F) × (begin d u ≡ Some p)

-- After a legal history no process of a begun thread halts, and its next request is not improper.
pub record NeverStuck {M T R Y F X : Type 0} (o : Sequential R Y X) (n : Naming M T) (meaning : F → Act M T R Y F) (begin : List (Event R Y) → ℕ → Option (Act M T R Y F)) : Type 0 where
  pub goes_on : (h : List (Event R Y)) → Legal o n meaning begin h → (u : ℕ) (p : Act M T R Y F) → begin h u ≡ Some p → (q : Act M T R Y F) → Talk n meaning p (part u h) q → Halts n q → ⊥
  pub taken : (h : List (Event R Y)) → Legal o n meaning begin h → (u : ℕ) (p : Act M T R Y F) → begin h u ≡ Some p → (r : R) (k : Y → Act M T R Y F) → Talk n meaning p (part u h) (Ask r k) → o.is_improper (o.reply (replayed o o.first h) u r) ≡ false

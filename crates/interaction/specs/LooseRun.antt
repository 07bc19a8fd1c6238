-- Loose runs: a history and the threads' turns, with no order between words and requests; and what makes them sound. This project's own.
use Rattle.std.specs.Prelude.{◌≡◌, ◌≢◌, ◌⊎◌, ℕ, List, [], ◌∷◌, ◌++◌, Option, Some, None, true}
use Rattle.interaction.specs.declared.history.Event.{Event}
use Rattle.interaction.specs.Process.{Act, Exchange, Naming}
use Rattle.interaction.specs.Thread.{Want, Turn, Turns, Did, Loaded, Claimed, Asked, requests_in}
use Rattle.interaction.specs.Thread as thread
use Rattle.interaction.specs.Object.{Sequential, Replays, replayed}
use Rattle.interaction.specs.History.{Legal, part}

-- the turns of a thread that begins in this state, which make just its requests; who has not begun makes none
abbrev pub Leaves : {R Y S : Type 0} → (S → Want R Y S) → (ℕ → ℕ) → Option S → List (Turn R Y) → S → List (Exchange R Y) → Type 0
Leaves want w None turns end es = es ≡ []
Leaves want w (Some s) turns end es = Turns want w s turns end × (requests_in turns ≡ es)

-- the turn was answered that nothing stands there yet
abbrev pub AnswersNothing : {R Y : Type 0} → Turn R Y → ℕ → Type 0
AnswersNothing (Did a) i = ⊥
AnswersNothing (Loaded a j answer) i = (j ≡ i) × (answer ≡ 0)
AnswersNothing (Claimed j put answer) i = (j ≡ i) × (answer ≡ 0)
AnswersNothing (Asked e) i = ⊥

-- a word that the turns before make known is not answered as nothing
abbrev pub Remembers : {R Y : Type 0} → (List (Turn R Y) → ℕ → Type 0) → List (Turn R Y) → Type 0
Remembers Known turns = (before later : List (Turn _ _)) (t : Turn _ _) (i : ℕ) → turns ≡ before ++ t ∷ later → Known before i → AnswersNothing t i → ⊥

-- a word that the turns put, or were answered as other than nothing
abbrev pub Told : {R Y : Type 0} → List (Turn R Y) → ℕ → Type 0
Told [] i = ⊥
Told (Did a ∷ ts) i = Told ts i
Told (Loaded a j answer ∷ ts) i = ((j ≡ i) × (answer ≢ 0)) ⊎ Told ts i
Told (Claimed j put answer ∷ ts) i = (j ≡ i) ⊎ Told ts i
Told (Asked e ∷ ts) i = Told ts i

-- A loose run under the last words `w`: a history that replays, and for each thread its turns, which lead from its
-- beginning to its end and make its part of the history. `Known` says which words a thread's turns make known.
pub record LooseRun {R Y S X : Type 0} (o : Sequential R Y X) (want : S → Want R Y S) (begin : List (Event R Y) → ℕ → Option S) (w : ℕ → ℕ) (Known : List (Turn R Y) → ℕ → Type 0) (h : List (Event R Y)) (trail : ℕ → List (Turn R Y)) (end : ℕ → S) : Type 0 where
  pub replays : Replays o o.first h
  pub leaves : (u : ℕ) → Leaves want w (begin h u) (trail u) (end u) (part u h)
  pub remembers : (u : ℕ) → Remembers Known (trail u)

-- no rule for a next turn, or a request that the object finds improper; a node's word that is read is the last one
abbrev pub IsStuck : {R Y S X : Type 0} → Sequential R Y X → X → (ℕ → ℕ) → ℕ → Want R Y S → Type 0
IsStuck o x w u thread.Fault = Unit {0}
IsStuck o x w u (thread.Ask r k) = o.is_improper (o.reply x u r) ≡ true
IsStuck o x w u (thread.Read i k) = (w i ≢ 0) × IsStuck o x w u (k (w i))
IsStuck o x w u (thread.Go a s) = ⊥
IsStuck o x w u (thread.Load a i k) = ⊥
IsStuck o x w u (thread.Claim i put k) = ⊥
IsStuck o x w u thread.Full = ⊥
IsStuck o x w u thread.Over = ⊥

-- the history is legal, and after it no begun thread is stuck
pub record IsSound {M T R Y F S X : Type 0} (o : Sequential R Y X) (n : Naming M T) (meaning : F → Act M T R Y F) (want : S → Want R Y S) (begin_p : List (Event R Y) → ℕ → Option (Act M T R Y F)) (begin_s : List (Event R Y) → ℕ → Option S) (w : ℕ → ℕ) (h : List (Event R Y)) (end : ℕ → S) : Type 0 where
  pub legal : Legal o n meaning begin_p h
  pub goes_on : (u : ℕ) (s : S) → begin_s h u ≡ Some s → IsStuck o (replayed o o.first h) w u (want (end u)) → ⊥

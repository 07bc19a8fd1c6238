-- What is promised of every loose run under words that fit: a legal history, no thread stuck, and turns that are paid for. This project's own.
use Rattle.std.specs.Prelude.{◌≡◌, ℕ, List, Option, Some, slice_index}
use Rattle.interaction.specs.declared.history.Event.{Event}
use Rattle.interaction.specs.Process.{Act, Naming}
use Rattle.interaction.specs.Thread.{Turn}
use Rattle.interaction.specs.History.{Legal, part}
use Rattle.interaction.specs.Progress.{Advances}
use Rattle.interaction.specs.LooseRun.{LooseRun, IsSound}
use Rattle.interaction.specs.Run.{Machine, Outcome, StuckAt}

-- `naming_of` says what the words name, `Known` which words the turns of a thread make known, and `begin` where the
-- process of a thread begins.
pub record Sound {M T R Y F S X : Type 0} (m : Machine R Y S X) (Fits : List ℕ → Type 0) (Known : List ℕ → List (Turn R Y) → ℕ → Type 0) (naming_of : List ℕ → Naming M T) (meaning : F → Act M T R Y F) (begin : List (Event R Y) → ℕ → Option (Act M T R Y F)) : Type 0 where
  pub each : (w : List ℕ) (h : List (Event R Y)) (trail : ℕ → List (Turn R Y)) (end : ℕ → S) → Fits w → LooseRun m.object m.want m.begin (slice_index w) (Known w) h trail end → IsSound m.object (naming_of w) meaning m.want begin m.begin (slice_index w) h end

-- In every loose run under words that fit, each begun thread has made its part of the history, and its process's steps
-- and what it gained have paid for its turns.
pub record Progresses {M T R Y F S X : Type 0} (m : Machine R Y S X) (Fits : List ℕ → Type 0) (Known : List ℕ → List (Turn R Y) → ℕ → Type 0) (naming_of : List ℕ → Naming M T) (meaning : F → Act M T R Y F) (gain : S → ℕ) (begin : List (Event R Y) → ℕ → Option (Act M T R Y F)) : Type 0 where
  pub each : (w : List ℕ) (h : List (Event R Y)) (trail : ℕ → List (Turn R Y)) (end : ℕ → S) → Fits w → LooseRun m.object m.want m.begin (slice_index w) (Known w) h trail end → (u : ℕ) (p : Act M T R Y F) (s : S) → begin h u ≡ Some p → m.begin h u ≡ Some s → Advances (naming_of w) meaning m.want gain (slice_index w) p s (trail u) (end u) (part u h)

-- What a run has: its last words fit, its history is legal under what they name, and it does not end as stuck.
pub record RunsWell {M T R Y F S X : Type 0} (m : Machine R Y S X) (Fits : List ℕ → Type 0) (naming_of : List ℕ → Naming M T) (meaning : F → Act M T R Y F) (begin : List (Event R Y) → ℕ → Option (Act M T R Y F)) (run : Outcome R Y S X) : Type 0 where
  pub fits : Fits run.world.words
  pub legal : Legal m.object (naming_of run.world.words) meaning begin run.world.history
  pub goes_on : (u : ℕ) (s : S) → run.ending ≡ StuckAt u s → ⊥

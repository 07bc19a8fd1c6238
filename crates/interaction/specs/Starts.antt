-- Where threads begin: thread 0 at the beginning, every other one where the history starts it. This project's own.
use Rattle.std.specs.Prelude.{ℕ, zero, suc, List, [], ◌∷◌, Option, Some, None, if◌then◌else◌, ◌==◌}
use Rattle.interaction.specs.declared.history.Event.{Event}
use Rattle.interaction.specs.Process.{Act, Next}

-- what one event, which may start the thread of a number, says of thread u
abbrev pub begun_by : {A : Type 0} → ℕ → Option (ℕ × A) → Option A → Option A
begun_by u None later = later
begun_by u (Some b) later = if b.0 == u then Some b.1 else later

-- where the events begin thread u; `starts` says which thread a request with its reply begins, and where
abbrev pub begun_in : {R Y A : Type 0} → (R → Y → Option (ℕ × A)) → List (Event R Y) → ℕ → Option A
begun_in starts [] u = None
begun_in starts (e ∷ es) u = begun_by u (starts e.request e.reply) (begun_in starts es u)

-- where thread u begins; thread 0 begins without an event
abbrev pub begin_of : {R Y A : Type 0} → A → (R → Y → Option (ℕ × A)) → List (Event R Y) → ℕ → Option A
begin_of main starts h zero = Some main
begin_of main starts h (suc u) = begun_in starts h (suc u)

-- a process that begins in these frames
abbrev pub as_process : {M T R Y F : Type 0} → Option F → Option (Act M T R Y F)
as_process None = None
as_process (Some f) = Some (Next f)

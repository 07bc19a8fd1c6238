-- How many turns a thread makes, and what pays for them. This project's own.
use Rattle.std.specs.Prelude.{ℕ, zero, suc, ◌+◌, ◌*◌, ◌≤◌, List}
use Rattle.interaction.specs.Process.{Act, Exchange, Naming, Talk, steps_of}
use Rattle.interaction.specs.Thread.{Want, Turn, Turns, cost_of}
use Rattle.interaction.specs.Thread as thread
use Rattle.interaction.specs.Simulation.{per_step}

-- the turns that count
abbrev pub spent : {R Y S : Type 0} {want : S → Want R Y S} {w : ℕ → ℕ} {s t : S} {ts : List (Turn R Y)} → Turns want w s ts t → ℕ
spent thread.none = 0
spent (thread.more made turns) = cost_of made + spent turns

-- what a turn of this cost gains: one that does not count gains nothing
abbrev pub gained : (cost gain : ℕ) → ℕ
gained zero gain = 0
gained (suc cost) gain = gain

-- what the turns gained besides, as by fills that they began
abbrev pub gains : {R Y S : Type 0} {want : S → Want R Y S} {w : ℕ → ℕ} (gain : S → ℕ) {s t : S} {ts : List (Turn R Y)} → Turns want w s ts t → ℕ
gains gain thread.none = 0
gains gain (thread.more {s = s} made turns) = gained (cost_of made) (gain s) + gains gain turns

-- A thread has come from `s` to `end` by these turns, and its process from `p` by these requests; the process's steps and
-- the gains have paid for the turns that count.
pub record Advances {M T R Y F S : Type 0} (n : Naming M T) (meaning : F → Act M T R Y F) (want : S → Want R Y S) (gain : S → ℕ) (w : ℕ → ℕ) (p : Act M T R Y F) (s : S) (ts : List (Turn R Y)) (end : S) (es : List (Exchange R Y)) : Type 0 where
  pub turns : Turns want w s ts end
  pub to : Act M T R Y F
  pub talk : Talk n meaning p es to
  pub paid : spent turns ≤ per_step * steps_of talk + gains gain turns

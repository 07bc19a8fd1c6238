-- The simulation: whatever is answered, a thread's turns keep to a process until both have arrived. This project's own.
use Rattle.std.specs.Prelude.{◌≡◌, ◌≢◌, ℕ, ◌+◌, ◌<◌, ◌≤◌, Bool, true, false, Some}
use Rattle.interaction.specs.declared.turn.What.{What}
use Rattle.interaction.specs.Process.{Act, Naming, Halts}
use Rattle.interaction.specs.Process as process
use Rattle.interaction.specs.Thread.{Want, MayLoad, MayClaim}
use Rattle.interaction.specs.Thread as thread

-- how many turns one step of a process pays for
abbrev pub per_step : ℕ
per_step = 1024

-- The two sides: the naming and the process's next instruction; a thread's next turn, and how many turns a turn gains
-- besides, as a fill that it begins. The words are the last ones.
pub record Sides (M T R Y F S : Type 0) : Type 0 where
  pub naming : Naming M T
  pub meaning : F → Act M T R Y F
  pub want : S → Want R Y S
  pub gain : S → ℕ
  pub words : ℕ → ℕ

mutual
  -- From here the thread at `s` keeps to the process at `p`, and has `n` turns to spend until both arrive where `At`
  -- holds; `moves` says that a turn comes before that. Where the process halts nothing is said.
  pub data Keeps {M T R Y F S : Type 0} (on : Sides M T R Y F S) (At : Act M T R Y F → S → Type 0) : (moves : Bool) (n : ℕ) → Act M T R Y F → S → Type 0 where
    arrives : {n : ℕ} {p : Act M T R Y F} {s : S} → At p s → Keeps on At false n p s
    nowhere : {b : Bool} {n : ℕ} {p : Act M T R Y F} {s : S} → Halts on.naming p → Keeps on At b n p s
    begins : {b : Bool} {n : ℕ} {f : F} {s : S} (m : ℕ) → m ≤ n + per_step → Keeps on At b m (on.meaning f) s → Keeps on At b n (process.Next f) s
    settles : {b : Bool} {n : ℕ} {e : M} {k : ℕ → Act M T R Y F} {v : ℕ} {s : S} (m : ℕ) → m ≤ n + per_step → on.naming.value_of e ≡ Some v → Keeps on At b m (k v) s → Keeps on At b n (process.Settle e k) s
    spells : {b : Bool} {n i : ℕ} {k : T → Act M T R Y F} {t : T} {s : S} → on.naming.tree_at i ≡ Some t → Keeps on At b n (k t) s → Keeps on At b n (process.Spell i k) s
    turns : {b : Bool} {n : ℕ} {p : Act M T R Y F} {s : S} (m : ℕ) → m < n + on.gain s → Onward on At m p (on.want s) → Keeps on At b n p s

  -- whatever answers this turn, the thread keeps to the process afterwards, with `m` turns to spend
  pub data Onward {M T R Y F S : Type 0} (on : Sides M T R Y F S) (At : Act M T R Y F → S → Type 0) : (m : ℕ) → Act M T R Y F → Want R Y S → Type 0 where
    goes : {m : ℕ} {p : Act M T R Y F} {a : What} {t : S} → Keeps on At false m p t → Onward on At m p (thread.Go a t)
    loads : {m i : ℕ} {p : Act M T R Y F} {a : What} {k : ℕ → S} → ((v : ℕ) → MayLoad on.words i v → Keeps on At false m p (k v)) → Onward on At m p (thread.Load a i k)
    claims : {m i put : ℕ} {p : Act M T R Y F} {k : ℕ → S} → ((v : ℕ) → MayClaim on.words i put v → Keeps on At false m p (k v)) → Onward on At m p (thread.Claim i put k)
    reads : {m i : ℕ} {p : Act M T R Y F} {k : ℕ → Want R Y S} → (on.words i ≢ 0 → Onward on At m p (k (on.words i))) → Onward on At m p (thread.Read i k)
    asks : {m : ℕ} {r : R} {left : Y → Act M T R Y F} {k : Y → S} → ((y : Y) → Keeps on At false m (left y) (k y)) → Onward on At m (process.Ask r left) (thread.Ask r k)
    fills : {m : ℕ} {p : Act M T R Y F} → Onward on At m p thread.Full
    ends : {m : ℕ} → Onward on At m process.Over thread.Over

-- at each place where the thread arrives the next piece begins, and makes a turn
abbrev pub GoesOn : {M T R Y F S : Type 0} → Sides M T R Y F S → (Act M T R Y F → S → Type 0) → Type 0
GoesOn on At = (p : Act _ _ _ _ _) (s : _) → At p s → Keeps on At true 0 p s

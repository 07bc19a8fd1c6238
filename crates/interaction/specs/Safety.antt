-- Never stuck: what a language says of its store and frames, and owes for it, so that after a legal history no process is stuck. This project's own.
use Rattle.std.specs.Prelude.{◌≡◌, ℕ, suc, ◌<◌, ◌⊎◌, Option, Some, None, true, false, ◌==◌}
use Rattle.interaction.specs.Process.{Act, Naming, Halts, Next, Settle, Spell, Ask, Over, Stuck}
use Rattle.interaction.specs.Object.{Sequential}

-- A language: its object, naming and process; `starts` says which thread a request with its reply begins, and where.
-- `Typed` says that what stands in the object fits, `Grows` that the second state has all that the first one has made,
-- and `Fits` that frames fit the object.
pub record Language (M T R Y F X : Type 0) : Type 1 where
  pub object : Sequential R Y X
  pub naming : Naming M T
  pub meaning : F → Act M T R Y F
  pub starts : R → Y → Option (ℕ × F)
  pub Typed : X → Type 0
  pub Grows : X → X → Type 0
  pub Fits : X → F → Type 0

-- the frames of a thread that is begun fit
abbrev pub FitsBegun : {M T R Y F X : Type 0} → Language M T R Y F X → X → Option (ℕ × F) → Type 0
FitsBegun l x None = Unit {0}
FitsBegun l x (Some b) = l.Fits x b.1

-- After thread u got this reply, with which the object came to `x`, all fits, the thread lives unless it is over, and what
-- is left of it is safe, where `left_is_safe` says so.
abbrev pub IsKept : {M T R Y F X : Type 0} → Language M T R Y F X → ℕ → X → R → Y → Act M T R Y F → (left_is_safe : Type 0) → Type 0
IsKept l u x r y left left_is_safe = l.Typed x × FitsBegun l x (l.starts r y) × ((left ≡ Over) ⊎ (l.object.is_live x u ≡ true)) × left_is_safe

-- From this state of the object on, whatever other threads do and whatever is replied, what is left of thread u meets
-- no refusal but a halt, and keeps the object typed.
abbrev pub Safe : {M T R Y F X : Type 0} → Language M T R Y F X → ℕ → X → Act M T R Y F → Type 0
Safe l u x (Next f) = l.Fits x f
Safe l u x (Settle m k) = (v : ℕ) → l.naming.value_of m ≡ Some v → Safe l u x (k v)
Safe l u x (Spell i k) = ((t : _) × (l.naming.tree_at i ≡ Some t)) × ((t : _) → l.naming.tree_at i ≡ Some t → Safe l u x (k t))
Safe l u x (Ask r k) =
    (y : _) → l.Grows x y → l.Typed y → l.object.is_live y u ≡ true →
    (l.object.is_improper (l.object.reply y u r) ≡ false) ×
    (l.object.is_halted (l.object.reply y u r) ≡ false → IsKept l u (l.object.after y u r) r (l.object.reply y u r) (k (l.object.reply y u r)) (Safe l u (l.object.after y u r) (k (l.object.reply y u r))))
Safe l u x Over = Unit {0}
Safe l u x Stuck = ⊥

-- What a language owes: growth is kept; what fits, fits later; each instruction of frames that fit is safe; and who
-- lives has begun, a thread's end is its own, and a start begins the next number, which lives.
pub record SafetyLaws {M T R Y F X : Type 0} (l : Language M T R Y F X) : Type 0 where
  pub grows_self : (x : X) → l.Grows x x
  pub grows_then : (x y z : X) → l.Grows x y → l.Grows y z → l.Grows x z
  pub grows_after : (x : X) (t : ℕ) (r : R) → l.Grows x (l.object.after x t r)
  pub fits_later : (x y : X) (f : F) → l.Grows x y → l.Fits x f → l.Fits y f
  pub steps : (u : ℕ) (x : X) (f : F) → l.Fits x f → Safe l u x (l.meaning f)
  pub lives_below : (x : X) (u : ℕ) → l.object.is_live x u ≡ true → u < l.object.threads x
  pub lives_other : (x : X) (t u : ℕ) (r : R) → (t == u) ≡ false → l.object.is_live x u ≡ true → l.object.is_live (l.object.after x t r) u ≡ true
  pub asks_alive : (x : X) (t : ℕ) (r : R) → l.object.is_halted (l.object.reply x t r) ≡ false → l.object.is_improper (l.object.reply x t r) ≡ false → l.object.is_live x t ≡ true
  pub begins_none : (x : X) (t : ℕ) (r : R) → l.starts r (l.object.reply x t r) ≡ None → l.object.threads (l.object.after x t r) ≡ l.object.threads x
  pub begins_one : (x : X) (t : ℕ) (r : R) (b : ℕ × F) → l.object.is_live x t ≡ true → l.object.is_halted (l.object.reply x t r) ≡ false → l.starts r (l.object.reply x t r) ≡ Some b → (b.0 ≡ l.object.threads x) × (l.object.threads (l.object.after x t r) ≡ suc (l.object.threads x))
  pub begun_lives : (x : X) (t : ℕ) (r : R) (b : ℕ × F) → l.Typed x → l.object.is_live x t ≡ true → l.object.is_halted (l.object.reply x t r) ≡ false → l.starts r (l.object.reply x t r) ≡ Some b → l.object.is_live (l.object.after x t r) b.0 ≡ true

-- where a language begins: thread 0 alone has started, it lives, and its frames fit
pub record SafeStart {M T R Y F X : Type 0} (l : Language M T R Y F X) (main : F) : Type 0 where
  pub typed : l.Typed l.object.first
  pub one : l.object.threads l.object.first ≡ 1
  pub lives : l.object.is_live l.object.first 0 ≡ true
  pub fits : l.Fits l.object.first main

-- what is left of a thread has a rule, and its request is not improper
pub record NotStuck {M T R Y F X : Type 0} (o : Sequential R Y X) (n : Naming M T) (x : X) (u : ℕ) (q : Act M T R Y F) : Type 0 where
  pub goes : Halts n q → ⊥
  pub proper : (r : R) (k : Y → Act M T R Y F) → q ≡ Ask r k → o.is_improper (o.reply x u r) ≡ false

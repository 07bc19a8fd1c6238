-- Threads that start in the history: who has begun has begun for good.
use Rattle.std.proofs.Common.{◌≡◌, ℕ, zero, suc, List, [], ◌∷◌, ◌++◌, Option, Some, None, refl, ap, ◌∙◌, subst}
use Rattle.std.specs.Prelude.{Bool, true, false, ◌==◌, if◌then◌else◌}
use Rattle.interaction.specs.declared.history.Event.{Event}
use Rattle.interaction.specs.Process.{Act, Next}
use Rattle.interaction.specs.Starts.{begun_by, begun_in, begin_of, as_process}

-- what was begun later is not overwritten
by-grows : {A : Type 0} (u : ℕ) (o : Option (ℕ × A)) (a b : Option A) (s : A) → (a ≡ Some s → b ≡ Some s) → begun_by u o a ≡ Some s → begun_by u o b ≡ Some s
by-grows u None a b s h e = h e
by-grows u (Some c) a b s h e = by_number (c.0 == u) e
  where
    by_number : (t : Bool) → (if t then Some c.1 else a) ≡ Some s → (if t then Some c.1 else b) ≡ Some s
    by_number true e' = e'
    by_number false e' = h e'

in-grows : {R Y A : Type 0} (starts : R → Y → Option (ℕ × A)) (d r : List (Event R Y)) (u : ℕ) (s : A) → begun_in starts d u ≡ Some s → begun_in starts (d ++ r) u ≡ Some s
in-grows starts [] r u s e = absurd (cc e)
in-grows starts (c ∷ d) r u s e = by-grows u (starts c.request c.reply) (begun_in starts d u) (begun_in starts (d ++ r) u) s (in-grows starts d r u s) e

-- where a thread has begun, a longer history begins it too
pub begin-grows : {R Y A : Type 0} (main : A) (starts : R → Y → Option (ℕ × A)) (d r : List (Event R Y)) (u : ℕ) (s : A) → begin_of main starts d u ≡ Some s → begin_of main starts (d ++ r) u ≡ Some s
begin-grows main starts d r zero s e = e
begin-grows main starts d r (suc u) s e = in-grows starts d r (suc u) s e

-- the frames in which a process begins
pub as_process-some : {M T R Y F : Type 0} (o : Option F) (p : Act M T R Y F) → as_process o ≡ Some p → (f : F) × (o ≡ Some f) × (Next f ≡ p)
as_process-some None p e = absurd (cc e)
as_process-some (Some f) p e = (f, refl, cc e)

-- the same for the process that begins there
pub process-grows : {M T R Y F : Type 0} (main : F) (starts : R → Y → Option (ℕ × F)) (d r : List (Event R Y)) (u : ℕ) (p : Act M T R Y F) → as_process (begin_of main starts d u) ≡ Some p → as_process (begin_of main starts (d ++ r) u) ≡ Some p
process-grows main starts d r u p e =
    let k = as_process-some (begin_of main starts d u) p e in
    ap as_process (begin-grows main starts d r u k.0 k.1) ∙ ap Some k.2

-- both starts are of one thread, at places that stand together, or neither is one
abbrev pub BothStart : {A B : Type 0} → (A → B → Type 0) → Option (ℕ × A) → Option (ℕ × B) → Type 0
BothStart Rel None None = Unit {0}
BothStart Rel None (Some b) = ⊥
BothStart Rel (Some a) None = ⊥
BothStart Rel (Some a) (Some b) = (a.0 ≡ b.0) × Rel a.1 b.1

-- both have begun, at places that stand together, or neither has
abbrev pub BothBegin : {A B : Type 0} → (A → B → Type 0) → Option A → Option B → Type 0
BothBegin Rel None None = Unit {0}
BothBegin Rel None (Some b) = ⊥
BothBegin Rel (Some a) None = ⊥
BothBegin Rel (Some a) (Some b) = Rel a b

by-both : {A B : Type 0} (Rel : A → B → Type 0) (u : ℕ) (a : Option (ℕ × A)) (b : Option (ℕ × B)) (later : Option A) (later' : Option B) → BothStart Rel a b → BothBegin Rel later later' → BothBegin Rel (begun_by u a later) (begun_by u b later')
by-both Rel u None None later later' h k = k
by-both Rel u None (Some b) later later' h k = absurd h
by-both Rel u (Some a) None later later' h k = absurd h
by-both Rel u (Some a) (Some b) later later' h k = subst (λ n. BothBegin Rel (if a.0 == u then Some a.1 else later) (if n == u then Some b.1 else later')) h.0 (by_number (a.0 == u))
  where
    by_number : (t : Bool) → BothBegin Rel (if t then Some a.1 else later) (if t then Some b.1 else later')
    by_number true = h.1
    by_number false = k

in-both : {R Y A B : Type 0} (Rel : A → B → Type 0) (starts : R → Y → Option (ℕ × A)) (starts' : R → Y → Option (ℕ × B)) → ((r : R) (y : Y) → BothStart Rel (starts r y) (starts' r y)) → (h : List (Event R Y)) (u : ℕ) → BothBegin Rel (begun_in starts h u) (begun_in starts' h u)
in-both Rel starts starts' both [] u = tt
in-both Rel starts starts' both (e ∷ h) u = by-both Rel u (starts e.request e.reply) (starts' e.request e.reply) (begun_in starts h u) (begun_in starts' h u) (both e.request e.reply) (in-both Rel starts starts' both h u)

-- Where both begin together and each start is of both, the history begins both together.
pub begin_both : {R Y A B : Type 0} (Rel : A → B → Type 0) (main : A) (main' : B) (starts : R → Y → Option (ℕ × A)) (starts' : R → Y → Option (ℕ × B)) → Rel main main' → ((r : R) (y : Y) → BothStart Rel (starts r y) (starts' r y)) → (h : List (Event R Y)) (u : ℕ) → BothBegin Rel (begin_of main starts h u) (begin_of main' starts' h u)
begin_both Rel main main' starts starts' at_main both h zero = at_main
begin_both Rel main main' starts starts' at_main both h (suc u) = in-both Rel starts starts' both h (suc u)

by-all : {A : Type 0} (P : A → Type 0) (u : ℕ) (o : Option (ℕ × A)) (later : Option A) (s : A) → ((b : ℕ × A) → o ≡ Some b → P b.1) → (later ≡ Some s → P s) → begun_by u o later ≡ Some s → P s
by-all P u None later s at_start old e = old e
by-all P u (Some b) later s at_start old e = by_number (b.0 == u) e
  where
    by_number : (t : Bool) → (if t then Some b.1 else later) ≡ Some s → P s
    by_number true e' = subst P (cc e') (at_start b refl)
    by_number false e' = old e'

in-all : {R Y A : Type 0} (P : A → Type 0) (starts : R → Y → Option (ℕ × A)) → ((r : R) (y : Y) (b : ℕ × A) → starts r y ≡ Some b → P b.1) → (h : List (Event R Y)) (u : ℕ) (s : A) → begun_in starts h u ≡ Some s → P s
in-all P starts at_start [] u s e = absurd (cc e)
in-all P starts at_start (c ∷ h) u s e = by-all P u (starts c.request c.reply) (begun_in starts h u) s (at_start c.request c.reply) (in-all P starts at_start h u s) e

-- What holds at the main place and at each start holds wherever a history begins a thread.
pub begin_all : {R Y A : Type 0} (P : A → Type 0) (main : A) (starts : R → Y → Option (ℕ × A)) → P main → ((r : R) (y : Y) (b : ℕ × A) → starts r y ≡ Some b → P b.1) → (h : List (Event R Y)) (u : ℕ) (s : A) → begin_of main starts h u ≡ Some s → P s
begin_all P main starts at_main at_start h zero s e = subst P (cc e) at_main
begin_all P main starts at_main at_start h (suc u) s e = in-all P starts at_start h (suc u) s e

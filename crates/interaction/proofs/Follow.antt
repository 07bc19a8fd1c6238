-- A thread's turns, one after another, keep to its process.
use Rattle.std.proofs.Common.{◌≡◌, ◌≢◌, ℕ, ◌+◌, ◌*◌, ◌<◌, ◌≤◌, List, [], ◌∷◌, refl, sym, subst, arith, Some}
use Rattle.std.specs.Prelude.{true, false}
use Rattle.interaction.specs.Process.{Act, Exchange, Talk, rests, begins, settles, spells, asks, steps_of, Halts}
use Rattle.interaction.specs.Process as process
use Rattle.interaction.specs.Thread.{Want, Turn, Did, Loaded, Claimed, Asked, Makes, Turns, request_of, requests_in, cost_of}
use Rattle.interaction.specs.Thread as thread
use Rattle.interaction.specs.Simulation.{Sides, Keeps, Onward, GoesOn, per_step}
use Rattle.interaction.specs.Simulation as keeps
use Rattle.interaction.specs.Progress.{gained}
use Rattle.interaction.proofs.Compose.{loosen, guard}
use Rattle.interaction.proofs.Talks.{talk_on}

module _ {M T R Y F S : Type 0} (on : Sides M T R Y F S) (At : Act M T R Y F → S → Type 0) where
  -- what a turn leaves: the process has made the turn's request, and the thread keeps to it on
  pub record Kept (n : ℕ) (p : Act M T R Y F) (es : List (Exchange R Y)) (cost : ℕ) (t : S) : Type 0 where
    pub q : Act M T R Y F
    pub left : ℕ
    pub talk : Talk on.naming on.meaning p es q
    pub keeps : Keeps on At false left q t
    pub paid : cost + left ≤ n + per_step * steps_of talk

  -- the same, where the process takes a step first
  begins_kept : (n m : ℕ) (f : F) (es : List (Exchange R Y)) (c : ℕ) (t : S) → m ≤ n + per_step → Kept m (on.meaning f) es c t → Kept n (process.Next f) es c t
  begins_kept n m f es c t h k = record { q = k.q; left = k.left; talk = begins k.talk; keeps = k.keeps; paid = omega (arith, k.paid) }

  settles_kept : (n m v : ℕ) (e : M) (f : ℕ → Act M T R Y F) (es : List (Exchange R Y)) (c : ℕ) (t : S) → m ≤ n + per_step → on.naming.value_of e ≡ Some v → Kept m (f v) es c t → Kept n (process.Settle e f) es c t
  settles_kept n m v e f es c t h is k = record { q = k.q; left = k.left; talk = settles is k.talk; keeps = k.keeps; paid = omega (arith, k.paid) }

  spells_kept : (n i : ℕ) (a : T) (f : T → Act M T R Y F) (es : List (Exchange R Y)) (c : ℕ) (t : S) → on.naming.tree_at i ≡ Some a → Kept n (f a) es c t → Kept n (process.Spell i f) es c t
  spells_kept n i a f es c t is k = record { q = k.q; left = k.left; talk = spells is k.talk; keeps = k.keeps; paid = k.paid }

  -- after one turn; a load after which the turn is tried again leaves all as it was
  data Result (n m : ℕ) (p : Act M T R Y F) (s : S) {x : Want R Y S} {turn : Turn R Y} {t : S} (made : Makes on.words s x turn t) : Type 0 where
    went : Kept m p (request_of turn) 0 t → cost_of made ≡ 1 → Result n m p s made
    again : request_of turn ≡ [] → t ≡ s → cost_of made ≡ 0 → Result n m p s made

  at_once : (m : ℕ) (p : Act M T R Y F) (t : S) → Keeps on At false m p t → Kept m p [] 0 t
  at_once m p t k = record { q = p; left = m; talk = rests; keeps = k; paid = omega arith }

  read_result : {n m : ℕ} {p : Act M T R Y F} {s : S} {i : ℕ} {k : ℕ → Want R Y S} {turn : Turn R Y} {t : S} (nz : on.words i ≢ 0) {made : Makes on.words s (k (on.words i)) turn t} → Result n m p s made → Result n m p s (thread.reads {k = k} nz made)
  read_result nz (went k e) = went k e
  read_result nz (again r t e) = again r t e

  onward : (n m : ℕ) (p : Act M T R Y F) (s : S) {x : Want R Y S} {turn : Turn R Y} {t : S} → Onward on At m p x → (made : Makes on.words s x turn t) → Result n m p s made
  onward n m p s (keeps.goes k) thread.goes = went (at_once m p _ k) refl
  onward n m p s (keeps.loads k) (thread.loads {v = v} h) = went (at_once m p _ (k v h)) refl
  onward n m p s (keeps.claims k) (thread.claims {v = v} h) = went (at_once m p _ (k v h)) refl
  onward n m _ s (keeps.asks k) (thread.asks {y = y}) = went (record { q = _; left = m; talk = asks rests; keeps = k y; paid = omega arith }) refl
  onward n m p s (keeps.reads k) (thread.tries h) = again refl refl refl
  onward n m p s (keeps.reads k) (thread.reads nz made) = read_result nz (onward n m p s (k nz) made)
  onward n m p s keeps.fills made = elim made [ ]
  onward n m p s keeps.ends made = elim made [ ]

  -- one turn, or the process halts before it
  pub data OneTurn (n : ℕ) (p : Act M T R Y F) (s : S) {x : Want R Y S} {turn : Turn R Y} {t : S} (made : Makes on.words s x turn t) : Type 0 where
    kept : Kept (n + gained (cost_of made) (on.gain s)) p (request_of turn) (cost_of made) t → OneTurn n p s made
    stops : {q : Act M T R Y F} → Talk on.naming on.meaning p [] q → Halts on.naming q → OneTurn n p s made

  begins_turn : {n m : ℕ} {f : F} {s : S} {x : Want R Y S} {turn : Turn R Y} {t : S} {made : Makes on.words s x turn t} → m ≤ n + per_step → OneTurn m (on.meaning f) s made → OneTurn n (process.Next f) s made
  begins_turn {n = n} {m = m} {f = f} {s = s} {turn = turn} {t = t} {made = made} h (kept k) = kept (begins_kept (n + gained (cost_of made) (on.gain s)) (m + gained (cost_of made) (on.gain s)) f (request_of turn) (cost_of made) t (omega arith) k)
  begins_turn h (stops t x) = stops (begins t) x

  settles_turn : {n m v : ℕ} {e : M} {f : ℕ → Act M T R Y F} {s : S} {x : Want R Y S} {turn : Turn R Y} {t : S} {made : Makes on.words s x turn t} → m ≤ n + per_step → on.naming.value_of e ≡ Some v → OneTurn m (f v) s made → OneTurn n (process.Settle e f) s made
  settles_turn {n = n} {m = m} {v = v} {e = e} {f = f} {s = s} {turn = turn} {t = t} {made = made} h is (kept k) = kept (settles_kept (n + gained (cost_of made) (on.gain s)) (m + gained (cost_of made) (on.gain s)) v e f (request_of turn) (cost_of made) t (omega arith) is k)
  settles_turn h is (stops t x) = stops (settles is t) x

  spells_turn : {n i : ℕ} {a : T} {f : T → Act M T R Y F} {s : S} {x : Want R Y S} {turn : Turn R Y} {t : S} {made : Makes on.words s x turn t} → on.naming.tree_at i ≡ Some a → OneTurn n (f a) s made → OneTurn n (process.Spell i f) s made
  spells_turn {n = n} {i = i} {a = a} {f = f} {s = s} {turn = turn} {t = t} {made = made} is (kept k) = kept (spells_kept (n + gained (cost_of made) (on.gain s)) i a f (request_of turn) (cost_of made) t is k)
  spells_turn is (stops t x) = stops (spells is t) x

  turn_made : (n m : ℕ) (p : Act M T R Y F) (s : S) {turn : Turn R Y} {t : S} (made : Makes on.words s (on.want s) turn t) → m < n + on.gain s → Keeps on At true n p s → Result n m p s made → OneTurn n p s made
  turn_made n m p s made h whole (went k e) = let g : gained (cost_of made) (on.gain s) ≡ on.gain s = rw e refl in kept (record { q = k.q; left = k.left; talk = k.talk; keeps = k.keeps; paid = omega (arith, k.paid, g) })
  turn_made n m p s {turn = turn} {t = t} made h whole (again r same e) = kept (record { q = p; left = n; talk = subst (λ es. Talk on.naming on.meaning p es p) (sym r) rests; keeps = subst (λ u. Keeps on At false n p u) (sym same) (loosen whole); paid = omega arith })

  -- a thread that keeps to the process keeps to it after each turn that it may make
  pub one_turn : {n : ℕ} {p : Act M T R Y F} {s : S} {turn : Turn R Y} {t : S} (made : Makes on.words s (on.want s) turn t) → Keeps on At true n p s → OneTurn n p s made
  one_turn made (keeps.nowhere x) = stops rests x
  one_turn made (keeps.begins m h k) = begins_turn h (one_turn made k)
  one_turn made (keeps.settles m h is k) = settles_turn h is (one_turn made k)
  one_turn made (keeps.spells is k) = spells_turn is (one_turn made k)
  one_turn {n = n} {p = p} {s = s} made (keeps.turns m h o) = turn_made n m p s made h (keeps.turns m h o) (onward n m p s o made)

  -- up to the next request of a list of turns
  pub record Reached (p : Act M T R Y F) (e : Exchange R Y) (es : List (Exchange R Y)) (end : S) : Type 0 where
    pub q : Act M T R Y F
    pub left : ℕ
    pub mid : S
    pub rest : List (Turn R Y)
    pub talk : Talk on.naming on.meaning p (e ∷ []) q
    pub keeps : Keeps on At false left q mid
    pub turns : Turns on.want on.words mid rest end
    pub asked : requests_in rest ≡ es

  -- the process does not halt before its next request
  abbrev pub IsAlive : Act M T R Y F → Type 0
  IsAlive p = (q : Act M T R Y F) → Talk on.naming on.meaning p [] q → Halts on.naming q → ⊥

  later_alive : {p q : Act M T R Y F} → Talk on.naming on.meaning p [] q → IsAlive p → IsAlive q
  later_alive t alive q u x = alive q (talk_on t u) x

  prefix_reached : {p q : Act M T R Y F} {e : Exchange R Y} {es : List (Exchange R Y)} {end : S} → Talk on.naming on.meaning p [] q → Reached q e es end → Reached p e es end
  prefix_reached t r = record { q = r.q; left = r.left; mid = r.mid; rest = r.rest; talk = talk_on t r.talk; keeps = r.keeps; turns = r.turns; asked = r.asked }

  from_turn : {n c : ℕ} {p : Act M T R Y F} {t end : S} {rest : List (Turn R Y)} {e : Exchange R Y} {es : List (Exchange R Y)} (turn : Turn R Y) → ((left : ℕ) (q : Act M T R Y F) → Talk on.naming on.meaning p [] q → Keeps on At false left q t → requests_in rest ≡ e ∷ es → Reached q e es end) → Turns on.want on.words t rest end → Kept n p (request_of turn) c t → requests_in (turn ∷ rest) ≡ e ∷ es → Reached p e es end
  from_turn (Did a) go turns k same = prefix_reached k.talk (go k.left k.q k.talk k.keeps same)
  from_turn (Loaded a i v) go turns k same = prefix_reached k.talk (go k.left k.q k.talk k.keeps same)
  from_turn (Claimed i put v) go turns k same = prefix_reached k.talk (go k.left k.q k.talk k.keeps same)
  from_turn {p = p} {t = t} {rest = rest} (Asked x) go turns k same = record { q = k.q; left = k.left; mid = t; rest = rest; talk = subst (λ y. Talk on.naming on.meaning p (y ∷ []) k.q) (cc) k.talk; keeps = k.keeps; turns = turns; asked = cc }

  to_request : {n : ℕ} {p : Act M T R Y F} {t end : S} {rest : List (Turn R Y)} {e : Exchange R Y} {es : List (Exchange R Y)} {s : S} {turn : Turn R Y} (made : Makes on.words s (on.want s) turn t) → IsAlive p → ((left : ℕ) (q : Act M T R Y F) → Talk on.naming on.meaning p [] q → Keeps on At false left q t → requests_in rest ≡ e ∷ es → Reached q e es end) → Turns on.want on.words t rest end → OneTurn n p s made → requests_in (turn ∷ rest) ≡ e ∷ es → Reached p e es end
  to_request made alive go turns (stops t x) same = absurd (alive _ t x)
  to_request {turn = turn} made alive go turns (kept k) same = from_turn turn go turns k same

  -- the turns up to the next request
  pub until_request : GoesOn on At → (e : Exchange R Y) (es : List (Exchange R Y)) {s : S} {turns : List (Turn R Y)} {end : S} → Turns on.want on.words s turns end → (n : ℕ) (p : Act M T R Y F) → IsAlive p → Keeps on At false n p s → requests_in turns ≡ e ∷ es → Reached p e es end
  until_request on_from e es thread.none n p alive k same = cc
  until_request on_from e es (thread.more made turns) n p alive k same = to_request made alive (λ left q t k' same'. until_request on_from e es turns left q (later_alive t alive) k' same') turns (one_turn made (guard on_from k)) same

  -- after turns that make no request
  pub record Settled (p : Act M T R Y F) (end : S) : Type 0 where
    pub q : Act M T R Y F
    pub left : ℕ
    pub talk : Talk on.naming on.meaning p [] q
    pub keeps : Keeps on At false left q end

  settled_from : {p q : Act M T R Y F} {end : S} → Talk on.naming on.meaning p [] q → Settled q end → Settled p end
  settled_from t r = record { q = r.q; left = r.left; talk = talk_on t r.talk; keeps = r.keeps }

  quiet_turn : {n c : ℕ} {p : Act M T R Y F} {t end : S} (rest : List (Turn R Y)) (turn : Turn R Y) → ((left : ℕ) (q : Act M T R Y F) → Talk on.naming on.meaning p [] q → Keeps on At false left q t → requests_in rest ≡ [] → Settled q end) → Kept n p (request_of turn) c t → requests_in (turn ∷ rest) ≡ [] → Settled p end
  quiet_turn rest (Did a) go k same = settled_from k.talk (go k.left k.q k.talk k.keeps same)
  quiet_turn rest (Loaded a i v) go k same = settled_from k.talk (go k.left k.q k.talk k.keeps same)
  quiet_turn rest (Claimed i put v) go k same = settled_from k.talk (go k.left k.q k.talk k.keeps same)
  quiet_turn rest (Asked x) go k same = cc

  quiet_turn_made : {n : ℕ} {p : Act M T R Y F} {t end : S} (rest : List (Turn R Y)) {s : S} {turn : Turn R Y} (made : Makes on.words s (on.want s) turn t) → IsAlive p → ((left : ℕ) (q : Act M T R Y F) → Talk on.naming on.meaning p [] q → Keeps on At false left q t → requests_in rest ≡ [] → Settled q end) → OneTurn n p s made → requests_in (turn ∷ rest) ≡ [] → Settled p end
  quiet_turn_made rest made alive go (stops t x) same = absurd (alive _ t x)
  quiet_turn_made rest {turn = turn} made alive go (kept k) same = quiet_turn rest turn go k same

  -- the turns after the last request
  pub until_end : GoesOn on At → {s : S} {turns : List (Turn R Y)} {end : S} → Turns on.want on.words s turns end → (n : ℕ) (p : Act M T R Y F) → IsAlive p → Keeps on At false n p s → requests_in turns ≡ [] → Settled p end
  until_end on_from (thread.none) n p alive k same = record { q = p; left = n; talk = rests; keeps = k }
  until_end on_from (thread.more {turns = rest} made turns) n p alive k same = quiet_turn_made rest made alive (λ left q t k' same'. until_end on_from turns left q (later_alive t alive) k' same') (one_turn made (guard on_from k)) same

-- After a legal history no process is stuck: by induction over the history, once for every language.
use Rattle.std.proofs.Common.{◌≡◌, ◌≢◌, ℕ, zero, suc, ◌<◌, ◌≤◌, List, [], ◌∷◌, Option, Some, None, refl, sym, ap, ◌∙◌, subst, arith, ◌⊎◌, inl, inr, ⊎_elim, eqb-true, eq-eqb}
use Rattle.std.specs.Prelude.{Bool, true, false, ◌==◌, if◌then◌else◌}
use Rattle.interaction.specs.declared.history.Event.{Event}
use Rattle.interaction.specs.Process.{Act, Exchange, Halts, Next, Settle, Spell, Ask, Over, Stuck, Talk, rests, begins, settles, spells, asks}
use Rattle.interaction.specs.Object.{Answers, Replays, replayed}
use Rattle.interaction.specs.History.{part, exchange_of, Talks, Legal, Begins, NeverStuck}
use Rattle.interaction.specs.Starts.{begun_by, begun_in, begin_of, as_process}
use Rattle.interaction.specs.Safety.{Language, FitsBegun, Safe, SafetyLaws, SafeStart, NotStuck}
use Rattle.interaction.proofs.Starting.{process-grows, as_process-some}

module _ {M T R Y F X : Type 0} (l : Language M T R Y F X) (law : SafetyLaws l) where
  -- who is answered lives
  alive : (x : X) (t : ℕ) (r : R) (y : Y) → Answers l.object x t r y → l.object.is_live x t ≡ true
  alive x t r y a = law.asks_alive x t r (ap l.object.is_halted a.given ∙ a.goes_on) (ap l.object.is_improper a.given ∙ a.proper)

  begins_one : (x : X) (t : ℕ) (r : R) (y : Y) (b : ℕ × F) → Answers l.object x t r y → l.starts r y ≡ Some b → (b.0 ≡ l.object.threads x) × (l.object.threads (l.object.after x t r) ≡ suc (l.object.threads x))
  begins_one x t r y b a s = law.begins_one x t r b (alive x t r y a) (ap l.object.is_halted a.given ∙ a.goes_on) (ap (l.starts r) a.given ∙ s)

  begins_none : (x : X) (t : ℕ) (r : R) (y : Y) → Answers l.object x t r y → l.starts r y ≡ None → l.object.threads (l.object.after x t r) ≡ l.object.threads x
  begins_none x t r y a s = law.begins_none x t r (ap (l.starts r) a.given ∙ s)

  -- what was begun later or by this event is begun
  some_stays : (u : ℕ) (o : Option (ℕ × F)) (f : F) → (g : F) × (begun_by u o (Some f) ≡ Some g)
  some_stays u None f = (f, refl)
  some_stays u (Some b) f = by_number (b.0 == u)
    where
      by_number : (t : Bool) → (g : F) × ((if t then Some b.1 else Some f) ≡ Some g)
      by_number true = (b.1, refl)
      by_number false = (f, refl)

  -- a thread below the count was there before, or is begun by the events
  one_start : (x : X) (t u : ℕ) (r : R) (y : Y) (later : Option F) → Answers l.object x t r y → u < l.object.threads (l.object.after x t r) → (o : Option (ℕ × F)) → l.starts r y ≡ o → (u < l.object.threads x) ⊎ ((f : F) × (begun_by u o later ≡ Some f))
  one_start x t u r y later a lt None s = inl (omega (arith, begins_none x t r y a s))
  one_start x t u r y later a lt (Some b) s = by_number (b.0 == u) refl
    where
      by_number : (c : Bool) → (b.0 == u) ≡ c → (u < l.object.threads x) ⊎ ((f : F) × ((if c then Some b.1 else later) ≡ Some f))
      by_number true same = inr (b.1, refl)
      by_number false differ = let h = begins_one x t r y b a s in let ne : b.0 ≢ u = λ q. cc (eq-eqb b.0 u q, differ) in inl (omega (arith, h.0, h.1, ne))

  started : (x : X) (d : List (Event R Y)) (u : ℕ) → Replays l.object x d → u < l.object.threads (replayed l.object x d) → (u < l.object.threads x) ⊎ ((f : F) × (begun_in l.starts d u ≡ Some f))
  started x [] u h lt = inl lt
  started x (e ∷ d) u h lt =
      ⊎_elim
      (λ below. one_start x e.thread u e.request e.reply (begun_in l.starts d u) h.0 below (l.starts e.request e.reply) refl)
      (λ s. inr (let k = some_stays u (l.starts e.request e.reply) s.0 in (k.0, ap (begun_by u (l.starts e.request e.reply)) s.1 ∙ k.1)))
      (started (l.object.after x e.thread e.request) d u h.1 lt)

  one_more : (x : X) (t : ℕ) (r : R) (y : Y) → Answers l.object x t r y → (o : Option (ℕ × F)) → l.starts r y ≡ o → l.object.threads x ≤ l.object.threads (l.object.after x t r)
  one_more x t r y a None s = omega (arith, begins_none x t r y a s)
  one_more x t r y a (Some b) s = omega (arith, (begins_one x t r y b a s).1)

  more_threads : (x : X) (d : List (Event R Y)) → Replays l.object x d → l.object.threads x ≤ l.object.threads (replayed l.object x d)
  more_threads x [] h = omega arith
  more_threads x (e ∷ d) h =
      let a = more_threads (l.object.after x e.thread e.request) d h.1 in
      let b = one_more x e.thread e.request e.reply h.0 (l.starts e.request e.reply) refl in
      omega arith

  -- who is begun by the events is below the count
  begun_below : (x : X) (d : List (Event R Y)) (u : ℕ) (f : F) → Replays l.object x d → begun_in l.starts d u ≡ Some f → u < l.object.threads (replayed l.object x d)
  begun_below x [] u f h e = absurd (cc e)
  begun_below x (c ∷ d) u f h e = by_start (l.starts c.request c.reply) refl e (begun_below (l.object.after x c.thread c.request) d u f h.1)
    where
      by_number : (b : ℕ × F) → l.starts c.request c.reply ≡ Some b → (t : Bool) → (b.0 == u) ≡ t → (if t then Some b.1 else begun_in l.starts d u) ≡ Some f → (begun_in l.starts d u ≡ Some f → u < l.object.threads (replayed l.object x (c ∷ d))) → u < l.object.threads (replayed l.object x (c ∷ d))
      by_number b s true same e' later =
          let k = begins_one x c.thread c.request c.reply b h.0 s in
          let is : b.0 ≡ u = eqb-true b.0 u same in
          omega (arith, k.0, k.1, is, more_threads (l.object.after x c.thread c.request) d h.1)
      by_number b s false differ e' later = later e'

      by_start : (o : Option (ℕ × F)) → l.starts c.request c.reply ≡ o → begun_by u o (begun_in l.starts d u) ≡ Some f → (begun_in l.starts d u ≡ Some f → u < l.object.threads (replayed l.object x (c ∷ d))) → u < l.object.threads (replayed l.object x (c ∷ d))
      by_start None s e' later = later e'
      by_start (Some b) s e' later = by_number b s (b.0 == u) refl e' later

  pub safe_later : (u : ℕ) (x y : X) (a : Act M T R Y F) → l.Grows x y → Safe l u x a → Safe l u y a
  safe_later u x y (Next f) g s = law.fits_later x y f g s
  safe_later u x y (Settle m k) g s = λ v is. safe_later u x y (k v) g (s v is)
  safe_later u x y (Spell i k) g s = (s.0, λ t is. safe_later u x y (k t) g (s.1 t is))
  safe_later u x y (Ask r k) g s = λ z h. s z (law.grows_then x y z g h)
  safe_later u x y Over g s = tt
  safe_later u x y Stuck g s = s

  -- a thread that has begun: what is left of it is safe, and it lives or is over
  pub record IsRunning (x : X) (u : ℕ) (a : Act M T R Y F) : Type 0 where
    pub safe : Safe l u x a
    pub ready : (a ≡ Over) ⊎ (l.object.is_live x u ≡ true)

  over_stays : {a q : Act M T R Y F} {es : List (Exchange R Y)} → Talk l.naming l.meaning a es q → a ≡ Over → q ≡ Over
  over_stays rests e = e
  over_stays (begins t) e = absurd (cc e)
  over_stays (settles v t) e = absurd (cc e)
  over_stays (spells v t) e = absurd (cc e)
  over_stays (asks t) e = absurd (cc e)

  silent_safe : {a q : Act M T R Y F} {es : List (Exchange R Y)} → Talk l.naming l.meaning a es q → (u : ℕ) (x : X) → es ≡ [] → Safe l u x a → Safe l u x q
  silent_safe rests u x e s = s
  silent_safe (begins {f = f} t) u x e s = silent_safe t u x e (law.steps u x f s)
  silent_safe (settles {v = v} is t) u x e s = silent_safe t u x e (s v is)
  silent_safe (spells {t = a} is t) u x e s = silent_safe t u x e (s.1 a is)
  silent_safe (asks t) u x e s = absurd (cc e)

  silent_runs : {a q : Act M T R Y F} {es : List (Exchange R Y)} → Talk l.naming l.meaning a es q → (u : ℕ) (x : X) → es ≡ [] → IsRunning x u a → IsRunning x u q
  silent_runs t u x e s = record { safe = silent_safe t u x e s.safe; ready = ⊎_elim (λ c. inl (over_stays t c)) (λ v. inr v) s.ready }

  -- the silent steps before a request
  record Asking (u : ℕ) (x : X) (e : Exchange R Y) (es : List (Exchange R Y)) (q : Act M T R Y F) : Type 0 where
    left : Y → Act M T R Y F
    safe : Safe l u x (Ask e.request left)
    talk : Talk l.naming l.meaning (left e.reply) es q

  to_request : {a q : Act M T R Y F} {e : Exchange R Y} {es : List (Exchange R Y)} → Talk l.naming l.meaning a (e ∷ es) q → (u : ℕ) (x : X) → Safe l u x a → Asking u x e es q
  to_request (begins {f = f} t) u x s = to_request t u x (law.steps u x f s)
  to_request (settles {v = v} is t) u x s = to_request t u x (s v is)
  to_request (spells {t = a} is t) u x s = to_request t u x (s.1 a is)
  to_request (asks {k = k} t) u x s = record { left = k; safe = s; talk = t }

  -- a talk to a given end; who has not begun has no part
  abbrev pub TalksTo : Option F → List (Exchange R Y) → Act M T R Y F → Type 0
  TalksTo None es q = es ≡ []
  TalksTo (Some f) es q = Talk l.naming l.meaning (Next f) es q

  -- where thread u stands before the events: begun and safe, or to be begun by them
  pub data Stands (x : X) (es : List (Event R Y)) (u : ℕ) (q : Act M T R Y F) : Type 0 where
    runs : {a : Act M T R Y F} → IsRunning x u a → Talk l.naming l.meaning a (part u es) q → Stands x es u q
    waits : l.object.threads x ≤ u → TalksTo (begun_in l.starts es u) (part u es) q → Stands x es u q

  -- a thread's own request
  record Acted (x : X) (t : ℕ) (e : Exchange R Y) (es : List (Exchange R Y)) (q : Act M T R Y F) : Type 0 where
    typed : l.Typed (l.object.after x t e.request)
    begun : FitsBegun l (l.object.after x t e.request) (l.starts e.request e.reply)
    left : Act M T R Y F
    stands : IsRunning (l.object.after x t e.request) t left
    talk : Talk l.naming l.meaning left es q

  own_step : (x : X) (t : ℕ) (e : Exchange R Y) (es : List (Exchange R Y)) (q a : Act M T R Y F) → l.Typed x → Answers l.object x t e.request e.reply → IsRunning x t a → Talk l.naming l.meaning a (e ∷ es) q → Acted x t e es q
  own_step x t e es q a typed is s talk =
      let c : Asking t x e es q = to_request talk t x s.safe in
      let g = (c.safe x (law.grows_self x) typed (alive x t e.request e.reply is)).1 (ap l.object.is_halted is.given ∙ is.goes_on) in
      record {
        typed = g.0;
        begun = subst (λ y. FitsBegun l (l.object.after x t e.request) (l.starts e.request y)) is.given g.1;
        left = c.left e.reply;
        stands = record { safe = subst (λ y. Safe l t (l.object.after x t e.request) (c.left y)) is.given g.3; ready = subst (λ y. (c.left y ≡ Over) ⊎ (l.object.is_live (l.object.after x t e.request) t ≡ true)) is.given g.2 };
        talk = c.talk;
      }

  other_runs : (x : X) (t u : ℕ) (r : R) (a : Act M T R Y F) → (t == u) ≡ false → IsRunning x u a → IsRunning (l.object.after x t r) u a
  other_runs x t u r a ne s = record { safe = safe_later u x (l.object.after x t r) a (law.grows_after x t r) s.safe; ready = ⊎_elim (λ c. inl c) (λ v. inr (law.lives_other x t u r ne v)) s.ready }

  -- what stands before an event
  pub record AllStand (x : X) (es : List (Event R Y)) (end : ℕ → Act M T R Y F) : Type 0 where
    pub typed : l.Typed x
    pub stands : (u : ℕ) → Stands x es u (end u)

  actor : (x : X) (e : Event R Y) (es : List (Event R Y)) (q : Act M T R Y F) → l.Typed x → Answers l.object x e.thread e.request e.reply → Stands x (e ∷ es) e.thread q → Acted x e.thread (exchange_of e) (part e.thread es) q
  actor x e es q typed is (runs {a = a} s talk) = own_step x e.thread (exchange_of e) (part e.thread es) q a typed is s (subst (λ b. Talk l.naming l.meaning a (if b then exchange_of e ∷ part e.thread es else part e.thread es) q) (eq-eqb e.thread e.thread refl) talk)
  actor x e es q typed is (waits up talk) = absurd (omega (arith, law.lives_below x e.thread (alive x e.thread e.request e.reply is)))

  one_event : (x : X) (e : Event R Y) (es : List (Event R Y)) (end : ℕ → Act M T R Y F) → Answers l.object x e.thread e.request e.reply → AllStand x (e ∷ es) end → AllStand (l.object.after x e.thread e.request) es end
  one_event x e es end is b = record { typed = step.typed; stands = λ u. by_thread u (e.thread == u) refl (b.stands u) }
    where
      step : Acted x e.thread (exchange_of e) (part e.thread es) (end e.thread)
      step = actor x e es (end e.thread) b.typed is (b.stands e.thread)

      -- a thread that waited has been begun, or waits on
      by_start : (u : ℕ) (c : Option (ℕ × F)) → l.starts e.request e.reply ≡ c → (e.thread == u) ≡ false → l.object.threads x ≤ u → TalksTo (begun_by u c (begun_in l.starts es u)) (part u es) (end u) → Stands (l.object.after x e.thread e.request) es u (end u)
      by_start u None s ne up talk = waits (omega (arith, up, begins_none x e.thread e.request e.reply is s)) talk
      by_start u (Some c) s ne up talk = by_number (c.0 == u) refl talk
        where
          one : (c.0 ≡ l.object.threads x) × (l.object.threads (l.object.after x e.thread e.request) ≡ suc (l.object.threads x))
          one = begins_one x e.thread e.request e.reply c is s

          lives : l.object.is_live (l.object.after x e.thread e.request) c.0 ≡ true
          lives = law.begun_lives x e.thread e.request c b.typed (alive x e.thread e.request e.reply is) (ap l.object.is_halted is.given ∙ is.goes_on) (ap (l.starts e.request) is.given ∙ s)

          by_number : (t : Bool) → (c.0 == u) ≡ t → TalksTo (if t then Some c.1 else begun_in l.starts es u) (part u es) (end u) → Stands (l.object.after x e.thread e.request) es u (end u)
          by_number true same talk' = runs (record { safe = subst (λ q. FitsBegun l (l.object.after x e.thread e.request) q) s step.begun; ready = inr (subst (λ v. l.object.is_live (l.object.after x e.thread e.request) v ≡ true) (eqb-true c.0 u same) lives) }) talk'
          by_number false differ talk' = let ne' : c.0 ≢ u = λ q. cc (eq-eqb c.0 u q, differ) in waits (omega (arith, up, one.0, one.1, ne')) talk'

      by_thread : (u : ℕ) (t : Bool) → (e.thread == u) ≡ t → Stands x (e ∷ es) u (end u) → Stands (l.object.after x e.thread e.request) es u (end u)
      by_thread u true same s = subst (λ v. Stands (l.object.after x e.thread e.request) es v (end v)) (eqb-true e.thread u same) (runs step.stands step.talk)
      by_thread u false ne (runs {a = a} s talk) = runs (other_runs x e.thread u e.request a ne s) (subst (λ t. Talk l.naming l.meaning a (if t then exchange_of e ∷ part u es else part u es) (end u)) ne talk)
      by_thread u false ne (waits up talk) = by_start u (l.starts e.request e.reply) refl ne up (subst (λ t. TalksTo (begun_in l.starts (e ∷ es) u) (if t then exchange_of e ∷ part u es else part u es) (end u)) ne talk)

  -- induction over the history
  pub safe_after : (x : X) (es : List (Event R Y)) (end : ℕ → Act M T R Y F) → Replays l.object x es → AllStand x es end → AllStand (replayed l.object x es) [] end
  safe_after x [] end r b = b
  safe_after x (e ∷ es) end r b = safe_after (l.object.after x e.thread e.request) es end r.1 (one_event x e es end r.0 b)

  goes_on : (q : Act M T R Y F) (u : ℕ) (x : X) → Safe l u x q → Halts l.naming q → ⊥
  goes_on (Next f) u x s h = h
  goes_on (Settle m k) u x s h = h
  goes_on (Spell i k) u x s h = cc (s.0.1, h)
  goes_on (Ask r k) u x s h = h
  goes_on Over u x s h = h
  goes_on Stuck u x s h = s

  pub not_stuck : (x : X) (u : ℕ) (q : Act M T R Y F) → l.Typed x → IsRunning x u q → NotStuck l.object l.naming x u q
  not_stuck x u q typed s = record {
    goes = goes_on q u x s.safe;
    proper = λ r k is. ⊎_elim (λ c. absurd (cc (c, is))) (λ v. ((subst (λ a. Safe l u x a) is s.safe) x (law.grows_self x) typed v).0) s.ready;
  }

  ends_well : (x : X) (u : ℕ) (q : Act M T R Y F) → l.Typed x → Stands x [] u q → (u < l.object.threads x) → NotStuck l.object l.naming x u q
  ends_well x u q typed (runs s talk) lt = not_stuck x u q typed (silent_runs talk u x refl s)
  ends_well x u q typed (waits up talk) lt = absurd (omega (arith, up, lt))

  module _ (main : F) (start : SafeStart l main) where
    -- where the process of a thread begins
    abbrev pub begin_process : List (Event R Y) → ℕ → Option (Act M T R Y F)
    begin_process h u = as_process (begin_of main l.starts h u)

    -- who lives has begun
    pub live_begun : (d : List (Event R Y)) (u : ℕ) → Replays l.object l.object.first d → l.object.is_live (replayed l.object l.object.first d) u ≡ true → (f : F) × (begin_of main l.starts d u ≡ Some f)
    live_begun d zero h lives = (main, refl)
    live_begun d (suc u) h lives =
        let lt = law.lives_below (replayed l.object l.object.first d) (suc u) lives in
        ⊎_elim (λ below. absurd (omega (arith, start.one, below))) (λ s. s) (started l.object.first d (suc u) h lt)

    -- threads begin as the history starts them
    pub language_begins : Begins l.object begin_process
    language_begins = record {
      grows = process-grows main l.starts;
      known = λ d u r y h a. let k = live_begun d u h (alive (replayed l.object l.object.first d) u r y a) in (Next k.0, ap as_process k.1);
    }

    first_stands : (h : List (Event R Y)) (end : ℕ → Act M T R Y F) → ((u : ℕ) → TalksTo (begin_of main l.starts h u) (part u h) (end u)) → (u : ℕ) → Stands l.object.first h u (end u)
    first_stands h end talks zero = runs (record { safe = start.fits; ready = inr start.lives }) (talks 0)
    first_stands h end talks (suc u) = waits (omega (arith, start.one)) (talks (suc u))

    -- who has begun is among those that the object has started
    pub begun_low : (h : List (Event R Y)) (u : ℕ) (f : F) → Replays l.object l.object.first h → begin_of main l.starts h u ≡ Some f → u < l.object.threads (replayed l.object l.object.first h)
    begun_low h zero f r e = omega (arith, start.one, more_threads l.object.first h r)
    begun_low h (suc u) f r e = begun_below l.object.first h (suc u) f r e

    -- After a history that replays, with these talks of the threads, no begun thread is stuck.
    pub talks_not_stuck : (h : List (Event R Y)) (end : ℕ → Act M T R Y F) → Replays l.object l.object.first h → ((u : ℕ) → TalksTo (begin_of main l.starts h u) (part u h) (end u)) → (u : ℕ) (f : F) → begin_of main l.starts h u ≡ Some f → NotStuck l.object l.naming (replayed l.object l.object.first h) u (end u)
    talks_not_stuck h end replays talks u f begun =
        let last = safe_after l.object.first h end replays (record { typed = start.typed; stands = first_stands h end talks }) in
        ends_well (replayed l.object l.object.first h) u (end u) last.typed (last.stands u) (begun_low h u f replays begun)

    -- the end of a talk, and the talk to it
    end_of_talk : (o : Option F) (es : List (Exchange R Y)) → Talks l.naming l.meaning (as_process o) es → (q : Act M T R Y F) × TalksTo o es q
    end_of_talk None es t = (Over, t)
    end_of_talk (Some f) es t = t

    -- the given talk for its thread, and for each other one any talk
    one_end : (h : List (Event R Y)) (u : ℕ) (q : Act M T R Y F) → TalksTo (begin_of main l.starts h u) (part u h) q → Legal l.object l.naming l.meaning begin_process h → (f : F) → begin_of main l.starts h u ≡ Some f → NotStuck l.object l.naming (replayed l.object l.object.first h) u q
    one_end h u q talk legal f begun = subst (λ a. NotStuck l.object l.naming (replayed l.object l.object.first h) u a) here (talks_not_stuck h end legal.replays (λ v. by_thread v (v == u) refl) u f begun)
      where
        end : ℕ → Act M T R Y F
        end v = if v == u then q else (end_of_talk (begin_of main l.starts h v) (part v h) (legal.talks v)).0

        here : (if u == u then q else (end_of_talk (begin_of main l.starts h u) (part u h) (legal.talks u)).0) ≡ q
        here = let t : (u == u) ≡ true = eq-eqb u u refl in rw t refl

        by_thread : (v : ℕ) (b : Bool) → (v == u) ≡ b → TalksTo (begin_of main l.starts h v) (part v h) (if b then q else (end_of_talk (begin_of main l.starts h v) (part v h) (legal.talks v)).0)
        by_thread v true e = subst (λ w. TalksTo (begin_of main l.starts h w) (part w h) q) (sym (eqb-true v u e)) talk
        by_thread v false e = (end_of_talk (begin_of main l.starts h v) (part v h) (legal.talks v)).1

    its_talk : (o : Option F) (f : F) (es : List (Exchange R Y)) (q : Act M T R Y F) → o ≡ Some f → Talk l.naming l.meaning (Next f) es q → TalksTo o es q
    its_talk o f es q e t = subst (λ z. TalksTo z es q) (sym e) t

    -- No begun thread of a legal history is ever stuck.
    pub never_stuck : NeverStuck l.object l.naming l.meaning begin_process
    never_stuck = record {
      goes_on = λ h legal u p begun q talk. (ends h legal u p begun q talk).goes;
      taken = λ h legal u p begun r k talk. (ends h legal u p begun (Ask r k) talk).proper r k refl;
    }
      where
        ends : (h : List (Event R Y)) → Legal l.object l.naming l.meaning begin_process h → (u : ℕ) (p : Act M T R Y F) → as_process (begin_of main l.starts h u) ≡ Some p → (q : Act M T R Y F) → Talk l.naming l.meaning p (part u h) q → NotStuck l.object l.naming (replayed l.object l.object.first h) u q
        ends h legal u p begun q talk =
            let k = as_process-some (begin_of main l.starts h u) p begun in
            one_end h u q (its_talk (begin_of main l.starts h u) k.0 (part u h) q k.1 (subst (λ a. Talk l.naming l.meaning a (part u h) q) (sym k.2) talk)) legal k.0 k.1

-- While a thread lives in the store, its process isn't over: after a legal history of any program.
use Rattle.std.proofs.Common.{◌≡◌, ◌∙◌, ◌⊎◌, ⊎_elim, ℕ, ◌<◌, Bool, true, false, not, ◌&&◌, List, [], ◌∷◌, length, Option, Some, None, refl, sym, ap, subst, arith, eqb-true}
use Rattle.std.specs.Prelude.{◌==◌, if◌then◌else◌, slice_get}
use Rattle.type_tree.specs.declared.tree.TExpr.{TExpr}
use Rattle.il_model.specs.declared.program.Program.{Program}
use Rattle.interaction.specs.declared.history.Event.{Event}
use Rattle.interaction.specs.Process.{Naming, Exchange, Over, rests, begins, settles, spells, asks}
use Rattle.interaction.specs.Object.{Answers, Replays, replayed, is_active}
use Rattle.interaction.specs.History.{part, exchange_of}
use Rattle.interaction.specs.Starts.{begin_of}
use Rattle.interaction.proofs.Starting.{as_process-some}
use Rattle.store_object.specs.declared.request.Request.{Request}
use Rattle.store_object.specs.declared.request.Request.TheVariants as ask
use Rattle.store_object.specs.declared.request.Cause.{Cause}
use Rattle.store_object.specs.declared.reply.Reply.{Reply}
use Rattle.store_object.specs.declared.reply.Reply.TheVariants as says
use Rattle.store_object.specs.Store.{Store, is_live}
use Rattle.store_object.specs.Answer.{ended_reply, answer, served}
use Rattle.store_object.specs.Replay.{store, is_halted, is_improper}
use Rattle.store_object.proofs.StoreLaws.{on_answer, on_allocated, on_started, asks_alive, lives_below, threads_kept, finished_stays, finish_ends, end_stays}
use Rattle.cil_meaning.specs.Naming.{Mention}
use Rattle.cil_meaning.specs.Replies.{Left}
use Rattle.cil_meaning.specs.Threads.{begin, starts, main_frames}
use Rattle.cil_meaning.specs.Language.{Talk, Legal}
use Rattle.cil_safety.proofs.Lasting.{Ends, finishes, falls, stops, Lasts}
use Rattle.cil_safety.proofs.LastingForms.{meaning_lasts}

-- ---- the store, where a request ends a thread or the run

stopped_over : (s : Store) (t : ℕ) (r : Request) (why : Cause) → (answer s t r).0 ≡ says.Stopped why → (answer s t r).1.is_over ≡ true
stopped_over s t r why = on_answer (λ (a : Reply × Store). a.0 ≡ says.Stopped why → a.1.is_over ≡ true) s t r (λ e. absurd (cc e)) (λ fits. by_request r) (λ e. absurd (cc e))
  where
    by_option : (o : Option Bool) → ended_reply o ≡ says.Stopped why → ⊥
    by_option None e = cc e
    by_option (Some b) e = cc e

    by_request : (r : Request) → (served s t r).0 ≡ says.Stopped why → (served s t r).1.is_over ≡ true
    by_request (ask.Alloc kind count words) e = on_allocated (λ (a : Reply × Store). a.0 ≡ says.Stopped why → a.1.is_over ≡ true) s (record { kind = kind; length = count; words = words }) (λ f. refl) (λ f. absurd (cc f)) e
    by_request (ask.TypeOf object) e = absurd (cc e)
    by_request (ask.Length object) e = absurd (cc e)
    by_request (ask.Load place) e = absurd (cc e)
    by_request (ask.Save place word) e = absurd (cc e)
    by_request (ask.Exchange place word) e = absurd (cc e)
    by_request (ask.CompareExchange place word comparand) e = absurd (cc e)
    by_request (ask.Add place word narrow) e = absurd (cc e)
    by_request (ask.Print form word) e = absurd (cc e)
    by_request (ask.Start object) e = on_started (λ (a : Reply × Store). a.0 ≡ says.Stopped why → a.1.is_over ≡ true) s (λ f. absurd (cc f)) (λ f. refl) e
    by_request (ask.Ended other) e = absurd (by_option (slice_get s.finished other) e)
    by_request ask.Finish e = absurd (cc e)
    by_request (ask.Fall kind) e = absurd (cc e)
    by_request (ask.Stop why') e = refl

-- a thread that isn't halted or refused is served
served_so : (s : Store) (t : ℕ) (r : Request) → is_halted (answer s t r).0 ≡ false → is_improper (answer s t r).0 ≡ false → answer s t r ≡ served s t r
served_so s t r goes proper = on_answer (λ (a : Reply × Store). is_halted a.0 ≡ false → is_improper a.0 ≡ false → a ≡ served s t r) s t r (λ e f. absurd (cc e)) (λ fits e f. refl) (λ e f. absurd (cc f)) goes proper

not_active_over : (s : Store) (u : ℕ) → s.is_over ≡ true → is_active store s u ≡ false
not_active_over s u e = ap (λ b. not b && is_live s u) e

not_active_dead : (s : Store) (u : ℕ) → is_live s u ≡ false → is_active store s u ≡ false
not_active_dead s u e = ap (λ b. not s.is_over && b) e ∙ and_false (not s.is_over)
  where
    and_false : (b : Bool) → (b && false) ≡ false
    and_false true = refl
    and_false false = refl

answered_goes : (s : Store) (u : ℕ) (r : Request) (y : Reply) → Answers store s u r y → (is_halted (answer s u r).0 ≡ false) × (is_improper (answer s u r).0 ≡ false)
answered_goes s u r y a = (ap is_halted a.given ∙ a.goes_on, ap is_improper a.given ∙ a.proper)

pub ended_inactive : (s : Store) (u : ℕ) (r : Request) (y : Reply) → Answers store s u r y → Ends r y → is_active store (answer s u r).1 u ≡ false
ended_inactive s u r y a finishes =
    let g = answered_goes s u ask.Finish says.Done a in
    let lives : is_live s u ≡ true = asks_alive s u ask.Finish g.0 g.1 in
    not_active_dead (answer s u ask.Finish).1 u (ap (λ (x : Reply × Store). is_live x.1 u) (served_so s u ask.Finish g.0 g.1) ∙ finish_ends s u lives)
ended_inactive s u r y a (falls {kind = kind}) =
    let g = answered_goes s u (ask.Fall kind) says.Done a in
    not_active_over (answer s u (ask.Fall kind)).1 u (ap (λ (x : Reply × Store). x.1.is_over) (served_so s u (ask.Fall kind) g.0 g.1))
ended_inactive s u r y a (stops {why = why}) = not_active_over (answer s u r).1 u (stopped_over s u r why a.given)

pub ended_stays : (x : Store) (u t : ℕ) (r : Request) (y : Reply) → u < length x.finished → Answers store x t r y → is_active store x u ≡ false → is_active store (answer x t r).1 u ≡ false
ended_stays x u t r y below a e = by_over x.is_over refl (is_live x u) refl e
  where
    by_over : (b : Bool) → x.is_over ≡ b → (c : Bool) → is_live x u ≡ c → (not b && c) ≡ false → is_active store (answer x t r).1 u ≡ false
    by_over true is c lives f = not_active_over (answer x t r).1 u (end_stays x t r is)
    by_over false is true lives f = absurd (cc f)
    by_over false is false lives f = not_active_dead (answer x t r).1 u (finished_stays x t u r below lives)

-- ---- a talk, and the history that it is a part of

module _ (p : Program) (n : Naming Mention TExpr) where
  -- what is left lasts, or the thread is over and ended in the store
  pub data Stays (x : Store) (u : ℕ) (q : Left) : Type 0 where
    lasts : Lasts q → Stays x u q
    ended : q ≡ Over → u < length x.finished → is_active store x u ≡ false → Stays x u q

  -- without a request what lasts goes on so, and what is over stays
  quiet_lasts : {a q : Left} {es : List (Exchange Request Reply)} → Talk p n a es q → es ≡ [] → Lasts a → Lasts q
  quiet_lasts rests e l = l
  quiet_lasts (begins {f = f} t) e l = quiet_lasts t e (meaning_lasts p f)
  quiet_lasts (settles {v = v} is t) e l = quiet_lasts t e (l v)
  quiet_lasts (spells {t = a} is t) e l = quiet_lasts t e (l a)
  quiet_lasts (asks t) e l = absurd (cc e)

  over_talks : {a q : Left} {es : List (Exchange Request Reply)} → Talk p n a es q → a ≡ Over → (q ≡ Over) × (es ≡ [])
  over_talks rests e = (e, refl)
  over_talks (begins t) e = absurd (cc e)
  over_talks (settles is t) e = absurd (cc e)
  over_talks (spells is t) e = absurd (cc e)
  over_talks (asks t) e = absurd (cc e)

  -- the request at which a talk goes on, and what its reply leaves
  record Spoke (e : Exchange Request Reply) (es : List (Exchange Request Reply)) (q : Left) : Type 0 where
    left : Left
    lasts : (Ends e.request e.reply × (left ≡ Over)) ⊎ Lasts left
    talk : Talk p n left es q

  first_request : {a q : Left} {all : List (Exchange Request Reply)} (e : Exchange Request Reply) (es : List (Exchange Request Reply)) → Talk p n a all q → all ≡ e ∷ es → Lasts a → Spoke e es q
  first_request e es rests is l = absurd (cc is)
  first_request e es (begins {f = f} t) is l = first_request e es t is (meaning_lasts p f)
  first_request e es (settles {v = v} named t) is l = first_request e es t is (l v)
  first_request e es (spells {t = a} named t) is l = first_request e es t is (l a)
  first_request {q = q} e es (asks {r = r} {k = k} {y = y} {es = rest} t) is l =
      let here : record { request = r; reply = y } ≡ e = first_same is in
      let there : rest ≡ es = rest_same is in
      subst (λ z. Spoke z es q) here (record { left = k y; lasts = l y; talk = subst (λ z. Talk p n (k y) z q) there t })
    where
      first_same : {x z : Exchange Request Reply} {xs zs : List (Exchange Request Reply)} → x ∷ xs ≡ z ∷ zs → x ≡ z
      first_same i = cc i

      rest_same : {x z : Exchange Request Reply} {xs zs : List (Exchange Request Reply)} → x ∷ xs ≡ z ∷ zs → xs ≡ zs
      rest_same i = cc i

  still : (x : Store) (t u : ℕ) (r : Request) (y : Reply) (q : Left) → Answers store x t r y → Stays x u q → Stays (answer x t r).1 u q
  still x t u r y q a (lasts l) = lasts l
  still x t u r y q a (ended e below dead) = ended e (let more = threads_kept x t r in omega (arith, below, more)) (ended_stays x u t r y below a dead)

  along : (x : Store) (h : List (Event Request Reply)) (u : ℕ) (a q : Left) → Replays store x h → Stays x u a → Talk p n a (part u h) q → Stays (replayed store x h) u q
  along x [] u a q replays (lasts l) talk = lasts (quiet_lasts talk refl l)
  along x [] u a q replays (ended e below dead) talk = ended (over_talks talk e).0 below dead
  along x (c ∷ h) u a q replays s talk = by_thread (c.thread == u) refl s talk (λ b st t. along (answer x c.thread c.request).1 h u b q replays.1 st t)
    where
      by_thread : (b : Bool) → (c.thread == u) ≡ b → Stays x u a → Talk p n a (if b then exchange_of c ∷ part u h else part u h) q →
          ((b' : Left) → Stays (answer x c.thread c.request).1 u b' → Talk p n b' (part u h) q → Stays (replayed store (answer x c.thread c.request).1 h) u q) → Stays (replayed store (answer x c.thread c.request).1 h) u q
      by_thread false other st t go = go a (still x c.thread u c.request c.reply a replays.0 st) t
      by_thread true same (ended e below dead) t go = absurd (let none : exchange_of c ∷ part u h ≡ [] = (over_talks t e).1 in cc none)
      by_thread true same (lasts l) t go =
          let f = first_request (exchange_of c) (part u h) t refl l in
          let is : c.thread ≡ u = eqb-true c.thread u same in
          let mine : Answers store x u c.request c.reply = subst (λ z. Answers store x z c.request c.reply) is replays.0 in
          let g = answered_goes x u c.request c.reply mine in
          let below : u < length x.finished = lives_below x u (asks_alive x u c.request g.0 g.1) in
          let here : (answer x u c.request).1 ≡ (answer x c.thread c.request).1 = ap (λ z. (answer x z c.request).1) (sym is) in
          go f.left (subst (λ z. Stays z u f.left) here (⊎_elim
          (λ e. ended e.1 (let more = threads_kept x u c.request in omega (arith, below, more)) (ended_inactive x u c.request c.reply mine e.0))
          (λ k. lasts k) f.lasts)) f.talk

  -- while the thread lives, what is left of it is not over
  pub lives_on : (h : List (Event Request Reply)) → Legal p n h → (u : ℕ) (from left : Left) → begin p h u ≡ Some from → Talk p n from (part u h) left → is_active store (replayed store store.first h) u ≡ true → left ≡ Over → ⊥
  lives_on h legal u from left begun talk lives over =
      let k = as_process-some (begin_of (main_frames p) (starts p) h u) from begun in
      by_stays (along store.first h u from left legal.replays (lasts (subst Lasts k.2 tt)) talk)
    where
      by_stays : Stays (replayed store store.first h) u left → ⊥
      by_stays (lasts l) = subst Lasts over l
      by_stays (ended e below dead) = cc (lives, dead)

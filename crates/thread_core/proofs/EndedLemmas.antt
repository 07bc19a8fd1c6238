-- A request that ends a thread or the run leaves the thread inactive, and so it stays.
use Rattle.std.proofs.Common.{◌≡◌, ◌∙◌, ℕ, ◌<◌, Bool, true, false, not, ◌&&◌, length, Option, Some, None, refl, ap}
use Rattle.std.specs.Prelude.{slice_get}
use Rattle.interaction.specs.Object.{Answers, is_active}
use Rattle.store_object.specs.declared.request.Request.{Request}
use Rattle.store_object.specs.declared.request.Request.TheVariants as ask
use Rattle.store_object.specs.declared.request.Cause.{Cause}
use Rattle.store_object.specs.declared.reply.Reply.{Reply}
use Rattle.store_object.specs.declared.reply.Reply.TheVariants as says
use Rattle.store_object.specs.Store.{Store, is_live}
use Rattle.store_object.specs.Answer.{ended_reply, answer, served}
use Rattle.store_object.specs.Replay.{store, is_halted, is_improper}
use Rattle.store_object.proofs.StoreLaws.{on_answer, on_allocated, on_started, asks_alive, finished_stays, finish_ends, end_stays}

-- a request that is a thread's last one
pub data IsLast : Request → Reply → Type 0 where
  finishes : {y : Reply} → IsLast ask.Finish y
  stops : {why : Cause} {y : Reply} → IsLast (ask.Stop why) y
  limited : {r : Request} {why : Cause} → IsLast r (says.Stopped why)

stopped_over : (s : Store) (t : ℕ) (r : Request) (why : Cause) → (answer s t r).0 ≡ says.Stopped why → (answer s t r).1.is_over ≡ true
stopped_over s t r why = on_answer (λ (a : Reply × Store). a.0 ≡ says.Stopped why → a.1.is_over ≡ true) s t r (λ e. absurd (cc e)) (λ fits. by_request r) (λ e. absurd (cc e))
  where
    by_option : (o : Option Bool) → ended_reply o ≡ says.Stopped why → ⊥
    by_option None e = cc e
    by_option (Some b) e = cc e

    by_request : (r : Request) → (served s t r).0 ≡ says.Stopped why → (served s t r).1.is_over ≡ true
    by_request (ask.Alloc kind count words) e = on_allocated (λ (a : Reply × Store). a.0 ≡ says.Stopped why → a.1.is_over ≡ true) s (record { kind = kind; length = count; words = words }) (λ f. refl) (λ f. absurd (cc f)) e
    by_request (ask.TypeOf object) e = absurd (cc e)
    by_request (ask.Length object) e = absurd (cc e)
    by_request (ask.Load place) e = absurd (cc e)
    by_request (ask.Save place word) e = absurd (cc e)
    by_request (ask.Exchange place word) e = absurd (cc e)
    by_request (ask.CompareExchange place word comparand) e = absurd (cc e)
    by_request (ask.Add place word narrow) e = absurd (cc e)
    by_request (ask.Print form word) e = absurd (cc e)
    by_request (ask.Start object) e = on_started (λ (a : Reply × Store). a.0 ≡ says.Stopped why → a.1.is_over ≡ true) s (λ f. absurd (cc f)) (λ f. refl) e
    by_request (ask.Ended other) e = absurd (by_option (slice_get s.finished other) e)
    by_request ask.Finish e = absurd (cc e)
    by_request (ask.Fall kind) e = absurd (cc e)
    by_request (ask.Stop why') e = refl

-- a thread that isn't halted or refused is served
served_so : (s : Store) (t : ℕ) (r : Request) → is_halted (answer s t r).0 ≡ false → is_improper (answer s t r).0 ≡ false → answer s t r ≡ served s t r
served_so s t r goes proper = on_answer (λ (a : Reply × Store). is_halted a.0 ≡ false → is_improper a.0 ≡ false → a ≡ served s t r) s t r (λ e f. absurd (cc e)) (λ fits e f. refl) (λ e f. absurd (cc f)) goes proper

not_active_over : (s : Store) (u : ℕ) → s.is_over ≡ true → is_active store s u ≡ false
not_active_over s u e = ap (λ b. not b && is_live s u) e

not_active_dead : (s : Store) (u : ℕ) → is_live s u ≡ false → is_active store s u ≡ false
not_active_dead s u e = ap (λ b. not s.is_over && b) e ∙ and_false (not s.is_over)
  where
    and_false : (b : Bool) → (b && false) ≡ false
    and_false true = refl
    and_false false = refl

answered_goes : (s : Store) (u : ℕ) (r : Request) (y : Reply) → Answers store s u r y → (is_halted (answer s u r).0 ≡ false) × (is_improper (answer s u r).0 ≡ false)
answered_goes s u r y a = (ap is_halted a.given ∙ a.goes_on, ap is_improper a.given ∙ a.proper)

pub last_inactive : (s : Store) (u : ℕ) (r : Request) (y : Reply) → Answers store s u r y → IsLast r y → is_active store (answer s u r).1 u ≡ false
last_inactive s u r y a (finishes {y = z}) =
    let g = answered_goes s u ask.Finish z a in
    let lives : is_live s u ≡ true = asks_alive s u ask.Finish g.0 g.1 in
    not_active_dead (answer s u ask.Finish).1 u (ap (λ (x : Reply × Store). is_live x.1 u) (served_so s u ask.Finish g.0 g.1) ∙ finish_ends s u lives)
last_inactive s u r y a (stops {why = why} {y = z}) =
    let g = answered_goes s u (ask.Stop why) z a in
    not_active_over (answer s u (ask.Stop why)).1 u (ap (λ (x : Reply × Store). x.1.is_over) (served_so s u (ask.Stop why) g.0 g.1))
last_inactive s u r y a (limited {why = why}) = not_active_over (answer s u r).1 u (stopped_over s u r why a.given)

pub inactive_stays : (x : Store) (u t : ℕ) (r : Request) → u < length x.finished → is_active store x u ≡ false → is_active store (answer x t r).1 u ≡ false
inactive_stays x u t r below e = by_over x.is_over refl (is_live x u) refl e
  where
    by_over : (b : Bool) → x.is_over ≡ b → (c : Bool) → is_live x u ≡ c → (not b && c) ≡ false → is_active store (answer x t r).1 u ≡ false
    by_over true is c lives f = not_active_over (answer x t r).1 u (end_stays x t r is)
    by_over false is true lives f = absurd (cc f)
    by_over false is false lives f = not_active_dead (answer x t r).1 u (finished_stays x t u r below lives)

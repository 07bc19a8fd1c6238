-- Which requests start threads, and how many threads there are then.
use Rattle.std.proofs.Common.{◌≡◌, ◌∙◌, ℕ, suc, length, Some, None, refl, sym, ap}
use Rattle.store_object.specs.declared.request.Request.{Request}
use Rattle.store_object.specs.declared.request.Request.TheVariants as ask
use Rattle.store_object.specs.declared.reply.Reply.{Reply}
use Rattle.store_object.specs.declared.reply.Reply.TheVariants as says
use Rattle.store_object.specs.Store.{Store}
use Rattle.store_object.specs.Answer.{answer}
use Rattle.store_object.proofs.StoreLaws.{starts_next, starts_none}
use Rattle.rgctx_fill.specs.ThreadStates.{ImageData, ThreadData}
use Rattle.thread_core.specs.Starts.{started_thread, started_by, starts}

-- a start of the thread of a number, in this state
pub record Begins (im : ImageData) (r : Request) (y : Reply) (b : ℕ × ThreadData) : Type 0 where
  pub object : ℕ
  pub request_is : r ≡ ask.Start object
  pub reply_is : y ≡ says.Thread b.0
  pub state_is : b.1 ≡ started_thread im object

by_reply : (im : ImageData) (object : ℕ) (y : Reply) (b : ℕ × ThreadData) → started_by im object y ≡ Some b → Begins im (ask.Start object) y b
by_reply im object (says.Object number) b e = absurd (cc e)
by_reply im object (says.Kind number) b e = absurd (cc e)
by_reply im object (says.Word word) b e = absurd (cc e)
by_reply im object (says.Thread number) b e =
    let pair : (number, started_thread im object) ≡ b = cc e in
    record { object = object; request_is = refl; reply_is = ap (λ (q : ℕ × ThreadData). says.Thread q.0) pair; state_is = ap (λ (q : ℕ × ThreadData). q.1) (sym pair) }
by_reply im object (says.Ended has_finished) b e = absurd (cc e)
by_reply im object says.Unknown b e = absurd (cc e)
by_reply im object says.Done b e = absurd (cc e)
by_reply im object (says.Stopped why) b e = absurd (cc e)
by_reply im object says.Halted b e = absurd (cc e)
by_reply im object says.Improper b e = absurd (cc e)

pub starts_says : (im : ImageData) (r : Request) (y : Reply) (b : ℕ × ThreadData) → starts im r y ≡ Some b → Begins im r y b
starts_says im (ask.Alloc kind count words) y b e = absurd (cc e)
starts_says im (ask.TypeOf object) y b e = absurd (cc e)
starts_says im (ask.Length object) y b e = absurd (cc e)
starts_says im (ask.Load place) y b e = absurd (cc e)
starts_says im (ask.Save place word) y b e = absurd (cc e)
starts_says im (ask.Exchange place word) y b e = absurd (cc e)
starts_says im (ask.CompareExchange place word comparand) y b e = absurd (cc e)
starts_says im (ask.Add place word narrow) y b e = absurd (cc e)
starts_says im (ask.Print form word) y b e = absurd (cc e)
starts_says im (ask.Start object) y b e = by_reply im object y b e
starts_says im (ask.Ended thread) y b e = absurd (cc e)
starts_says im ask.Finish y b e = absurd (cc e)
starts_says im (ask.Fall kind) y b e = absurd (cc e)
starts_says im (ask.Stop why) y b e = absurd (cc e)

-- as many threads as before
pub count_none : (im : ImageData) (s : Store) (t : ℕ) (r : Request) → starts im r (answer s t r).0 ≡ None → length (answer s t r).1.finished ≡ length s.finished
count_none im s t r none = starts_none s t r no_thread
  where
    no_thread : (m : ℕ) → (answer s t r).0 ≡ says.Thread m → ⊥
    no_thread m e =
        let start = starts_next s t r m e in
        let one : starts im r (answer s t r).0 ≡ Some (m, started_thread im start.object) = ap (λ q. starts im q (answer s t r).0) start.request ∙ ap (starts im (ask.Start start.object)) e in
        cc (one, none)

-- one more, the next
pub count_one : (im : ImageData) (s : Store) (t : ℕ) (r : Request) (b : ℕ × ThreadData) → starts im r (answer s t r).0 ≡ Some b → (b.0 ≡ length s.finished) × (length (answer s t r).1.finished ≡ suc (length s.finished))
count_one im s t r b one =
    let begins = starts_says im r (answer s t r).0 b one in
    let start = starts_next s t r b.0 begins.reply_is in
    (start.number, start.count)

-- Which requests start threads, and how many threads there are then.
use Rattle.std.proofs.Common.{◌≡◌, ◌∙◌, ℕ, suc, length, Some, None, refl, sym, ap}
use Rattle.il_model.specs.declared.program.Program.{Program}
use Rattle.store_object.specs.declared.request.Request.{Request}
use Rattle.store_object.specs.declared.request.Request.TheVariants as ask
use Rattle.store_object.specs.declared.reply.Reply.{Reply}
use Rattle.store_object.specs.declared.reply.Reply.TheVariants as says
use Rattle.store_object.specs.Store.{Store}
use Rattle.store_object.specs.Answer.{answer}
use Rattle.store_object.proofs.StoreLaws.{starts_next, starts_none}
use Rattle.cil_meaning.specs.Frames.{Frames}
use Rattle.cil_meaning.specs.Threads.{started_frames, started_by, starts}

-- a start of the thread of a number, in these frames
pub record Begins (p : Program) (r : Request) (y : Reply) (b : ℕ × Frames) : Type 0 where
  pub object : ℕ
  pub request_is : r ≡ ask.Start object
  pub reply_is : y ≡ says.Thread b.0
  pub frames_are : b.1 ≡ started_frames p object

by_reply : (p : Program) (object : ℕ) (y : Reply) (b : ℕ × Frames) → started_by p object y ≡ Some b → Begins p (ask.Start object) y b
by_reply p object (says.Object number) b e = absurd (cc e)
by_reply p object (says.Kind number) b e = absurd (cc e)
by_reply p object (says.Word word) b e = absurd (cc e)
by_reply p object (says.Thread number) b e =
    let pair : (number, started_frames p object) ≡ b = cc e in
    record { object = object; request_is = refl; reply_is = ap (λ (q : ℕ × Frames). says.Thread q.0) pair; frames_are = ap (λ (q : ℕ × Frames). q.1) (sym pair) }
by_reply p object (says.Ended has_finished) b e = absurd (cc e)
by_reply p object says.Unknown b e = absurd (cc e)
by_reply p object says.Done b e = absurd (cc e)
by_reply p object (says.Stopped why) b e = absurd (cc e)
by_reply p object says.Halted b e = absurd (cc e)
by_reply p object says.Improper b e = absurd (cc e)

pub starts_says : (p : Program) (r : Request) (y : Reply) (b : ℕ × Frames) → starts p r y ≡ Some b → Begins p r y b
starts_says p (ask.Alloc kind count words) y b e = absurd (cc e)
starts_says p (ask.TypeOf object) y b e = absurd (cc e)
starts_says p (ask.Length object) y b e = absurd (cc e)
starts_says p (ask.Load place) y b e = absurd (cc e)
starts_says p (ask.Save place word) y b e = absurd (cc e)
starts_says p (ask.Exchange place word) y b e = absurd (cc e)
starts_says p (ask.CompareExchange place word comparand) y b e = absurd (cc e)
starts_says p (ask.Add place word narrow) y b e = absurd (cc e)
starts_says p (ask.Print form word) y b e = absurd (cc e)
starts_says p (ask.Start object) y b e = by_reply p object y b e
starts_says p (ask.Ended thread) y b e = absurd (cc e)
starts_says p ask.Finish y b e = absurd (cc e)
starts_says p (ask.Fall kind) y b e = absurd (cc e)
starts_says p (ask.Stop why) y b e = absurd (cc e)

-- as many threads as before
pub count_none : (p : Program) (s : Store) (t : ℕ) (r : Request) → starts p r (answer s t r).0 ≡ None → length (answer s t r).1.finished ≡ length s.finished
count_none p s t r none = starts_none s t r no_thread
  where
    no_thread : (m : ℕ) → (answer s t r).0 ≡ says.Thread m → ⊥
    no_thread m e =
        let start = starts_next s t r m e in
        let one : starts p r (answer s t r).0 ≡ Some (m, started_frames p start.object) = ap (λ q. starts p q (answer s t r).0) start.request ∙ ap (starts p (ask.Start start.object)) e in
        cc (one, none)

-- one more, the next
pub count_one : (p : Program) (s : Store) (t : ℕ) (r : Request) (b : ℕ × Frames) → starts p r (answer s t r).0 ≡ Some b → (b.0 ≡ length s.finished) × (length (answer s t r).1.finished ≡ suc (length s.finished))
count_one p s t r b one =
    let begins = starts_says p r (answer s t r).0 b one in
    let start = starts_next s t r b.0 begins.reply_is in
    (start.number, start.count)

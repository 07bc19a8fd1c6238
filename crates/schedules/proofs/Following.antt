-- What the store's answer does to the threads.
use Rattle.std.proofs.Common.{◌≡◌, ◌∙◌, ℕ, Bool, true, false, ◌&&◌, length, Option, Some, None, if◌then◌else◌, slice_get, ◌+◌, ◌==◌, refl, sym, ap}
use Rattle.store_object.specs.declared.request.Request.{Request}
use Rattle.store_object.specs.declared.request.Request.TheVariants as ask
use Rattle.store_object.specs.declared.request.Cause.TheVariants as cause
use Rattle.store_object.specs.declared.place.Place.{Place}
use Rattle.store_object.specs.declared.place.Place.TheVariants as at
use Rattle.store_object.specs.declared.reply.Reply.{Reply}
use Rattle.store_object.specs.declared.reply.Reply.TheVariants as says
use Rattle.store_object.specs.Store.{Store, Shape, is_live, word_at, with_word, with_object, with_thread, ended}
use Rattle.store_object.specs.Answer.{answer, served, is_named, ended_reply}
use Rattle.schedules.specs.declared.started.Started.{Started}
use Rattle.schedules.specs.Living.{HasStarted, change_of, finished_after, over_after}

record Follows (s : Store) (t : ℕ) (r : Request) (a : Reply × Store) : Type 0 where
  finished : a.1.finished ≡ finished_after (change_of r a.0) t s.finished
  over : a.1.is_over ≡ over_after (change_of r a.0) s.is_over

alloc_follows : (b : Bool) (s : Store) (t kind count words : ℕ) (shape : Shape) → Follows s t (ask.Alloc kind count words) (if b then (says.Stopped cause.Heap, ended s) else (says.Object (length s.shapes + 1), with_object s shape))
alloc_follows true s t kind count words shape = record { finished = refl; over = refl }
alloc_follows false s t kind count words shape = record { finished = refl; over = refl }

start_follows : (b : Bool) (s : Store) (t object : ℕ) → Follows s t (ask.Start object) (if b then (says.Thread (length s.finished), with_thread s) else (says.Stopped cause.Threads, ended s))
start_follows true s t object = record { finished = refl; over = refl }
start_follows false s t object = record { finished = refl; over = refl }

ended_follows : (o : Option Bool) (s : Store) (t other : ℕ) → Follows s t (ask.Ended other) (ended_reply o, s)
ended_follows None s t other = record { finished = refl; over = refl }
ended_follows (Some b) s t other = record { finished = refl; over = refl }

compare_follows : (b : Bool) (s : Store) (t : ℕ) (r : Request) (w : ℕ) (new : Store) → new.finished ≡ s.finished → new.is_over ≡ s.is_over → Follows s t r (says.Word w, if b then new else s)
compare_follows true s t r w new same also = record { finished = same; over = also }
compare_follows false s t r w new same also = record { finished = refl; over = refl }

same_finished : (s : Store) (place : Place) (w : ℕ) → (with_word s place w).finished ≡ s.finished
same_finished s (at.Object object index) w = refl
same_finished s (at.Fixed kind index) w = refl

same_over : (s : Store) (place : Place) (w : ℕ) → (with_word s place w).is_over ≡ s.is_over
same_over s (at.Object object index) w = refl
same_over s (at.Fixed kind index) w = refl

serves : (s : Store) (t : ℕ) (r : Request) → Follows s t r (served s t r)
serves s t (ask.Alloc kind count words) = alloc_follows _ s t kind count words _
serves s t (ask.TypeOf object) = record { finished = refl; over = refl }
serves s t (ask.Length object) = record { finished = refl; over = refl }
serves s t (ask.Load place) = record { finished = refl; over = refl }
serves s t (ask.Save place word) = record { finished = same_finished s place _; over = same_over s place _ }
serves s t (ask.Exchange place word) = record { finished = same_finished s place _; over = same_over s place _ }
serves s t (ask.CompareExchange place word comparand) = compare_follows (word_at s place == comparand) s t (ask.CompareExchange place word comparand) (word_at s place) (with_word s place word) (same_finished s place word) (same_over s place word)
serves s t (ask.Add place word narrow) = record { finished = same_finished s place _; over = same_over s place _ }
serves s t (ask.Print form word) = record { finished = refl; over = refl }
serves s t (ask.Start object) = start_follows _ s t object
serves s t (ask.Ended other) = ended_follows (slice_get s.finished other) s t other
serves s t ask.Finish = record { finished = refl; over = refl }
serves s t (ask.Fall kind) = record { finished = refl; over = refl }
serves s t (ask.Stop why) = record { finished = refl; over = refl }

by_named : (b : Bool) (s : Store) (t : ℕ) (r : Request) → Follows s t r (if b then served s t r else (says.Improper, s))
by_named true s t r = serves s t r
by_named false s t r = record { finished = refl; over = refl }

by_over : (b : Bool) (s : Store) (t : ℕ) (r : Request) → Follows s t r (if b then (says.Halted, s) else (if is_live s t && is_named s r then served s t r else (says.Improper, s)))
by_over true s t r = record { finished = refl; over = refl }
by_over false s t r = by_named (is_live s t && is_named s r) s t r

pub followed_by : (old new : Started) (s : Store) (t : ℕ) (r : Request) (y : Reply) → HasStarted old s → (answer s t r).0 ≡ y → new.finished.items ≡ finished_after (change_of r y) t old.finished.items →
    new.is_over ≡ over_after (change_of r y) old.is_over → HasStarted new (answer s t r).1
followed_by old new s t r y has is finished over =
    let f = by_over s.is_over s t r in
    record {
      finished = finished ∙ ap (λ z. finished_after (change_of r z) t old.finished.items) (sym is) ∙ ap (finished_after (change_of r (answer s t r).0) t) has.finished ∙ sym f.finished;
      over = over ∙ ap (λ z. over_after (change_of r z) old.is_over) (sym is) ∙ ap (over_after (change_of r (answer s t r).0)) has.over ∙ sym f.over;
    }

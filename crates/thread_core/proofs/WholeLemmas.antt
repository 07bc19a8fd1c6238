-- What a record of a run says, from where the code has come.
use Rattle.std.proofs.Common.{◌≡◌, ◌∙◌, ℕ, zero, suc, ◌≤◌, List, [], ◌∷◌, length, take, drop, None, refl, sym, ap, subst, arith}
use Rattle.std.specs.Prelude.{filter_map, slice_index}
use Rattle.std.specs.List.{last_or}
use Rattle.interaction.specs.Object.{live_threads}
use Rattle.interaction.specs.Run.{World, Outcome, run_from, run, used_up, claims_in}
use Rattle.interaction.specs.Run as running
use Rattle.rgctx_words.specs.Places.{place_of}
use Rattle.rgctx_fill.specs.ThreadStates.{ImageData, ThreadData}
use Rattle.schedules.specs.Ends.{ended_by}
use Rattle.schedules.specs.Numbers.{numbers}
use Rattle.store_object.specs.declared.ending.Chooser.{Chooser}
use Rattle.store_object.specs.declared.ending.Ending.{Ending}
use Rattle.store_object.specs.declared.request.Request.{Request}
use Rattle.store_object.specs.declared.reply.Reply.{Reply}
use Rattle.store_object.specs.Store.{Store}
use Rattle.store_object.specs.Replay.{store, replayed}
use Rattle.thread_core.specs.declared.progress.Progress.{Progress as ProgressHere}
use Rattle.thread_core.specs.declared.whole.ImageRun.{ImageRun as RunHere}
use Rattle.thread_core.specs.Reached.{IsAt, HasEnded}
use Rattle.thread_core.specs.Runs.{opening_words, machine_of, image_run, last_ending, fill_in, note_at, fills_of, draws_of, IsRun}
use Rattle.thread_core.proofs.FillNotes.{fills-listed}

-- what the record says of a run that ends here
pub run_by : (im : ImageData) (chooser : Chooser) (turns made : ℕ) (r : ProgressHere) (e : Ending) (m : RunHere) → HasEnded im (numbers chooser turns) made r e
    → m.schedule.items ≡ r.schedule.items → m.turns.items ≡ r.turns.items → m.history.items ≡ r.world.history → m.fills.items ≡ filter_map (note_at r.words.words) r.words.claimed → m.words.items ≡ r.words.words → m.ending ≡ e
    → IsRun im (numbers chooser turns) (image_run im chooser turns) m.schedule.items m.turns.items m.history.items m.fills.items m.words.items m.ending
run_by im chooser turns made r e m h schedule noted history fills words ending =
    subst (λ (o : Outcome Request Reply ThreadData Store). IsRun im (numbers chooser turns) o m.schedule.items m.turns.items m.history.items m.fills.items m.words.items m.ending) (sym h.whole)
    (record {
      schedule_is = schedule ∙ h.schedule ∙ ap (λ n. take (draws_of h.ending n) (numbers chooser turns)) (sym h.count);
      turns_are = noted ∙ sym h.turns_are;
      history_is = history ∙ sym h.history_is;
      fills_are = fills ∙ fills-listed r.words.words r.words.claimed
          ∙ ap (filter_map (λ (c : ℕ × ℕ). fill_in (slice_index r.words.words) c.1 (place_of c.0))) (sym h.claims_are)
          ∙ ap (λ ws. fills_of (slice_index ws) h.world.turns) (sym h.words_are);
      words_are = words ∙ sym h.words_are;
      ending_is = ending ∙ h.named;
    })

none_left : (ks : List ℕ) (n : ℕ) → drop n ks ≡ [] → length ks ≤ n
none_left [] n e = omega arith
none_left (k ∷ ks) zero e = absurd (cc e)
none_left (k ∷ ks) (suc n) e = let h = none_left ks n e in omega (arith, h)

-- all turns are made
pub last_at : (im : ImageData) (ks : List ℕ) (made : ℕ) (r : ProgressHere) → IsAt im ks made made r → drop made ks ≡ [] → HasEnded im ks made r (last_ending r.world.history (live_threads store (replayed r.world.history)))
last_at im ks made r at none = by (live_threads store (replayed r.world.history)) (ap (λ s. live_threads store s) at.reached.store_is)
  where
    full : made ≡ length ks
    full = let some = none_left ks made none in let within = at.reached.within in omega (arith, some, within)

    whole : run (machine_of im) ks (opening_words im.cat.program) ≡ record { world = at.reached.world; ending = used_up (live_threads store at.reached.world.store) }
    whole = at.reached.same ∙ ap (λ rest. run_from (machine_of im) rest at.reached.world) none

    by : (live : List ℕ) → live_threads store at.reached.world.store ≡ live → HasEnded im ks made r (last_ending r.world.history live)
    by [] e = record {
      world = at.reached.world;
      ending = running.Done;
      whole = whole ∙ ap (λ us. record { world = at.reached.world; ending = used_up us }) e;
      named = ap (λ h. ended_by (last_or None h)) (sym at.reached.history_is);
      history_is = at.reached.history_is;
      words_are = at.reached.words_are;
      claims_are = at.reached.claims_are;
      turns_are = at.reached.turns_are;
      count = at.reached.count;
      met = at.ready.met;
      lives = at.ready.lives;
      schedule = at.schedule;
      followed = at.reached.followed;
      so = e;
    }
    by (u ∷ us) e = record {
      world = at.reached.world;
      ending = running.TurnsUsed;
      whole = whole ∙ ap (λ vs. record { world = at.reached.world; ending = used_up vs }) e;
      named = refl;
      history_is = at.reached.history_is;
      words_are = at.reached.words_are;
      claims_are = at.reached.claims_are;
      turns_are = at.reached.turns_are;
      count = at.reached.count;
      met = at.ready.met;
      lives = at.ready.lives;
      schedule = at.schedule;
      followed = at.reached.followed;
      so = (at.reached.count ∙ full, λ none'. cc (e, none'));
    }

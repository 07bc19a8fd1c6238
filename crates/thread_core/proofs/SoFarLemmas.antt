-- A run whose threads take turns as its caller chooses, from one turn to the next.
use Rattle.std.proofs.Common.{◌≡◌, ◌∙◌, ℕ, ◌+◌, List, [], ◌∷◌, ◌++◌, length, drop, Option, Some, None, slice_get, sym, ap, subst, length-append}
use Rattle.std.specs.List.{last_or}
use Rattle.std.proofs.lemmas.List.{append_assoc}
use Rattle.std.proofs.lemmas.Option.{slice_get_within}
use Rattle.std.proofs.Math.Nat.{mod-eq_of_lt}
use Rattle.std.proofs.Math.Seq.{drop-append_seam, drop-append-add}
use Rattle.interaction.specs.Object.{live_threads}
use Rattle.interaction.specs.Run.{chosen}
use Rattle.rgctx_fill.specs.ThreadStates.{ImageData}
use Rattle.schedules.specs.Ends.{ended_by}
use Rattle.schedules.specs.Living.{HasStarted}
use Rattle.store_object.specs.declared.ending.Ending.{Ending}
use Rattle.store_object.specs.Replay.{store, replayed}
use Rattle.thread_core.specs.declared.progress.Progress.{Progress as ProgressHere}
use Rattle.thread_core.specs.Reached.{IsAt, HasEnded, GoesOnOrEnds}
use Rattle.thread_core.specs.Runs.{last_ending}
use Rattle.thread_core.specs.SoFar.{IsSoFar, IsOver, StandsBy}
use Rattle.thread_core.proofs.AtLemmas.{done_at}
use Rattle.thread_core.proofs.WholeLemmas.{last_at}

-- the number of a place among those that live chooses who stands there
pub chosen_at : (ts : List ℕ) (k u : ℕ) → slice_get ts k ≡ Some u → chosen ts k ≡ Some u
chosen_at [] k u e = absurd (cc e)
chosen_at (t ∷ ts) k u e = ap (slice_get (t ∷ ts)) (mod-eq_of_lt (slice_get_within (t ∷ ts) k u e)) ∙ e

module _ (im : ImageData) where
  -- the threads that the code notes as started are those of the store
  pub lives_of : (r : ProgressHere) (o : Option Ending) → StandsBy im r o → HasStarted r.started (replayed r.world.history)
  lives_of r None so = (so []).ready.lives
  lives_of r (Some e) so = (so []).1.lives

  module _ (old new : ProgressHere) (so : IsSoFar im old) (k : ℕ) (noted : new.schedule.items ≡ old.schedule.items ++ k ∷ []) where
    abbrev n : ℕ
    n = length old.schedule.items

    same_list : (rest : List ℕ) → old.schedule.items ++ k ∷ rest ≡ new.schedule.items ++ rest
    same_list rest = sym (ap (λ l. l ++ rest) noted ∙ append_assoc old.schedule.items (k ∷ []) rest)

    split : (rest : List ℕ) → drop n (old.schedule.items ++ k ∷ rest) ≡ k ∷ drop (n + 1) (old.schedule.items ++ k ∷ rest)
    split rest = drop-append_seam old.schedule.items (k ∷ rest) ∙ ap (λ l. k ∷ l) (sym (drop-append-add old.schedule.items (k ∷ rest) 1))

    count : n + 1 ≡ length new.schedule.items
    count = sym (ap length noted ∙ length-append old.schedule.items (k ∷ []))

    abbrev Stepped : Option Ending → Type 0
    Stepped o = (ks : List ℕ) (made : ℕ) → IsAt im ks made made old → drop made ks ≡ k ∷ drop (made + 1) ks → GoesOnOrEnds im ks made new o

    -- a turn more
    pub goes_on : Stepped None → IsSoFar im new
    goes_on step rest =
        let at = step (old.schedule.items ++ k ∷ rest) n (so (k ∷ rest)) (split rest) in
        subst (λ m. IsAt im (new.schedule.items ++ rest) m m new) count (subst (λ ks. IsAt im ks (n + 1) (n + 1) new) (same_list rest) at)

    -- the end
    pub comes_over : (e : Ending) → Stepped (Some e) → IsOver im new e
    comes_over e step rest = (n, subst (λ ks. HasEnded im ks n new e) (same_list rest) (step (old.schedule.items ++ k ∷ rest) n (so (k ∷ rest)) (split rest)))

  -- nobody lives
  pub nobody_over : (r : ProgressHere) → IsSoFar im r → live_threads store (replayed r.world.history) ≡ [] → IsOver im r (ended_by (last_or None r.world.history))
  nobody_over r so none [] =
      let ks = r.schedule.items ++ [] in
      (length r.schedule.items, subst (λ l. HasEnded im ks (length r.schedule.items) r (last_ending r.world.history l)) none (last_at im ks (length r.schedule.items) r (so []) (drop-append_seam r.schedule.items [])))
  nobody_over r so none (k ∷ rest) =
      let ks = r.schedule.items ++ k ∷ rest in
      (length r.schedule.items, done_at im ks (length r.schedule.items) k r (so (k ∷ rest)) (drop-append_seam r.schedule.items (k ∷ rest) ∙ ap (λ l. k ∷ l) (sym (drop-append-add r.schedule.items (k ∷ rest) 1))) (ap (λ ts. chosen ts k) none))

-- A run before its first turn.
use Rattle.std.proofs.Common.{◌≡◌, ◌∙◌, ℕ, zero, suc, ◌+◌, List, [], ◌∷◌, length, map, Option, Some, None, slice_get, slice_index, refl, sym, ap, subst, arith}
use Rattle.std.specs.List.{range_with_len}
use Rattle.il_model.specs.declared.key.BodyRow.{BodyRow}
use Rattle.rgctx_words.specs.Regions.{word_count}
use Rattle.rgctx_fill.specs.BestRows.{best_row}
use Rattle.rgctx_fill.specs.declared.doing.Doing.TheVariants.{Fills}
use Rattle.rgctx_fill.specs.Leaves.{opening as opening_word}
use Rattle.rgctx_fill.specs.ThreadStates.{ImageData, ThreadData}
use Rattle.rgctx_fill.specs.Turns.{FillData}
use Rattle.rt_service.specs.GoingOn.{HasNoFill}
use Rattle.rt_service.specs.Notes.{IsUnderWay}
use Rattle.schedules.specs.Living.{HasStarted}
use Rattle.store_object.specs.Replay.{replayed}
use Rattle.store_object.specs.Store.{opening}
use Rattle.store_object.proofs.Histories.{replayed_nothing}
use Rattle.thread_core.specs.declared.progress.Progress.{Progress as ProgressHere}
use Rattle.thread_core.specs.Listed.{IsListed}
use Rattle.thread_core.specs.Reached.{AreMet, Reached, IsAt}
use Rattle.thread_core.specs.Starts.{main_in, main_thread}
use Rattle.thread_core.proofs.AtLemmas.{reached_as, busy_of}
use Rattle.thread_core.proofs.ReachLemmas.{reached_first}

-- words that are given by their indexes
listed_by : (f : ℕ → ℕ) (ws : List ℕ) (a : ℕ) → ((i : ℕ) → slice_index ws i ≡ f (a + i)) → ws ≡ map f (range_with_len a (length ws))
listed_by f [] a each = refl
listed_by f (w ∷ ws) a each =
    let first : a + 0 ≡ a = omega arith in
    ap (λ x. x ∷ ws) (each 0 ∙ ap f first)
    ∙ ap (λ l. f a ∷ l) (listed_by f ws (a + 1) (λ i. each (suc i) ∙ (let e : a + suc i ≡ a + 1 + i = omega arith in ap f e)))

words_by : (f : ℕ → ℕ) (ws : List ℕ) (n : ℕ) → length ws ≡ n → ((i : ℕ) → slice_index ws i ≡ f i) → ws ≡ map f (range_with_len 0 n)
words_by f ws n count each = listed_by f ws 0 (λ i. each i ∙ (let e : i ≡ 0 + i = omega arith in ap f e)) ∙ ap (λ m. map f (range_with_len 0 m)) count

-- thread 0 begins without a fill
main_quiet : (im : ImageData) (row : Option BodyRow) → HasNoFill (main_in im row).doing
main_quiet im None = tt
main_quiet im (Some row) = tt

pub at_first : (im : ImageData) (ks : List ℕ) (r : ProgressHere) (first : ThreadData) → r.threads.items ≡ first ∷ [] → first ≡ main_thread im
    → length r.words.words ≡ word_count → ((i : ℕ) → slice_index r.words.words i ≡ opening_word im.cat.program i) → r.words.claimed ≡ [] → IsListed r.words → AreMet im.cat r.words.words
    → HasStarted r.started opening → r.world.history ≡ [] → r.schedule.items ≡ [] → r.turns.items ≡ [] → IsAt im ks 0 0 r
at_first im ks r first threads main count words claimed listed met lives history schedule turns = record {
  reached = reached;
  ready = record {
    busy = busy_of im ks 0 r.threads.items r.words r.world.history r.turns.items reached;
    fine = λ u s e. by_place u s (ap (λ ts. slice_get ts u) (sym here) ∙ e);
    met = met;
    listed = listed;
    lives = subst (λ h. HasStarted r.started (replayed h)) (sym history) (subst (HasStarted r.started) (sym replayed_nothing) lives);
    threads = ap length threads ∙ sym (ap (λ h. length (replayed h).finished) history ∙ ap (λ s. length s.finished) replayed_nothing);
  };
  schedule = schedule;
}
  where
    here : r.threads.items ≡ main_thread im ∷ []
    here = threads ∙ ap (λ t. t ∷ []) main

    reached : Reached im ks 0 r.threads.items r.words r.world.history r.turns.items
    reached = reached_as im ks 0 (main_thread im ∷ []) r.threads.items r.words r.words [] r.world.history [] r.turns.items here refl history turns
        (reached_first im ks r.words (words_by (opening_word im.cat.program) r.words.words word_count count words) claimed)

    by_place : (u : ℕ) (s : ThreadData) → slice_get (main_thread im ∷ []) u ≡ Some s → (f : FillData) → s.doing ≡ Fills f → IsUnderWay im.cat (slice_index r.words.words) f
    by_place zero s e f is =
        let same : main_thread im ≡ s = cc e in
        absurd (subst HasNoFill (ap (λ (t : ThreadData). t.doing) same ∙ is) (main_quiet im (best_row im.cat.program im.cat.bodies im.cat.program.main [])))
    by_place (suc u) s e f is = absurd (cc e)

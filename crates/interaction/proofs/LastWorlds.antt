-- What every ending of a run says of its last world.
use Rattle.std.proofs.Common.{◌≡◌, ℕ, suc, ◌+◌, List, [], ◌∷◌, ◌++◌, length, Option, Some, None, refl, sym, ap, subst, arith, ◌⊎◌, inl, inr, ⊎_elim, length-append, eqb-true}
use Rattle.std.specs.Prelude.{Bool, true, false, slice_index, if◌then◌else◌, ◌==◌}
use Rattle.interaction.specs.declared.history.Event.{Event}
use Rattle.interaction.specs.Process.{Exchange}
use Rattle.interaction.specs.Thread.{Turn}
use Rattle.interaction.specs.Object.{is_active, Answers, live_threads}
use Rattle.interaction.specs.Run.{Machine, World, Ending, Done, Ends, opening, chosen, first_of, state_of, spoken, thread_turn, chosen_turn, used_up, run}
use Rattle.interaction.specs.RunLaws.{RunLaws}
use Rattle.interaction.specs.Endings.{EndsSo, LiveLaws}
use Rattle.interaction.proofs.Turned.{Moved, quiet, spoke}
use Rattle.interaction.proofs.RunLoose.{Follows, Sane, moved_sane, opening_sane}
use Rattle.interaction.proofs.Choosing.{chosen_lives, chosen_none}
use Rattle.interaction.proofs.Endings.{HowEnds, as_stuck, as_full, as_over, as_halted, how_ends, run_ends}

module _ {R Y S X : Type 0} (m : Machine R Y S X) (Fits : List ℕ → Type 0) (Holds : List ℕ → S → Type 0) (Known : List ℕ → List (Turn R Y) → ℕ → Type 0) (law : RunLaws m Fits Holds Known) (Busy : S → Type 0) (live : LiveLaws m Busy) (limit : ℕ) where
  -- each thread is busy, or has ended
  abbrev BusyOr : World R Y S X → ℕ → S → Type 0
  BusyOr x u s = Busy s ⊎ (is_active m.object x.store u ≡ false)

  record Counted (n : ℕ) (x : World R Y S X) : Type 0 where
    sane : Sane m Fits Holds Known law x
    count : length x.turns + n ≡ limit
    busy : (u : ℕ) (s : S) → state_of m x u ≡ Some s → BusyOr x u s

  is_busy : (x : World R Y S X) (u : ℕ) (s : S) → is_active m.object x.store u ≡ true → BusyOr x u s → Busy s
  is_busy x u s lives b = ⊎_elim (λ h. h) (λ e. absurd (cc (lives, e))) b

  -- who has not begun has not moved
  unmoved : (w : ℕ → ℕ) (o moved : Option S) (trail : List (Turn R Y)) (es : List (Exchange R Y)) → o ≡ None → Follows m w o moved trail es → moved ≡ None
  unmoved w None moved trail es e f = f.0
  unmoved w (Some a) moved trail es e f = absurd (cc e)

  -- a thread other than the one that moved, after a request
  other_busy : (x x' : World R Y S X) (v : ℕ) (s : S) → ((q : S) → m.begin x.history v ≡ Some q → is_active m.object x.store v ≡ false → is_active m.object x'.store v ≡ false) → ((q : S) → state_of m x v ≡ Some q → BusyOr x v q) → (o moved : Option S) → m.begin x.history v ≡ o → x.moved v ≡ moved → (o ≡ None → moved ≡ None) → first_of moved (m.begin x'.history v) ≡ Some s → BusyOr x' v s
  other_busy x x' v s stays old o None begun is none e = inl (live.begin_busy x'.history v s e)
  other_busy x x' v s stays old None (Some q) begun is none e = absurd (cc (none refl))
  other_busy x x' v s stays old (Some a) (Some q) begun is none e =
      let same : q ≡ s = cc e in
      let here : state_of m x v ≡ Some q = ap (λ z. first_of z (m.begin x.history v)) is in
      subst (BusyOr x' v) same (⊎_elim (λ h. inl h) (λ d. inr (stays a begun d)) (old q here))

  counted_more : (n : ℕ) (x : World R Y S X) (u : ℕ) (turn : Turn R Y) → length x.turns + suc n ≡ limit → length (x.turns ++ record { thread = u; turn = turn } ∷ []) + n ≡ limit
  counted_more n x u turn e = let a = length-append x.turns (record { thread = u; turn = turn } ∷ []) in omega (arith, a, e)

  step : (n : ℕ) (x : World R Y S X) (u : ℕ) (s : S) (x' : World R Y S X) → is_active m.object x.store u ≡ true → state_of m x u ≡ Some s → Moved m x u s (m.want s) x' → Counted (suc n) x → Counted n x'
  step n x u s x' lives is (quiet turn t w mk g wr r silent) c = record {
    sane = moved_sane m Fits Holds Known law x u s _ is (quiet turn t w mk g wr r silent) c.sane;
    count = counted_more n x u turn c.count;
    busy = λ v q. by_thread v q (v == u);
  }
    where
      by_thread : (v : ℕ) (q : S) (b : Bool) → first_of (if b then Some t else x.moved v) (m.begin x.history v) ≡ Some q → Busy q ⊎ (is_active m.object x.store v ≡ false)
      by_thread v q true e = inl (subst Busy (cc e) (live.quiet_busy (slice_index w) s t turn (is_busy x u s lives (c.busy u s is)) mk r))
      by_thread v q false e = c.busy v q e
  step n x u s x' lives is (spoke r z t mk a) c = record {
    sane = moved_sane m Fits Holds Known law x u s _ is (spoke r z t mk a) c.sane;
    count = counted_more n x u _ c.count;
    busy = λ v q. by_thread v q (v == u) refl;
  }
    where
      h' : List (Event R Y)
      h' = x.history ++ record { thread = u; request = r; reply = z } ∷ []

      stays : (v : ℕ) (k : S) → m.begin x.history v ≡ Some k → is_active m.object x.store v ≡ false → is_active m.object (m.object.after x.store u r) v ≡ false
      stays v k begun = subst (λ y. is_active m.object y v ≡ false → is_active m.object (m.object.after y u r) v ≡ false) (sym c.sane.runs.stored) (live.ended_stays x.history v u r z k c.sane.runs.replays begun (subst (λ y. Answers m.object y u r z) c.sane.runs.stored a))

      by_thread : (v : ℕ) (q : S) (b : Bool) → (v == u) ≡ b → first_of (if b then Some t else x.moved v) (m.begin (x.history ++ record { thread = u; request = r; reply = z } ∷ []) v) ≡ Some q → Busy q ⊎ (is_active m.object (m.object.after x.store u r) v ≡ false)
      by_thread v q true e h =
          let b = live.asked_busy (slice_index x.words) s t x.store u r z (is_busy x u s lives (c.busy u s is)) mk a in
          let same : u ≡ v = sym (eqb-true v u e) in
          ⊎_elim (λ k. inl (subst Busy (cc h) k)) (λ d. inr (subst (λ k. is_active m.object (m.object.after x.store u r) k ≡ false) same d)) b
      by_thread v q false e h = other_busy x (spoken m x u t r z) v q (λ k begun d. stays v k begun d) (c.busy v) (m.begin x.history v) (x.moved v) refl refl (λ none. unmoved (slice_index x.words) (m.begin x.history v) (x.moved v) _ _ none (c.sane.runs.each v)) h

  opened : (words : List ℕ) → Fits words → Counted limit (opening m words)
  opened words fits = record { sane = opening_sane m Fits Holds Known law words fits; count = omega arith; busy = λ u s e. inl (live.begin_busy [] u s e) }

  -- the schedule is used up
  used : (x : World R Y S X) (n : ℕ) → length x.turns ≡ n → (ts : List ℕ) → live_threads m.object x.store ≡ ts → EndsSo m n x (used_up ts)
  used x n count [] e = e
  used x n count (t ∷ ts) e = (count, λ h. cc (e, h))

  -- the chosen thread makes no turn
  ended_by : (n : ℕ) (x : World R Y S X) (u : ℕ) (s : S) (e : Ending S) → Counted (suc n) x → is_active m.object x.store u ≡ true → state_of m x u ≡ Some s → HowEnds m x u s (m.want s) e → EndsSo m limit x e
  ended_by n x u s _ c lives is (as_stuck h) = (record { early = omega (arith, c.count); lives = lives; state = is }, h)
  ended_by n x u s _ c lives is (as_full h) = (record { early = omega (arith, c.count); lives = lives; state = is }, h)
  ended_by n x u s _ c lives is (as_over h) = h (live.wants s (is_busy x u s lives (c.busy u s is)))
  ended_by n x u s _ c lives is (as_halted r h) = cc (live.answered x.store u r lives, h)

  ended : (n : ℕ) (x : World R Y S X) (k : ℕ) (e : Ending S) → Counted (suc n) x → (o : Option ℕ) → chosen (live_threads m.object x.store) k ≡ o → chosen_turn m x o ≡ Ends e → EndsSo m limit x e
  ended n x k e c None is h = let done : Done ≡ e = cc h in subst (EndsSo m limit x) done (chosen_none (live_threads m.object x.store) k is)
  ended n x k e c (Some u) is h = by_state (state_of m x u) refl h
    where
      lives : is_active m.object x.store u ≡ true
      lives = chosen_lives m.object x.store k u is

      by_state : (o : Option S) → state_of m x u ≡ o → thread_turn m x u o ≡ Ends e → EndsSo m limit x e
      by_state None at h' =
          let k' = live.live_begun x.history u c.sane.runs.replays (subst (λ y. is_active m.object y u ≡ true) c.sane.runs.stored lives) in
          absurd (begun_state (x.moved u) (m.begin x.history u) k'.0 k'.1 at)
        where
          begun_state : (moved o : Option S) (a : S) → o ≡ Some a → first_of moved o ≡ None → ⊥
          begun_state None o a e' h'' = cc (e', h'')
          begun_state (Some q) o a e' h'' = cc h''
      by_state (Some s) at h' = ended_by n x u s e c lives at (how_ends m x u s (m.want s) e (law.claims_right x.words s c.sane.fits (c.sane.holds u s at)) h')

  pub counted_ends : (words schedule : List ℕ) → Fits words → length schedule ≡ limit → EndsSo m limit (run m schedule words).world (run m schedule words).ending
  counted_ends words schedule fits long = run_ends m Counted (λ x e. EndsSo m limit x e) step (λ x c. used x limit (let n = c.count in omega arith) (live_threads m.object x.store) refl) (λ n x k e c h. ended n x k e c (chosen (live_threads m.object x.store) k) refl h) schedule (opening m words) (subst (λ n. Counted n (opening m words)) (sym long) (opened words fits))

-- Every run ends so: nobody lives, all turns are made, or the chosen thread is stuck or full.
pub run_ends_so : {R Y S X : Type 0} (m : Machine R Y S X) (Fits : List ℕ → Type 0) (Holds : List ℕ → S → Type 0) (Known : List ℕ → List (Turn R Y) → ℕ → Type 0) → RunLaws m Fits Holds Known → (Busy : S → Type 0) → LiveLaws m Busy → (schedule words : List ℕ) → Fits words → EndsSo m (length schedule) (run m schedule words).world (run m schedule words).ending
run_ends_so m Fits Holds Known law Busy live schedule words fits = counted_ends m Fits Holds Known law Busy live (length schedule) words schedule fits refl

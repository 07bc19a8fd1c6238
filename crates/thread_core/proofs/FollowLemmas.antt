-- A run's threads are followed turn by turn, so that the run is a loose one, and ends as a run ends.
use Rattle.std.proofs.Common.{◌≡◌, ◌∙◌, ◌⊎◌, inl, inr, ⊎_elim, ℕ, ◌<◌, ◌==◌, Bool, true, false, if◌then◌else◌, List, [], ◌∷◌, ◌++◌, length, Option, Some, None, refl, sym, ap, subst, eqb-true, append-nil}
use Rattle.std.specs.Prelude.{slice_index}
use Rattle.interaction.specs.declared.history.Event.{Event}
use Rattle.interaction.specs.Process.{Exchange}
use Rattle.interaction.specs.Thread.{Turn, Asked, Makes, Turns}
use Rattle.interaction.specs.Thread as thread
use Rattle.interaction.specs.Object.{Answers, is_active}
use Rattle.interaction.specs.History.{part}
use Rattle.interaction.specs.LooseRun.{AnswersNothing, Remembers}
use Rattle.interaction.specs.Endings.{EndsSo}
use Rattle.interaction.specs.Run.{Machine, World, Moves, Ends, Ending, opening, first_of, state_of, spoken, turned, turns_of}
use Rattle.interaction.specs.RunLaws.{Grows, ClaimsRight}
use Rattle.interaction.proofs.Endings.{HowEnds, as_stuck, as_full, as_over, as_halted, how_ends}
use Rattle.interaction.proofs.Later.{grows_self, grows_then}
use Rattle.interaction.proofs.RunLoose.{Follows, Runs, CutLast, at_last, inside, cut_last, turns_of-append, moved_runs}
use Rattle.interaction.proofs.Starting.{begin-grows}
use Rattle.interaction.proofs.Turned.{Moved, quiet, spoke, turned_moved}
use Rattle.rgctx_fill.specs.ThreadStates.{ImageData, ThreadData}
use Rattle.store_object.specs.declared.request.Request.{Request}
use Rattle.store_object.specs.declared.reply.Reply.{Reply}
use Rattle.store_object.specs.Replay.{store}
use Rattle.store_object.specs.Store.{Store}
use Rattle.thread_core.specs.Followed.{IsFollowed}
use Rattle.thread_core.specs.Going.{has_ended}
use Rattle.thread_core.specs.Known.{IsKnown}
use Rattle.thread_core.specs.Reached.{AreMet}
use Rattle.thread_core.specs.Runs.{machine_of}
use Rattle.thread_core.specs.Starts.{main_thread, starts, begin}
use Rattle.thread_core.proofs.BusyLemmas.{Busy, live_laws}
use Rattle.thread_core.proofs.KnownLemmas.{known_stands}

module _ (im : ImageData) where
  abbrev Here : Type 0
  Here = World Request Reply ThreadData Store

  abbrev m : Machine Request Reply ThreadData Store
  m = machine_of im

  begins_grow : (d r : List (Event Request Reply)) (u : ℕ) (s : ThreadData) → begin im d u ≡ Some s → begin im (d ++ r) u ≡ Some s
  begins_grow d r u s e = begin-grows (main_thread im) (starts im) d r u s e

  -- ---- what is known is not answered as nothing

  no_known : (x : Here) (u : ℕ) (s : ThreadData) (v : List ℕ) (turn : Turn Request Reply) → AreMet im.cat x.words → state_of m x u ≡ Some s → Grows (slice_index x.words) (slice_index v) → Runs m x → ((i : ℕ) → AnswersNothing turn i → slice_index x.words i ≡ 0) → (i : ℕ) → IsKnown im.cat (slice_index v) (turns_of u x.turns) i → AnswersNothing turn i → ⊥
  no_known x u s v turn met is g runs silent i known n = by_begin (begin im x.history u) (x.moved u) is (runs.each u)
    where
      by_begin : (o moved : Option ThreadData) → first_of moved o ≡ Some s → Follows m (slice_index x.words) o moved (turns_of u x.turns) (part u x.history) → ⊥
      by_begin None moved e f = let none : first_of moved None ≡ None = ap (λ q. first_of q None) f.0 in cc
      by_begin (Some a) moved e f = known_stands im.cat (slice_index x.words) (slice_index v) met.fits g f.2 i known (silent i n)

  remembers_snoc : (v : List ℕ) (trail : List (Turn Request Reply)) (turn : Turn Request Reply) → Remembers (IsKnown im.cat (slice_index v)) trail → ((i : ℕ) → IsKnown im.cat (slice_index v) trail i → AnswersNothing turn i → ⊥) → Remembers (IsKnown im.cat (slice_index v)) (trail ++ turn ∷ [])
  remembers_snoc v trail turn old new before later t i e known n = by_cut (cut_last trail turn before t later e)
    where
      by_cut : CutLast trail turn before t later → ⊥
      by_cut (at_last l s) = new i (subst (λ ts. IsKnown im.cat (slice_index v) ts i) l known) (subst (λ y. AnswersNothing y i) s n)
      by_cut (inside rest l) = old before rest t i l known n

  its_turns : (x : Here) (u v : ℕ) (turn : Turn Request Reply) (b : Bool) → (u == v) ≡ b → turns_of v (x.turns ++ record { thread = u; turn = turn } ∷ []) ≡ turns_of v x.turns ++ (if b then turn ∷ [] else [])
  its_turns x u v turn b e = turns_of-append v x.turns (record { thread = u; turn = turn } ∷ []) ∙ ap (λ q. turns_of v x.turns ++ (if q then turn ∷ [] else [])) e

  remembers_after : (x : Here) (u : ℕ) (s : ThreadData) (turn : Turn Request Reply) (w : List ℕ) → AreMet im.cat x.words → state_of m x u ≡ Some s → Grows (slice_index x.words) (slice_index w) → ((i : ℕ) → AnswersNothing turn i → slice_index x.words i ≡ 0) → IsFollowed im x → (z : ℕ) (v : List ℕ) → Grows (slice_index w) (slice_index v) → Remembers (IsKnown im.cat (slice_index v)) (turns_of z (x.turns ++ record { thread = u; turn = turn } ∷ []))
  remembers_after x u s turn w met is g silent f z v g' = by_thread (u == z) refl
    where
      all : Grows (slice_index x.words) (slice_index v)
      all = grows_then g g'

      by_thread : (b : Bool) → (u == z) ≡ b → Remembers (IsKnown im.cat (slice_index v)) (turns_of z (x.turns ++ record { thread = u; turn = turn } ∷ []))
      by_thread true e =
          let same : u ≡ z = eqb-true u z e in
          let new = subst (λ k. (i : ℕ) → IsKnown im.cat (slice_index v) (turns_of k x.turns) i → AnswersNothing turn i → ⊥) same (no_known x u s v turn met is all f.runs silent) in
          subst (Remembers (IsKnown im.cat (slice_index v))) (sym (its_turns x u z turn true e)) (remembers_snoc v (turns_of z x.turns) turn (f.remembers z v all) new)
      by_thread false e = subst (Remembers (IsKnown im.cat (slice_index v))) (sym (its_turns x u z turn false e ∙ append-nil (turns_of z x.turns))) (f.remembers z v all)

  -- ---- who lives goes on

  abbrev BusyOr : Here → ℕ → ThreadData → Type 0
  BusyOr x u s = (has_ended s.doing ≡ false) ⊎ (is_active store x.store u ≡ false)

  is_busy : (x : Here) (u : ℕ) (s : ThreadData) → is_active store x.store u ≡ true → BusyOr x u s → Busy s
  is_busy x u s lives b = ⊎_elim (λ h. h) (λ e. absurd (cc (lives, e))) b

  unmoved : (w : ℕ → ℕ) (o moved : Option ThreadData) (trail : List (Turn Request Reply)) (es : List (Exchange Request Reply)) → o ≡ None → Follows m w o moved trail es → moved ≡ None
  unmoved w None moved trail es e f = f.0
  unmoved w (Some a) moved trail es e f = absurd (cc e)

  -- a thread other than the one that moved, after a request
  other_busy : (x x' : Here) (v : ℕ) (s : ThreadData) → ((q : ThreadData) → begin im x.history v ≡ Some q → is_active store x.store v ≡ false → is_active store x'.store v ≡ false) → ((q : ThreadData) → state_of m x v ≡ Some q → BusyOr x v q) → (o moved : Option ThreadData) → begin im x.history v ≡ o → x.moved v ≡ moved → (o ≡ None → moved ≡ None) → first_of moved (begin im x'.history v) ≡ Some s → BusyOr x' v s
  other_busy x x' v s stays old o None begun is none e = inl ((live_laws im).begin_busy x'.history v s e)
  other_busy x x' v s stays old None (Some q) begun is none e = absurd (cc (none refl))
  other_busy x x' v s stays old (Some a) (Some q) begun is none e =
      let same : q ≡ s = cc e in
      let here : state_of m x v ≡ Some q = ap (λ z. first_of z (begin im x.history v)) is in
      subst (BusyOr x' v) same (⊎_elim (λ h. inl h) (λ d. inr (stays a begun d)) (old q here))

  moved_on : (x : Here) (u : ℕ) (s : ThreadData) (x' : Here) → AreMet im.cat x.words → is_active store x.store u ≡ true → state_of m x u ≡ Some s → Moved m x u s (m.want s) x' → IsFollowed im x → IsFollowed im x'
  moved_on x u s x' met lives is (quiet turn t w mk g wr r silent) f = record {
    runs = moved_runs m begins_grow x u s _ is (quiet turn t w mk g wr r silent) f.runs;
    remembers = remembers_after x u s turn w met is g silent f;
    busy = λ v q. by_thread v q (v == u);
  }
    where
      by_thread : (v : ℕ) (q : ThreadData) (b : Bool) → first_of (if b then Some t else x.moved v) (begin im x.history v) ≡ Some q → Busy q ⊎ (is_active store x.store v ≡ false)
      by_thread v q true e = let same : t ≡ q = cc e in inl (subst Busy same ((live_laws im).quiet_busy (slice_index w) s t turn (is_busy x u s lives (f.busy u s is)) mk r))
      by_thread v q false e = f.busy v q e
  moved_on x u s x' met lives is (spoke r z t mk a) f = record {
    runs = moved_runs m begins_grow x u s _ is (spoke r z t mk a) f.runs;
    remembers = remembers_after x u s (Asked (record { request = r; reply = z })) x.words met is (grows_self (slice_index x.words)) (λ i e. absurd e) f;
    busy = λ v q. by_thread v q (v == u) refl;
  }
    where
      stays : (v : ℕ) (k : ThreadData) → begin im x.history v ≡ Some k → is_active store x.store v ≡ false → is_active store (store.after x.store u r) v ≡ false
      stays v k begun = subst (λ y. is_active store y v ≡ false → is_active store (store.after y u r) v ≡ false) (sym f.runs.stored) ((live_laws im).ended_stays x.history v u r z k f.runs.replays begun (subst (λ y. Answers store y u r z) f.runs.stored a))

      by_thread : (v : ℕ) (q : ThreadData) (b : Bool) → (v == u) ≡ b → first_of (if b then Some t else x.moved v) (begin im (x.history ++ record { thread = u; request = r; reply = z } ∷ []) v) ≡ Some q → Busy q ⊎ (is_active store (store.after x.store u r) v ≡ false)
      by_thread v q true e h =
          let b = (live_laws im).asked_busy (slice_index x.words) s t x.store u r z (is_busy x u s lives (f.busy u s is)) mk a in
          let same : u ≡ v = sym (eqb-true v u e) in
          let state : t ≡ q = cc h in
          ⊎_elim (λ k. inl (subst Busy state k)) (λ d. inr (subst (λ k. is_active store (store.after x.store u r) k ≡ false) same d)) b
      by_thread v q false e h = other_busy x (spoken m x u t r z) v q (λ k begun d. stays v k begun d) (f.busy v) (begin im x.history v) (x.moved v) refl refl (λ none. unmoved (slice_index x.words) (begin im x.history v) (x.moved v) _ _ none (f.runs.each v)) h

  -- one turn more
  pub followed_on : (x : Here) (u : ℕ) (s : ThreadData) (x' : Here) → AreMet im.cat x.words → is_active store x.store u ≡ true → state_of m x u ≡ Some s → turned m x u s (m.want s) ≡ Moves x' → IsFollowed im x → IsFollowed im x'
  followed_on x u s x' met lives is e f = moved_on x u s x' met lives is (turned_moved m x u s (m.want s) x' e) f

  -- before the first turn
  pub followed_first : (words : List ℕ) → IsFollowed im (opening m words)
  followed_first words = record {
    runs = record { replays = tt; stored = refl; each = λ u. opening_follows (begin im [] u) };
    remembers = λ u v g before later t i e known n. none before later t e;
    busy = λ u s e. inl ((live_laws im).begin_busy [] u s e);
  }
    where
      opening_follows : (o : Option ThreadData) → Follows m (slice_index words) o None [] []
      opening_follows None = (refl, refl, refl)
      opening_follows (Some s) = (s, refl, thread.none, refl)

      none : (before later : List (Turn Request Reply)) (t : Turn Request Reply) → [] ≡ before ++ t ∷ later → ⊥
      none [] later t e = cc e
      none (b ∷ before) later t e = cc e

  -- ---- the end

  ended_as : (x : Here) (limit u : ℕ) (s : ThreadData) (e : Ending ThreadData) → length x.turns < limit → is_active store x.store u ≡ true → state_of m x u ≡ Some s → IsFollowed im x → HowEnds m x u s (m.want s) e → EndsSo m limit x e
  ended_as x limit u s _ early lives is f (as_stuck h) = (record { early = early; lives = lives; state = is }, h)
  ended_as x limit u s _ early lives is f (as_full h) = (record { early = early; lives = lives; state = is }, h)
  ended_as x limit u s _ early lives is f (as_over h) = h ((live_laws im).wants s (is_busy x u s lives (f.busy u s is)))
  ended_as x limit u s _ early lives is f (as_halted r h) = cc ((live_laws im).answered x.store u r lives, h)

  -- the chosen thread makes no turn
  pub ended_so : (x : Here) (limit u : ℕ) (s : ThreadData) (e : Ending ThreadData) → ClaimsRight x.words (m.want s) → length x.turns < limit → is_active store x.store u ≡ true → state_of m x u ≡ Some s → turned m x u s (m.want s) ≡ Ends e → IsFollowed im x → EndsSo m limit x e
  ended_so x limit u s e right early lives is h f = ended_as x limit u s e early lives is f (how_ends m x u s (m.want s) e right h)

  -- who lives is not over
  pub going_on : (x : Here) (u : ℕ) (s : ThreadData) → is_active store x.store u ≡ true → state_of m x u ≡ Some s → IsFollowed im x → has_ended s.doing ≡ false
  going_on x u s lives is f = is_busy x u s lives (f.busy u s is)

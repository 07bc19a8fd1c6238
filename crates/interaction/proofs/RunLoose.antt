-- A run under a schedule is a loose run with its last words.
use Rattle.std.proofs.Common.{◌≡◌, ℕ, List, [], ◌∷◌, ◌++◌, Option, Some, None, refl, sym, ap, ◌∙◌, subst, arith, eqb-true, eq-eqb, append-nil}
use Rattle.std.proofs.lemmas.Bool.Decides.{nat_tests}
use Rattle.std.specs.Prelude.{Bool, true, false, slice_index, if◌then◌else◌, ◌==◌}
use Rattle.interaction.specs.declared.history.Event.{Event}
use Rattle.interaction.specs.Process.{Exchange}
use Rattle.interaction.specs.Thread.{Turn, Asked, Makes, Turns, request_of, requests_in}
use Rattle.interaction.specs.Thread as thread
use Rattle.interaction.specs.Object.{Answers, Replays, replayed}
use Rattle.interaction.specs.History.{part, exchange_of}
use Rattle.interaction.specs.LooseRun.{AnswersNothing, Remembers, Leaves, LooseRun}
use Rattle.interaction.specs.Run.{Machine, World, Taken, Step, Moves, Ends, opening, chosen, first_of, state_of, state_or, ends_in, with_value, turned, thread_turn, chosen_turn, onward, run_from, run, turns_of}
use Rattle.interaction.specs.Object.{live_threads}
use Rattle.interaction.specs.RunLaws.{Grows, nothing, RunLaws}
use Rattle.interaction.proofs.Histories.{part-append, replays_more, replayed-append}
use Rattle.interaction.proofs.Later.{grows_self, grows_then, later_turns, turns_snoc, requests-append}
use Rattle.interaction.proofs.Turned.{Moved, quiet, spoke, turned_moved}

pub turns_of-append : {R Y : Type 0} (u : ℕ) (ts us : List (Taken R Y)) → turns_of u (ts ++ us) ≡ turns_of u ts ++ turns_of u us
turns_of-append u [] us = refl
turns_of-append u (t ∷ ts) us = by_thread (t.thread == u) (turns_of-append u ts us)
  where
    by_thread : (b : Bool) → turns_of u (ts ++ us) ≡ turns_of u ts ++ turns_of u us → (if b then t.turn ∷ turns_of u (ts ++ us) else turns_of u (ts ++ us)) ≡ (if b then t.turn ∷ turns_of u ts else turns_of u ts) ++ turns_of u us
    by_thread true h = ap (λ l. t.turn ∷ l) h
    by_thread false h = h

-- where a list with one element more at its end is cut
pub data CutLast {A : Type 0} (xs : List A) (x : A) (before : List A) (y : A) (after : List A) : Type 0 where
  at_last : before ≡ xs → y ≡ x → CutLast xs x before y after
  inside : (rest : List A) → xs ≡ before ++ y ∷ rest → CutLast xs x before y after

pub cut_last : {A : Type 0} (xs : List A) (x : A) (before : List A) (y : A) (after : List A) → xs ++ x ∷ [] ≡ before ++ y ∷ after → CutLast xs x before y after
cut_last [] x [] y after e = at_last refl (cc e)
cut_last [] x (b ∷ []) y after e = absurd (cc e)
cut_last [] x (b ∷ (c ∷ before)) y after e = absurd (cc e)
cut_last (a ∷ xs) x [] y after e = inside xs (let s : a ≡ y = cc e in ap (λ z. z ∷ xs) s)
cut_last (a ∷ xs) x (b ∷ before) y after e = next (cut_last xs x before y after (cc e))
  where
    next : CutLast xs x before y after → CutLast (a ∷ xs) x (b ∷ before) y after
    next (at_last l s) = at_last (let h : a ≡ b = cc e in cc (l, h)) s
    next (inside rest l) = inside rest (let h : a ≡ b = cc e in cc (l, h))

module _ {R Y S X : Type 0} (m : Machine R Y S X) where
  -- A thread of the run: its turns so far, under the words so far, make its part of the history.
  abbrev pub Follows : (ℕ → ℕ) → Option S → Option S → List (Turn R Y) → List (Exchange R Y) → Type 0
  Follows w None moved trail es = (moved ≡ None) × (trail ≡ []) × (es ≡ [])
  Follows w (Some s) moved trail es = (t : S) × (first_of moved (Some s) ≡ Some t) × Turns m.want w s trail t × (requests_in trail ≡ es)

  pub record Runs (x : World R Y S X) : Type 0 where
    pub replays : Replays m.object m.object.first x.history
    pub stored : x.store ≡ replayed m.object m.object.first x.history
    pub each : (u : ℕ) → Follows (slice_index x.words) (m.begin x.history u) (x.moved u) (turns_of u x.turns) (part u x.history)

  later_follows : (w v : ℕ → ℕ) (o moved : Option S) (trail : List (Turn R Y)) (es : List (Exchange R Y)) → Grows w v → Follows w o moved trail es → Follows v o moved trail es
  later_follows w v None moved trail es g f = f
  later_follows w v (Some s) moved trail es g f = (f.0, f.1, later_turns g f.2, f.3)

  -- the thread that moved
  mover_follows : (w v : ℕ → ℕ) (o moved : Option S) (trail : List (Turn R Y)) (es : List (Exchange R Y)) (s t : S) (turn : Turn R Y) → Grows w v → first_of moved o ≡ Some s → Makes v s (m.want s) turn t → Follows w o moved trail es → Follows v o (Some t) (trail ++ turn ∷ []) (es ++ request_of turn)
  mover_follows w v None moved trail es s t turn g is h f =
      let none : first_of moved None ≡ None = ap (λ q. first_of q None) f.0 in
      absurd (cc)
  mover_follows w v (Some a) moved trail es s t turn g is h f =
      let same : f.0 ≡ s = cc (is, f.1) in
      let before : Turns m.want v a trail s = subst (λ q. Turns m.want v a trail q) same (later_turns g f.2) in
      let now : requests_in (trail ++ turn ∷ []) ≡ es ++ request_of turn = requests-append trail (turn ∷ []) ∙ (let e : requests_in (turn ∷ []) ≡ request_of turn = append-nil (request_of turn) in let q = f.3 in rw (q, e) refl) in
      (t, refl, turns_snoc before h, now)

  -- a thread that the history has just started stands at its beginning
  grown_follows : (w : ℕ → ℕ) (o o' moved : Option S) (trail : List (Turn R Y)) (es : List (Exchange R Y)) → ((s : S) → o ≡ Some s → o' ≡ Some s) → Follows w o moved trail es → Follows w o' moved trail es
  grown_follows w (Some s) o' moved trail es h f = subst (λ q. Follows w q moved trail es) (sym (h s refl)) f
  grown_follows w None None moved trail es h f = f
  grown_follows w None (Some s) moved trail es h f =
      (s, ap (λ q. first_of q (Some s)) f.0, subst (λ ts. Turns m.want w s ts s) (sym f.1) thread.none, ap requests_in f.1 ∙ sym f.2)

  its_turns : (x : World R Y S X) (u v : ℕ) (turn : Turn R Y) (b : Bool) → (u == v) ≡ b → turns_of v (x.turns ++ record { thread = u; turn = turn } ∷ []) ≡ turns_of v x.turns ++ (if b then turn ∷ [] else [])
  its_turns x u v turn b e = turns_of-append v x.turns (record { thread = u; turn = turn } ∷ []) ∙ ap (λ q. turns_of v x.turns ++ (if q then turn ∷ [] else [])) e

  -- the other threads, and the one that moved, after a turn of thread u that made this part of the history
  each_after : (x : World R Y S X) (u : ℕ) (s t : S) (turn : Turn R Y) (w : List ℕ) (h : List (Event R Y)) → state_of m x u ≡ Some s → Makes (slice_index w) s (m.want s) turn t → Grows (slice_index x.words) (slice_index w) → ((v : ℕ) (q : S) → m.begin x.history v ≡ Some q → m.begin h v ≡ Some q) → ((v : ℕ) (b : Bool) → (u == v) ≡ b → part v h ≡ part v x.history ++ (if b then request_of turn else [])) → Runs x → (v : ℕ) → Follows (slice_index w) (m.begin h v) (with_value x.moved u (Some t) v) (turns_of v (x.turns ++ record { thread = u; turn = turn } ∷ [])) (part v h)
  each_after x u s t turn w h is mk g grows parts runs v = by_thread (v == u) refl
    where
      by_thread : (b : Bool) → (v == u) ≡ b → Follows (slice_index w) (m.begin h v) (if b then Some t else x.moved v) (turns_of v (x.turns ++ record { thread = u; turn = turn } ∷ [])) (part v h)
      by_thread true e =
          let same : u ≡ v = sym (eqb-true v u e) in
          let here : (u == v) ≡ true = eq-eqb u v same in
          let st : first_of (x.moved v) (m.begin x.history v) ≡ Some s = subst (λ k. first_of (x.moved k) (m.begin x.history k) ≡ Some s) same is in
          let one = mover_follows (slice_index x.words) (slice_index w) (m.begin x.history v) (x.moved v) (turns_of v x.turns) (part v x.history) s t turn g st mk (runs.each v) in
          let two = grown_follows (slice_index w) (m.begin x.history v) (m.begin h v) (Some t) (turns_of v x.turns ++ turn ∷ []) (part v x.history ++ request_of turn) (grows v) one in
          subst (λ es. Follows (slice_index w) (m.begin h v) (Some t) (turns_of v (x.turns ++ record { thread = u; turn = turn } ∷ [])) es) (sym (parts v true here)) (subst (λ ts. Follows (slice_index w) (m.begin h v) (Some t) ts (part v x.history ++ request_of turn)) (sym (its_turns x u v turn true here)) two)
      by_thread false e =
          let other : (u == v) ≡ false = grind (arith, nat_tests) in
          let one = later_follows (slice_index x.words) (slice_index w) (m.begin x.history v) (x.moved v) (turns_of v x.turns) (part v x.history) g (runs.each v) in
          let two = grown_follows (slice_index w) (m.begin x.history v) (m.begin h v) (x.moved v) (turns_of v x.turns) (part v x.history) (grows v) one in
          let p = parts v false other ∙ append-nil (part v x.history) in
          let q = its_turns x u v turn false other ∙ append-nil (turns_of v x.turns) in
          subst (λ es. Follows (slice_index w) (m.begin h v) (x.moved v) (turns_of v (x.turns ++ record { thread = u; turn = turn } ∷ [])) es) (sym p) (subst (λ ts. Follows (slice_index w) (m.begin h v) (x.moved v) ts (part v x.history)) (sym q) two)

  module _ (grows : (d r : List (Event R Y)) (u : ℕ) (s : S) → m.begin d u ≡ Some s → m.begin (d ++ r) u ≡ Some s) where
    -- a turn keeps it so
    pub moved_runs : (x : World R Y S X) (u : ℕ) (s : S) (x' : World R Y S X) → state_of m x u ≡ Some s → Moved m x u s (m.want s) x' → Runs x → Runs x'
    moved_runs x u s x' is (quiet turn t w mk g wr r n) runs = record {
      replays = runs.replays;
      stored = runs.stored;
      each = each_after x u s t turn w x.history is mk g (λ v q e. e) parts runs;
    }
      where
        parts : (v : ℕ) (b : Bool) → (u == v) ≡ b → part v x.history ≡ part v x.history ++ (if b then request_of turn else [])
        parts v true e = sym (append-nil (part v x.history)) ∙ ap (λ l. part v x.history ++ l) (sym r)
        parts v false e = sym (append-nil (part v x.history))
    moved_runs x u s x' is (spoke r z t mk a) runs = record {
      replays = replays_more m.object m.object.first x.history event runs.replays (subst (λ y. Answers m.object y u r z) runs.stored a);
      stored = ap (λ y. m.object.after y u r) runs.stored ∙ sym (replayed-append m.object m.object.first x.history (event ∷ []));
      each = each_after x u s t (Asked (record { request = r; reply = z })) x.words (x.history ++ event ∷ []) is mk (grows_self (slice_index x.words)) (λ v. grows x.history (event ∷ []) v) parts runs;
    }
      where
        event : Event R Y
        event = record { thread = u; request = r; reply = z }

        parts : (v : ℕ) (b : Bool) → (u == v) ≡ b → part v (x.history ++ event ∷ []) ≡ part v x.history ++ (if b then exchange_of event ∷ [] else [])
        parts v b e = part-append v x.history (event ∷ []) ∙ ap (λ q. part v x.history ++ (if q then exchange_of event ∷ [] else [])) e

  -- whatever holds of a world and is kept by each turn of a begun thread holds at the end of a run
  pub run_keeps : (P : World R Y S X → Type 0) → ((x : World R Y S X) (u : ℕ) (s : S) (x' : World R Y S X) → state_of m x u ≡ Some s → Moved m x u s (m.want s) x' → P x → P x') → (ks : List ℕ) (x : World R Y S X) → P x → P (run_from m ks x).world
  run_keeps P step [] x h = h
  run_keeps P step (k ∷ ks) x h = by_choice (chosen (live_threads m.object x.store) k) (run_keeps P step ks)
    where
      by_step : (o : Step R Y S X) → ((y : World R Y S X) → o ≡ Moves y → P y) → ((y : World R Y S X) → P y → P (run_from m ks y).world) → P (onward x o (run_from m ks)).world
      by_step (Moves y) q go = go y (q y refl)
      by_step (Ends e) q go = h

      by_state : (u : ℕ) (o : Option S) → state_of m x u ≡ o → ((y : World R Y S X) → P y → P (run_from m ks y).world) → P (onward x (thread_turn m x u o) (run_from m ks)).world
      by_state u None e go = h
      by_state u (Some s) e go = by_step (turned m x u s (m.want s)) (λ y t. step x u s y e (turned_moved m x u s (m.want s) y t) h) go

      by_choice : (o : Option ℕ) → ((y : World R Y S X) → P y → P (run_from m ks y).world) → P (onward x (chosen_turn m x o) (run_from m ks)).world
      by_choice None go = h
      by_choice (Some u) go = by_state u (state_of m x u) refl go

  leaves_of : (w : ℕ → ℕ) (o moved : Option S) (trail : List (Turn R Y)) (es : List (Exchange R Y)) (d : S) → Follows w o moved trail es → Leaves m.want w o trail (state_or d (first_of moved o)) es
  leaves_of w None moved trail es d f = f.2
  leaves_of w (Some s) moved trail es d f =
      let same : f.0 ≡ state_or d (first_of moved (Some s)) = ap (state_or d) (sym f.1) in
      (subst (λ t. Turns m.want w s trail t) same f.2, f.3)

  module _ (Fits : List ℕ → Type 0) (Holds : List ℕ → S → Type 0) (Known : List ℕ → List (Turn R Y) → ℕ → Type 0) (law : RunLaws m Fits Holds Known) where
    -- what every world of a run keeps
    pub record Sane (x : World R Y S X) : Type 0 where
      pub runs : Runs x
      pub fits : Fits x.words
      pub holds : (u : ℕ) (s : S) → state_of m x u ≡ Some s → Holds x.words s
      pub remembers : (u : ℕ) (v : List ℕ) → Grows (slice_index x.words) (slice_index v) → Remembers (Known v) (turns_of u x.turns)

    -- a thread's state after another's turn, and its beginning
    other_holds : (w w' : List ℕ) (moved o o' : Option S) (s : S) → Grows (slice_index w) (slice_index w') → ((q : S) → first_of moved o ≡ Some q → Holds w q) → ((q : S) → o' ≡ Some q → Holds w' q) → first_of moved o' ≡ Some s → Holds w' s
    other_holds w w' None o o' s g old new e = new s e
    other_holds w w' (Some q) o o' s g old new e = law.later_holds w w' s g (old s e)

    holds_after : (x : World R Y S X) (u : ℕ) (t : S) (w : List ℕ) (h : List (Event R Y)) → Grows (slice_index x.words) (slice_index w) → Fits w → Holds w t → ((v : ℕ) (q : S) → state_of m x v ≡ Some q → Holds x.words q) → (v : ℕ) (q : S) → first_of (with_value x.moved u (Some t) v) (m.begin h v) ≡ Some q → Holds w q
    holds_after x u t w h g fits ok old v q = by_thread (v == u)
      where
        by_thread : (b : Bool) → first_of (if b then Some t else x.moved v) (m.begin h v) ≡ Some q → Holds w q
        by_thread true e = subst (Holds w) (cc e) ok
        by_thread false e = other_holds x.words w (x.moved v) (m.begin x.history v) (m.begin h v) q g (old v) (λ k e'. law.begin_holds w h v k fits e') e

    -- nothing that is known was answered as nothing by the thread that moved
    no_known : (x : World R Y S X) (u : ℕ) (s : S) (v : List ℕ) (turn : Turn R Y) → state_of m x u ≡ Some s → Grows (slice_index x.words) (slice_index v) → Runs x → Fits x.words → ((i : ℕ) → AnswersNothing turn i → slice_index x.words i ≡ 0) → (i : ℕ) → Known v (turns_of u x.turns) i → AnswersNothing turn i → ⊥
    no_known x u s v turn is g runs fits silent i known n = by_begin (m.begin x.history u) (x.moved u) is (runs.each u)
      where
        by_begin : (o moved : Option S) → first_of moved o ≡ Some s → Follows (slice_index x.words) o moved (turns_of u x.turns) (part u x.history) → ⊥
        by_begin None moved e f = let none : first_of moved None ≡ None = ap (λ q. first_of q None) f.0 in cc
        by_begin (Some a) moved e f = law.known_stands x.words v a f.0 (turns_of u x.turns) i fits g f.2 known (silent i n)

    remembers_snoc : (v : List ℕ) (trail : List (Turn R Y)) (turn : Turn R Y) → Remembers (Known v) trail → ((i : ℕ) → Known v trail i → AnswersNothing turn i → ⊥) → Remembers (Known v) (trail ++ turn ∷ [])
    remembers_snoc v trail turn old new before later t i e known n = by_cut (cut_last trail turn before t later e)
      where
        by_cut : CutLast trail turn before t later → ⊥
        by_cut (at_last l s) = new i (subst (λ ts. Known v ts i) l known) (subst (λ y. AnswersNothing y i) s n)
        by_cut (inside rest l) = old before rest t i l known n

    remembers_after : (x : World R Y S X) (u : ℕ) (s : S) (turn : Turn R Y) (w : List ℕ) → state_of m x u ≡ Some s → Grows (slice_index x.words) (slice_index w) → ((i : ℕ) → AnswersNothing turn i → slice_index x.words i ≡ 0) → Sane x → (z : ℕ) (v : List ℕ) → Grows (slice_index w) (slice_index v) → Remembers (Known v) (turns_of z (x.turns ++ record { thread = u; turn = turn } ∷ []))
    remembers_after x u s turn w is g silent sane z v g' = by_thread (u == z) refl
      where
        all : Grows (slice_index x.words) (slice_index v)
        all = grows_then g g'

        by_thread : (b : Bool) → (u == z) ≡ b → Remembers (Known v) (turns_of z (x.turns ++ record { thread = u; turn = turn } ∷ []))
        by_thread true e =
            let same : u ≡ z = eqb-true u z e in
            let new = subst (λ k. (i : ℕ) → Known v (turns_of k x.turns) i → AnswersNothing turn i → ⊥) same (no_known x u s v turn is all sane.runs sane.fits silent) in
            subst (Remembers (Known v)) (sym (its_turns x u z turn true e)) (remembers_snoc v (turns_of z x.turns) turn (sane.remembers z v all) new)
        by_thread false e = subst (Remembers (Known v)) (sym (its_turns x u z turn false e ∙ append-nil (turns_of z x.turns))) (sane.remembers z v all)

    pub moved_sane : (x : World R Y S X) (u : ℕ) (s : S) (x' : World R Y S X) → state_of m x u ≡ Some s → Moved m x u s (m.want s) x' → Sane x → Sane x'
    moved_sane x u s x' is (quiet turn t w mk g wr r n) sane =
        let ok = law.turn_fits x.words w s t turn sane.fits (sane.holds u s is) g mk wr n in
        record {
          runs = moved_runs law.begin_grows x u s _ is (quiet turn t w mk g wr r n) sane.runs;
          fits = ok.0;
          holds = holds_after x u t w x.history g ok.0 ok.1 sane.holds;
          remembers = remembers_after x u s turn w is g n sane;
        }
    moved_sane x u s x' is (spoke r z t mk a) sane =
        let same = grows_self (slice_index x.words) in
        let ok = law.turn_fits x.words x.words s t (Asked (record { request = r; reply = z })) sane.fits (sane.holds u s is) same mk (nothing refl) (λ i e. absurd e) in
        record {
          runs = moved_runs law.begin_grows x u s _ is (spoke r z t mk a) sane.runs;
          fits = ok.0;
          holds = holds_after x u t x.words (x.history ++ record { thread = u; request = r; reply = z } ∷ []) same ok.0 ok.1 sane.holds;
          remembers = remembers_after x u s (Asked (record { request = r; reply = z })) x.words is same (λ i e. absurd e) sane;
        }

    opening_follows : (o : Option S) (w : ℕ → ℕ) → Follows w o None [] []
    opening_follows None w = (refl, refl, refl)
    opening_follows (Some s) w = (s, refl, thread.none, refl)

    pub opening_sane : (words : List ℕ) → Fits words → Sane (opening m words)
    opening_sane words fits = record {
      runs = record { replays = tt; stored = refl; each = λ u. opening_follows (m.begin [] u) (slice_index words) };
      fits = fits;
      holds = λ u s e. law.begin_holds words [] u s fits e;
      remembers = λ u v g before later t i e known n. none before later t e;
    }
      where
        none : (before later : List (Turn R Y)) (t : Turn R Y) → [] ≡ before ++ t ∷ later → ⊥
        none [] later t e = cc e
        none (b ∷ before) later t e = cc e

    pub run_sane : (words schedule : List ℕ) → Fits words → Sane (run m schedule words).world
    run_sane words schedule fits = run_keeps Sane moved_sane schedule (opening m words) (opening_sane words fits)

    -- in every run the words fit at the end
    pub run_fits : (words schedule : List ℕ) → Fits words → Fits (run m schedule words).world.words
    run_fits words schedule fits = (run_sane words schedule fits).fits

    pub sane_is_loose : (d : S) (y : World R Y S X) → Sane y → LooseRun m.object m.want m.begin (slice_index y.words) (Known y.words) y.history (λ u. turns_of u y.turns) (ends_in m d y)
    sane_is_loose d y sane = record {
      replays = sane.runs.replays;
      leaves = λ u. leaves_of (slice_index y.words) (m.begin y.history u) (y.moved u) (turns_of u y.turns) (part u y.history) d (sane.runs.each u);
      remembers = λ u. sane.remembers u y.words (grows_self (slice_index y.words));
    }

    -- every run under a schedule is a loose run with its last words
    pub run_is_loose : (d : S) (words schedule : List ℕ) → Fits words → let y = (run m schedule words).world in LooseRun m.object m.want m.begin (slice_index y.words) (Known y.words) y.history (λ u. turns_of u y.turns) (ends_in m d y)
    run_is_loose d words schedule fits = sane_is_loose d (run m schedule words).world (run_sane words schedule fits)

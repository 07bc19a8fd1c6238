-- The run, from what the code has of it after so many turns.
use Rattle.std.proofs.Common.{◌≡◌, ◌∙◌, ℕ, zero, suc, ◌+◌, ◌<◌, ◌≤◌, List, [], ◌∷◌, ◌++◌, length, map, drop, Bool, true, false, Option, Some, None, slice_get, slice_set, if◌then◌else◌, ◌==◌, refl, sym, ap, subst, arith, eqb-true, eq-eqb, length-set, length-append, append-nil}
use Rattle.std.proofs.lemmas.List.{map-append, append_assoc}
use Rattle.std.proofs.lemmas.Option.{slice_get_within, slice_get_past}
use Rattle.std.proofs.lemmas.Bool.Decides.{nat_tests}
use Rattle.interaction.specs.declared.history.Event.{Event}
use Rattle.interaction.specs.declared.turn.What.{What}
use Rattle.interaction.specs.declared.turn.What.TheVariants as noted
use Rattle.interaction.specs.Thread.{Turn, Asked, what_of}
use Rattle.interaction.specs.Endings.{EndsSo}
use Rattle.interaction.specs.Object.{Answers, is_active, live_threads}
use Rattle.interaction.specs.RunLaws.{ClaimsRight}
use Rattle.interaction.proofs.Choosing.{chosen_lives}
use Rattle.schedules.proofs.DrawLemmas.{inside_of}
use Rattle.interaction.specs.Starts.{begun_by}
use Rattle.interaction.specs.Run.{World, Taken, Moves, Ends, StuckAt, Idle, chosen, first_of, state_of, moved_on, spoken, asked, turned, opening, run_from, run, put_by, claims_in}
use Rattle.interaction.specs.Run as running
use Rattle.rgctx_fill.specs.Moves.{IsReplied}
use Rattle.rgctx_fill.specs.ThreadStates.{ImageData, ThreadData}
use Rattle.rgctx_fill.specs.ThreadTurns.{next_move}
use Rattle.store_object.specs.declared.request.Request.{Request}
use Rattle.store_object.specs.declared.reply.Reply.{Reply}
use Rattle.store_object.specs.Store.{Store}
use Rattle.store_object.specs.Replay.{store, replayed}
use Rattle.store_object.proofs.Histories.{replayed-push, replayed_nothing}
use Rattle.thread_core.specs.declared.record.Turn.{Turn as TurnHere}
use Rattle.thread_core.specs.Listed.{Listed, claim_at, claims_of}
use Rattle.thread_core.specs.Reached.{AreMet, Reached, begun_of}
use Rattle.thread_core.specs.Runs.{opening_words, machine_of, notes_of}
use Rattle.thread_core.specs.Starts.{main_thread, starts, begin}
use Rattle.thread_core.proofs.Begun.{begin_of-push}
use Rattle.thread_core.proofs.FollowLemmas.{followed_on, followed_first, ended_so}
use Rattle.thread_core.proofs.MoveLemmas.{Went, Asking}
use Rattle.thread_core.proofs.Places.{get-set, get-push}
use Rattle.thread_core.proofs.RunSteps.{none_step, moves_step, ends_step, asked_by, quiet_state, spoken_state}

claims_more : (turns : List (Taken Request Reply)) (t : Taken Request Reply) → claims_in (turns ++ t ∷ []) ≡ claims_in turns ++ put_by t.turn
claims_more [] t = append-nil (put_by t.turn)
claims_more (s ∷ turns) t = ap (λ l. put_by s.turn ++ l) (claims_more turns t) ∙ sym (append_assoc (put_by s.turn) (claims_in turns) (put_by t.turn))

-- nothing more
first_none : (a b : Option ThreadData) → first_of a (first_of b None) ≡ first_of a b
first_none None None = refl
first_none None (Some s) = refl
first_none (Some s) b = refl

none_both : (a b c : Option ThreadData) → first_of a b ≡ None → first_of a (first_of b c) ≡ c
none_both None None c e = refl
none_both None (Some s) c e = absurd (cc e)
none_both (Some s) b c e = absurd (cc e)

swap_if : (a b c : Bool) (y z : ThreadData) (o : Option ThreadData) → b ≡ c → (a ≡ true → c ≡ false) → (if a then Some y else (if b then Some z else o)) ≡ (if c then Some z else (if a then Some y else o))
swap_if true b true y z o e apart = absurd (cc (apart refl))
swap_if true b false y z o e apart = refl
swap_if false b c y z o e apart = ap (λ d. if d then Some z else o) e

same_test : (a b : ℕ) → (a == b) ≡ (b == a)
same_test a b = by_test (a == b) refl
  where
    by_test : (d : Bool) → (a == b) ≡ d → d ≡ (b == a)
    by_test true e = sym (eq-eqb b a (sym (eqb-true a b e)))
    by_test false e = let other : (b == a) ≡ false = grind (arith, nat_tests) in sym other

module _ (im : ImageData) (ks : List ℕ) where
  -- before the first turn
  pub reached_first : (l : Listed) → l.words ≡ opening_words im.cat.program → l.claimed ≡ [] → Reached im ks 0 (main_thread im ∷ []) l [] []
  reached_first l words none = record {
    world = opening (machine_of im) (opening_words im.cat.program);
    same = refl;
    history_is = refl;
    store_is = sym replayed_nothing;
    words_are = sym words;
    claims_are = sym (ap (map (claim_at l.words)) none);
    turns_are = refl;
    count = refl;
    each = at_first;
    within = omega arith;
    followed = followed_first im (opening_words im.cat.program);
  }
    where
      at_first : (u : ℕ) → state_of (machine_of im) (opening (machine_of im) (opening_words im.cat.program)) u ≡ slice_get (main_thread im ∷ []) u
      at_first zero = refl
      at_first (suc u) = refl

  module _ (made k : ℕ) (threads : List ThreadData) (l : Listed) (h : List (Event Request Reply)) (turns : List TurnHere) (r : Reached im ks made threads l h turns) (split : drop made ks ≡ k ∷ drop (made + 1) ks) where
    begun_at : run (machine_of im) ks (opening_words im.cat.program) ≡ run_from (machine_of im) (k ∷ drop (made + 1) ks) r.world
    begun_at = r.same ∙ ap (λ rest. run_from (machine_of im) rest r.world) split

    -- nobody lives
    pub nobody : chosen (live_threads store (replayed h)) k ≡ None → run (machine_of im) ks (opening_words im.cat.program) ≡ record { world = r.world; ending = running.Done }
    nobody none = begun_at ∙ none_step (machine_of im) k (drop (made + 1) ks) r.world (ap (λ s. chosen (live_threads store s) k) r.store_is ∙ none)

    module _ (u : ℕ) (s : ThreadData) (choice : chosen (live_threads store (replayed h)) k ≡ Some u) (there : slice_get threads u ≡ Some s) where
      inside : u < length threads
      inside = slice_get_within threads u s there

      chosen_here : chosen (live_threads store r.world.store) k ≡ Some u
      chosen_here = ap (λ x. chosen (live_threads store x) k) r.store_is ∙ choice

      state_here : state_of (machine_of im) r.world u ≡ Some s
      state_here = r.each u ∙ there

      lives_here : is_active store r.world.store u ≡ true
      lives_here = chosen_lives store r.world.store k u chosen_here

      early_here : made < length ks
      early_here = inside_of ks (drop (made + 1) ks) made k split

      -- no turn, so the run ends as a run ends
      pub so_here : (e : running.Ending ThreadData) → ClaimsRight r.world.words ((machine_of im).want s) → turned (machine_of im) r.world u s ((machine_of im).want s) ≡ Ends e → EndsSo (machine_of im) (length ks) r.world e
      so_here e right stops = ended_so im r.world (length ks) u s e right (subst (λ n. n < length ks) (sym r.count) early_here) lives_here state_here stops r.followed

      -- no turn
      pub stops_here : (e : running.Ending ThreadData) → turned (machine_of im) r.world u s ((machine_of im).want s) ≡ Ends e → run (machine_of im) ks (opening_words im.cat.program) ≡ record { world = r.world; ending = e }
      stops_here e stops = begun_at ∙ ends_step (machine_of im) k (drop (made + 1) ks) r.world u s chosen_here state_here e stops

      moved_each : (t : ThreadData) (v : ℕ) → (if v == u then Some t else state_of (machine_of im) r.world v) ≡ slice_get (slice_set threads u t) v
      moved_each t v = ap (λ o. if v == u then Some t else o) (r.each v) ∙ sym (get-set threads u v t inside)

      notes_more : (turn : Turn Request Reply) (what : What) → what_of turn ≡ what → notes_of (r.world.turns ++ record { thread = u; turn = turn } ∷ []) ≡ turns ++ record { thread = u; what = what } ∷ []
      notes_more turn what e =
          map-append (λ (t : Taken Request Reply). record { thread = t.thread; what = what_of t.turn }) r.world.turns (record { thread = u; turn = turn } ∷ [])
          ∙ ap (λ (w : What). notes_of r.world.turns ++ record { thread = u; what = w } ∷ []) e
          ∙ ap (λ (l : List TurnHere). l ++ record { thread = u; what = what } ∷ []) r.turns_are

      counted : (turn : Turn Request Reply) → length (r.world.turns ++ record { thread = u; turn = turn } ∷ []) ≡ made + 1
      counted turn = length-append r.world.turns (record { thread = u; turn = turn } ∷ []) ∙ ap (λ n. n + 1) r.count

      -- a turn that is no request
      pub reached_went : AreMet im.cat l.words → (t : ThreadData) (n : Listed) (what : What) → Went im r.world u s n.words (claims_of l) (claims_of n) what t (next_move im s) → Reached im ks (made + 1) (slice_set threads u t) n h (turns ++ record { thread = u; what = what } ∷ [])
      reached_went met t n what w = record {
        world = moved_on r.world u t w.turn n.words;
        same = begun_at ∙ moves_step (machine_of im) k (drop (made + 1) ks) r.world u s chosen_here state_here (moved_on r.world u t w.turn n.words) w.moves;
        history_is = r.history_is;
        store_is = r.store_is;
        words_are = refl;
        claims_are = claims_more r.world.turns (record { thread = u; turn = w.turn }) ∙ ap (λ c. c ++ put_by w.turn) r.claims_are ∙ sym w.claims;
        turns_are = notes_more w.turn what w.noted;
        count = counted w.turn;
        each = λ v. quiet_state (machine_of im) r.world u v t w.turn n.words ∙ moved_each t v;
        within = omega (arith, early_here);
        followed = followed_on im r.world u s (moved_on r.world u t w.turn n.words) (subst (AreMet im.cat) (sym r.words_are) met) lives_here state_here w.moves r.followed;
      }

      module _ (q : Request) (now : ThreadData) (n : Listed) (a : Asking im r.world u s n.words (claims_of l) (claims_of n) q now (next_move im s)) where
        by_reply : (y : Reply) → store.reply (replayed h) u q ≡ y → turned (machine_of im) r.world u s ((machine_of im).want s) ≡ asked (machine_of im) r.world u s q a.next y
        by_reply y given = a.asks ∙ ap (asked (machine_of im) r.world u s q a.next) (ap (λ x. store.reply x u q) r.store_is ∙ given)

        pub improper_here : (y : Reply) → store.reply (replayed h) u q ≡ y → store.is_improper y ≡ true → turned (machine_of im) r.world u s ((machine_of im).want s) ≡ Ends (StuckAt u s)
        improper_here y given bad = by_reply y given ∙ asked_by (machine_of im) r.world u s q a.next y true (store.is_halted y) bad refl

        pub halted_here : (y : Reply) → store.reply (replayed h) u q ≡ y → store.is_improper y ≡ false → store.is_halted y ≡ true → turned (machine_of im) r.world u s ((machine_of im).want s) ≡ Ends (Idle u)
        halted_here y given proper over = by_reply y given ∙ asked_by (machine_of im) r.world u s q a.next y false true proper over

        module _ (y : Reply) (answers : Answers store (replayed h) u q y) (t : ThreadData) (replied : IsReplied (next_move im s) y t) where
          abbrev event : Event Request Reply
          event = record { thread = u; request = q; reply = y }

          abbrev after : World Request Reply ThreadData Store
          after = spoken (machine_of im) r.world u t q y

          step : turned (machine_of im) r.world u s ((machine_of im).want s) ≡ Moves after
          step =
              by_reply y answers.given
              ∙ asked_by (machine_of im) r.world u s q a.next y false false answers.proper answers.goes_on
              ∙ ap (λ (x : ThreadData). Moves (spoken (machine_of im) r.world u x q y)) (sym (a.replied y t replied))

          -- where a thread stands that did not move
          each_other : (b : Option (ℕ × ThreadData)) → ((c : ℕ × ThreadData) → b ≡ Some c → c.0 ≡ length threads) → (v : ℕ)
              → (if v == u then Some t else first_of (r.world.moved v) (first_of (begin im r.world.history v) (begun_by v b None))) ≡ slice_get (slice_set threads u t ++ begun_of b) v
          each_other None next v =
              ap (λ o. if v == u then Some t else o) (first_none (r.world.moved v) (begin im r.world.history v))
              ∙ moved_each t v
              ∙ ap (λ ts. slice_get ts v) (sym (append-nil (slice_set threads u t)))
          each_other (Some c) next v =
              ap (λ o. if v == u then Some t else o) (rest (c.0 == v) refl)
              ∙ swap_if (v == u) (c.0 == v) (v == length (slice_set threads u t)) t c.1 (slice_get threads v) (same_test c.0 v ∙ ap (λ n. v == n) (sym count)) apart
              ∙ ap (λ o. if v == length (slice_set threads u t) then Some c.1 else o) (sym (get-set threads u v t inside))
              ∙ sym (get-push (slice_set threads u t) v c.1)
            where
              number : c.0 ≡ length threads
              number = next c refl

              count : length (slice_set threads u t) ≡ c.0
              count = length-set threads u t ∙ sym number

              apart : (v == u) ≡ true → (v == length (slice_set threads u t)) ≡ false
              apart e =
                  let here : v ≡ u = eqb-true v u e in
                  let low = inside in
                  let many = length-set threads u t in
                  grind (arith, nat_tests)

              rest : (b : Bool) → (c.0 == v) ≡ b → first_of (r.world.moved v) (first_of (begin im r.world.history v) (if b then Some c.1 else None)) ≡ (if b then Some c.1 else slice_get threads v)
              rest true e =
                  let here : c.0 ≡ v = eqb-true c.0 v e in
                  let beyond : length threads ≤ v = let m = number in omega (arith, here, m) in
                  let absent : state_of (machine_of im) r.world v ≡ None = r.each v ∙ slice_get_past threads v beyond in
                  none_both (r.world.moved v) (begin im r.world.history v) (Some c.1) absent
              rest false e = first_none (r.world.moved v) (begin im r.world.history v) ∙ r.each v

          pub reached_spoken : AreMet im.cat l.words → ((c : ℕ × ThreadData) → starts im q y ≡ Some c → c.0 ≡ length threads)
              → Reached im ks (made + 1) (slice_set threads u t ++ begun_of (starts im q y)) l (h ++ event ∷ []) (turns ++ record { thread = u; what = noted.Action } ∷ [])
          reached_spoken met next = record {
            world = after;
            same = begun_at ∙ moves_step (machine_of im) k (drop (made + 1) ks) r.world u s chosen_here state_here after step;
            history_is = ap (λ (e : List (Event Request Reply)). e ++ event ∷ []) r.history_is;
            store_is = ap (λ x. store.after x u q) r.store_is ∙ sym (replayed-push h u q y);
            words_are = r.words_are;
            claims_are = claims_more r.world.turns (record { thread = u; turn = Asked (record { request = q; reply = y }) }) ∙ append-nil (claims_in r.world.turns) ∙ r.claims_are;
            turns_are = notes_more (Asked (record { request = q; reply = y })) noted.Action refl;
            count = counted (Asked (record { request = q; reply = y }));
            each = λ v.
                spoken_state (machine_of im) r.world u v t q y
                ∙ ap (λ o. if v == u then Some t else first_of (r.world.moved v) o) (begin_of-push (starts im) (main_thread im) r.world.history event v)
                ∙ each_other (starts im q y) next v;
            within = omega (arith, early_here);
            followed = followed_on im r.world u s after (subst (AreMet im.cat) (sym r.words_are) met) lives_here state_here step r.followed;
          }

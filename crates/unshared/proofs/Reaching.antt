-- The run of the processes, from what the code has of it after so many turns.
use Rattle.std.proofs.Common.{◌≡◌, ◌∙◌, ℕ, zero, suc, ◌+◌, ◌<◌, List, [], ◌∷◌, ◌++◌, length, take, drop, Bool, true, false, Option, Some, None, slice_get, slice_set, if◌then◌else◌, ◌==◌, ◌≤◌, refl, sym, ap, arith, eqb-true, eq-eqb, length-set}
use Rattle.std.specs.Prelude.{option_map}
use Rattle.std.proofs.lemmas.List.{map-append, length-map}
use Rattle.std.proofs.lemmas.Option.{slice_get_within, slice_get_past}
use Rattle.std.proofs.lemmas.Bool.Decides.{nat_tests}
use Rattle.type_tree.specs.declared.tree.TExpr.{TExpr}
use Rattle.il_model.specs.declared.program.Program.{Program}
use Rattle.interaction.specs.declared.history.Event.{Event}
use Rattle.interaction.specs.declared.turn.What.{What}
use Rattle.interaction.specs.Process.{Naming, Next}
use Rattle.interaction.specs.Thread.{Turn, Did, Asked, Go, Ask}
use Rattle.interaction.specs.Object.{Answers, live_threads}
use Rattle.interaction.specs.Starts.{as_process, begun_by}
use Rattle.interaction.specs.Run.{World, Outcome, Taken, chosen, first_of, state_of, moved_on, spoken, opening, run_from, run}
use Rattle.interaction.specs.Run as running
use Rattle.store_object.specs.declared.ending.Ending.{Ending}
use Rattle.store_object.specs.declared.request.Request.{Request}
use Rattle.store_object.specs.declared.reply.Reply.{Reply}
use Rattle.store_object.specs.Store.{Store}
use Rattle.store_object.specs.Replay.{store, replayed}
use Rattle.store_object.proofs.Histories.{replayed-push, replayed_nothing}
use Rattle.cil_meaning.specs.Naming.{Mention}
use Rattle.cil_meaning.specs.Frames.{Frames}
use Rattle.cil_meaning.specs.Replies.{Left}
use Rattle.cil_meaning.specs.Shown.{History}
use Rattle.cil_meaning.specs.Threads.{main_frames, starts, begin}
use Rattle.unshared.specs.declared.thread.Thread.{Thread as ThreadHere}
use Rattle.unshared.specs.Turns.{want, machine}
use Rattle.unshared.specs.Runs.{order_of, ending_at, IsRun}
use Rattle.unshared.specs.Reached.{Reached}
use Rattle.unshared.specs.Standing.{stands}
use Rattle.unshared.proofs.Begun.{process-push}
use Rattle.unshared.proofs.Places.{seen-set, seen-push}
use Rattle.unshared.proofs.Stepping.{quiet_step, spoken_step, quiet_state, spoken_state}

module _ (n : Naming Mention TExpr) (p : Program) (ks : List ℕ) where
  -- before the first turn
  pub reached_first : (t : ThreadHere) → stands n p t ≡ Next (main_frames p) → Reached n p ks 0 (t ∷ []) [] []
  reached_first t e = record {
    world = opening (machine p n) [];
    same = refl;
    history_is = refl;
    store_is = sym replayed_nothing;
    order_is = refl;
    each = at_first;
  }
    where
      at_first : (u : ℕ) → state_of (machine p n) (opening (machine p n) []) u ≡ option_map (stands n p) (slice_get (t ∷ []) u)
      at_first zero = ap Some (sym e)
      at_first (suc u) = refl

  order_more : (turns : List (Taken Request Reply)) (u : ℕ) (turn : Turn Request Reply) (order : List ℕ) → order_of turns ≡ order → order_of (turns ++ record { thread = u; turn = turn } ∷ []) ≡ order ++ u ∷ []
  order_more turns u turn order e = map-append (λ (t : Taken Request Reply). t.thread) turns (record { thread = u; turn = turn } ∷ []) ∙ ap (λ l. l ++ u ∷ []) e

  module _ (made k : ℕ) (threads : List ThreadHere) (h : History) (order : List ℕ) (r : Reached n p ks made threads h order) (split : drop made ks ≡ k ∷ drop (made + 1) ks)
      (u : ℕ) (t new : ThreadHere) (choice : chosen (live_threads store (replayed h)) k ≡ Some u) (there : slice_get threads u ≡ Some t) where
    inside : u < length threads
    inside = slice_get_within threads u t there

    chosen_here : chosen (live_threads store r.world.store) k ≡ Some u
    chosen_here = ap (λ s. chosen (live_threads store s) k) r.store_is ∙ choice

    state_here : state_of (machine p n) r.world u ≡ Some (stands n p t)
    state_here = r.each u ∙ ap (option_map (stands n p)) there

    begun_at : run (machine p n) ks [] ≡ run_from (machine p n) (k ∷ drop (made + 1) ks) r.world
    begun_at = r.same ∙ ap (λ l. run_from (machine p n) l r.world) split

    moved_each : (v : ℕ) → (if v == u then Some (stands n p new) else state_of (machine p n) r.world v) ≡ option_map (stands n p) (slice_get (slice_set threads u new) v)
    moved_each v = ap (λ o. if v == u then Some (stands n p new) else o) (r.each v) ∙ sym (seen-set (stands n p) threads u v new inside)

    -- an instruction that made no request
    pub reached_quiet : (a : What) → want n p (stands n p t) ≡ Go a (stands n p new) → Reached n p ks (made + 1) (slice_set threads u new) h (order ++ u ∷ [])
    reached_quiet a e = record {
      world = moved_on r.world u (stands n p new) (Did a) r.world.words;
      same = begun_at ∙ quiet_step (machine p n) k (drop (made + 1) ks) r.world u (stands n p t) chosen_here state_here a (stands n p new) e;
      history_is = r.history_is;
      store_is = r.store_is;
      order_is = order_more r.world.turns u (Did a) order r.order_is;
      each = λ v. quiet_state (machine p n) r.world u v (stands n p new) (Did a) r.world.words ∙ moved_each v;
    }

    module _ (q : Request) (g : Reply → Left) (y : Reply) (e : want n p (stands n p t) ≡ Ask q g) (left : stands n p new ≡ g y) (answers : Answers store (replayed h) u q y) where
      abbrev pub event : Event Request Reply
      event = record { thread = u; request = q; reply = y }

      told : store.reply r.world.store u q ≡ y
      told = ap (λ s. store.reply s u q) r.store_is ∙ answers.given

      abbrev pub after : World Request Reply Left Store
      after = spoken (machine p n) r.world u (g y) q y

      step : run (machine p n) ks [] ≡ run_from (machine p n) (drop (made + 1) ks) after
      step = begun_at ∙ spoken_step (machine p n) k (drop (made + 1) ks) r.world u (stands n p t) chosen_here state_here q g y e told answers.proper answers.goes_on

      history_after : after.history ≡ h ++ event ∷ []
      history_after = ap (λ l. l ++ event ∷ []) r.history_is

      store_after : after.store ≡ replayed (h ++ event ∷ [])
      store_after = ap (λ s. store.after s u q) r.store_is ∙ sym (replayed-push h u q y)

      -- where a thread stands that did not move
      others : (v : ℕ) → first_of (r.world.moved v) (begin p (r.world.history ++ event ∷ []) v) ≡ first_of (r.world.moved v) (first_of (begin p r.world.history v) (as_process (begun_by v (starts p q y) None)))
      others v = ap (first_of (r.world.moved v)) (process-push (main_frames p) (starts p) r.world.history event v)

      state_after : (v : ℕ) → state_of (machine p n) after v ≡ (if v == u then Some (stands n p new) else first_of (r.world.moved v) (first_of (begin p r.world.history v) (as_process (begun_by v (starts p q y) None))))
      state_after v =
          spoken_state (machine p n) r.world u v (g y) q y
          ∙ ap (λ s. if v == u then Some s else first_of (r.world.moved v) (begin p (r.world.history ++ event ∷ []) v)) (sym left)
          ∙ ap (λ o. if v == u then Some (stands n p new) else o) (others v)

      -- nothing more, or one more beginning
      first_none : (a b : Option Left) → first_of a (first_of b None) ≡ first_of a b
      first_none None None = refl
      first_none None (Some s) = refl
      first_none (Some s) b = refl

      -- a request that starts no thread
      pub reached_spoken : starts p q y ≡ None → Reached n p ks (made + 1) (slice_set threads u new) (h ++ event ∷ []) (order ++ u ∷ [])
      reached_spoken none = record {
        world = after;
        same = step;
        history_is = history_after;
        store_is = store_after;
        order_is = order_more r.world.turns u (Asked (record { request = q; reply = y })) order r.order_is;
        each = λ v.
            state_after v
            ∙ ap (λ s. if v == u then Some (stands n p new) else first_of (r.world.moved v) (first_of (begin p r.world.history v) (as_process (begun_by v s None)))) none
            ∙ ap (λ o. if v == u then Some (stands n p new) else o) (first_none (r.world.moved v) (begin p r.world.history v))
            ∙ moved_each v;
      }

      -- a request that starts the next thread, in these frames
      module _ (w : ℕ) (fr : Frames) (begun : ThreadHere) (starting : starts p q y ≡ Some (w, fr)) (next : w ≡ length threads) (stands_there : stands n p begun ≡ Next fr) where
        none_both : (a b c : Option Left) → first_of a b ≡ None → first_of a (first_of b c) ≡ c
        none_both None None c e = refl
        none_both None (Some s) c e = absurd (cc e)
        none_both (Some s) b c e = absurd (cc e)

        -- where thread v stands, if it did not move
        rest_state : (v : ℕ) (b : Bool) → (w == v) ≡ b → first_of (r.world.moved v) (first_of (begin p r.world.history v) (as_process (if b then Some fr else None))) ≡ (if b then Some (stands n p begun) else option_map (stands n p) (slice_get threads v))
        rest_state v true e =
            let here : w ≡ v = eqb-true w v e in
            let beyond : length threads ≤ v = omega (arith, here, next) in
            let nobody : state_of (machine p n) r.world v ≡ None = r.each v ∙ ap (option_map (stands n p)) (slice_get_past threads v beyond) in
            none_both (r.world.moved v) (begin p r.world.history v) (Some (Next fr)) nobody ∙ ap Some (sym stands_there)
        rest_state v false e = first_none (r.world.moved v) (begin p r.world.history v) ∙ r.each v

        swap_if : (a b c : Bool) (x z : Left) (o : Option Left) → b ≡ c → (a ≡ true → c ≡ false) → (if a then Some x else (if b then Some z else o)) ≡ (if c then Some z else (if a then Some x else o))
        swap_if true b true x z o e apart = absurd (cc (apart refl))
        swap_if true b false x z o e apart = refl
        swap_if false b c x z o e apart = ap (λ d. if d then Some z else o) e

        same_test : (a b : ℕ) → (a == b) ≡ (b == a)
        same_test a b = by_test (a == b) refl
          where
            by_test : (d : Bool) → (a == b) ≡ d → d ≡ (b == a)
            by_test true e = sym (eq-eqb b a (sym (eqb-true a b e)))
            by_test false e = let other : (b == a) ≡ false = grind (arith, nat_tests) in sym other

        count : length (slice_set threads u new) ≡ w
        count = length-set threads u new ∙ sym next

        at_end : (v : ℕ) → (w == v) ≡ (v == length (slice_set threads u new))
        at_end v = same_test w v ∙ ap (λ k. v == k) (sym count)

        apart : (v : ℕ) → (v == u) ≡ true → (v == length (slice_set threads u new)) ≡ false
        apart v e =
            let here : v ≡ u = eqb-true v u e in
            let low = inside in
            let many = length-set threads u new in
            grind (arith, nat_tests)

        pub reached_started : Reached n p ks (made + 1) (slice_set threads u new ++ begun ∷ []) (h ++ event ∷ []) (order ++ u ∷ [])
        reached_started = record {
          world = after;
          same = step;
          history_is = history_after;
          store_is = store_after;
          order_is = order_more r.world.turns u (Asked (record { request = q; reply = y })) order r.order_is;
          each = λ v.
              state_after v
              ∙ ap (λ s. if v == u then Some (stands n p new) else first_of (r.world.moved v) (first_of (begin p r.world.history v) (as_process (begun_by v s None)))) starting
              ∙ ap (λ o. if v == u then Some (stands n p new) else o) (rest_state v (w == v) refl)
              ∙ swap_if (v == u) (w == v) (v == length (slice_set threads u new)) (stands n p new) (stands n p begun) (option_map (stands n p) (slice_get threads v)) (at_end v) (apart v)
              ∙ ap (λ o. if v == length (slice_set threads u new) then Some (stands n p begun) else o) (sym (seen-set (stands n p) threads u v new inside))
              ∙ sym (seen-push (stands n p) (slice_set threads u new) v begun);
        }

  -- A run that ends where it has come: what a record of it says.
  pub ends_here : (made : ℕ) (threads : List ThreadHere) (h : History) (schedule order : List ℕ) (r : Reached n p ks made threads h order) (e : running.Ending Left) (ending : Ending) →
      run (machine p n) ks [] ≡ record { world = r.world; ending = e } → schedule ≡ take made ks → length order ≡ made → ending ≡ ending_at h e → IsRun (run (machine p n) ks []) ks schedule order h ending
  ends_here made threads h schedule order r e ending whole drawn count end =
      let turns : length r.world.turns ≡ made = sym (length-map r.world.turns (λ (t : Taken Request Reply). t.thread)) ∙ ap length r.order_is ∙ count in
      record {
        schedule_is = drawn ∙ ap (λ k. take k ks) (sym turns) ∙ ap (λ (o : Outcome Request Reply Left Store). take (length o.world.turns) ks) (sym whole);
        order_is = sym r.order_is ∙ ap (λ (o : Outcome Request Reply Left Store). order_of o.world.turns) (sym whole);
        history_is = sym r.history_is ∙ ap (λ (o : Outcome Request Reply Left Store). o.world.history) (sym whole);
        ending_is = end ∙ ap (λ l. ending_at l e) (sym r.history_is) ∙ ap (λ (o : Outcome Request Reply Left Store). ending_at o.world.history o.ending) (sym whole);
      }

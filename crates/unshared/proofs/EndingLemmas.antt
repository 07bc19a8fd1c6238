-- A run that comes to a thread without a turn ends there.
use Rattle.std.proofs.Common.{Vec, Global, ◌<◌, ◌==◌, if◌then◌else◌, eq-eqb, arith, ◌≡◌, ◌∙◌, ⊎_elim, ℕ, ◌+◌, List, [], ◌∷◌, drop, length, Bool, true, false, ◌||◌, Some, None, slice_get, refl, sym, ap, subst}
use Rattle.std.specs.Prelude.{option_map}
use Rattle.std.specs.List.{last_or}
use Rattle.std.proofs.lemmas.Bool.Decides.{nat_tests}
use Rattle.interaction.proofs.Choosing.{chosen_none}
use Rattle.store_object.specs.declared.ending.Ending.{Ending}
use Rattle.store_object.specs.declared.ending.Ending.TheVariants as ends
use Rattle.store_object.specs.Store.{Store}
use Rattle.type_inst.specs.Opening.{Extends}
use Rattle.type_inst.proofs.OpeningLemmas.{extends_both}
use Rattle.type_tree.specs.declared.tree.TExpr.{TExpr}
use Rattle.il_model.specs.declared.program.Program.{Program}
use Rattle.interaction.specs.Process.{Naming, Next, Settle, Spell, Ask, Over, Stuck}
use Rattle.interaction.specs.Thread as thread
use Rattle.interaction.specs.Object.{live_threads}
use Rattle.interaction.specs.Run.{World, Outcome, chosen, state_of, run_from, run}
use Rattle.interaction.specs.Run as running
use Rattle.store_object.specs.declared.request.Request.{Request}
use Rattle.store_object.specs.declared.reply.Reply.{Reply}
use Rattle.store_object.specs.Answer.{answer}
use Rattle.store_object.specs.Replay.{store, replayed, is_halted, is_improper}
use Rattle.cil_meaning.specs.Naming.{Mention}
use Rattle.cil_meaning.specs.Replies.{Left}
use Rattle.cil_meaning.specs.Shown.{History}
use Rattle.unshared.specs.declared.thread.Thread.{Thread as ThreadHere}
use Rattle.unshared.specs.Turns.{silent, begun, wants, want, machine}
use Rattle.unshared.specs.declared.thread.Turn.TheVariants as turn
use Rattle.unshared.specs.declared.whole.Run.{Run as RunHere}
use Rattle.unshared.specs.Listed.{naming_of}
use Rattle.schedules.specs.Ends.{ended_by}
use Rattle.unshared.specs.Runs.{last_ending, ending_at, ending_for, no_rule, Waits, HasNumbersFor}
use Rattle.unshared.specs.Reached.{Reached, IsAt, HasEnded, Ends}
use Rattle.unshared.specs.Standing.{stands}
use Rattle.unshared.specs.Took.{HasNone, IsRefused, Moved}
use Rattle.schedules.proofs.DrawLemmas.{inside_of}
use Rattle.unshared.proofs.Stepping.{none_step, fault_step, over_step, improper_step, halted_step}

-- what asks doesn't wait for a number
asks_not_waits : (n : Naming Mention TExpr) (q : Left) (r : Request) (g : Reply → Left) → wants n q ≡ thread.Ask r g → Waits q → ⊥
asks_not_waits n (Next f) r g e w = w
asks_not_waits n (Settle m k) r g e w = cc e
asks_not_waits n (Spell i k) r g e w = cc e
asks_not_waits n (Ask q k) r g e w = w
asks_not_waits n Over r g e w = w
asks_not_waits n Stuck r g e w = w

-- how it ends, and that this is for want of a rule and of no number
pub record EndsSo (n : Naming Mention TExpr) (p : Program) (ks : List ℕ) (h : History) (world : World Request Reply Left Store) : Type 0 where
  pub ending : running.Ending Left
  pub whole : run (machine p n) ks [] ≡ record { world = world; ending = ending }
  pub named : no_rule ≡ ending_at h ending
  pub numbered : HasNumbersFor n p ending

module _ (n : Naming Mention TExpr) (p : Program) (ks : List ℕ) (made k u : ℕ) (threads : List ThreadHere) (h : History) (order : List ℕ) (r : Reached n p ks made threads h order)
    (split : drop made ks ≡ k ∷ drop (made + 1) ks) (choice : chosen (live_threads store (replayed h)) k ≡ Some u) (t : ThreadHere) (there : slice_get threads u ≡ Some t) where
  chosen_here : chosen (live_threads store r.world.store) k ≡ Some u
  chosen_here = ap (λ s. chosen (live_threads store s) k) r.store_is ∙ choice

  state_here : state_of (machine p n) r.world u ≡ Some (stands n p t)
  state_here = r.each u ∙ ap (option_map (stands n p)) there

  begun_at : run (machine p n) ks [] ≡ run_from (machine p n) (k ∷ drop (made + 1) ks) r.world
  begun_at = r.same ∙ ap (λ l. run_from (machine p n) l r.world) split

  by_stuck : silent n (begun n p (stands n p t)) ≡ Stuck → EndsSo n p ks h r.world
  by_stuck e = record {
    ending = running.StuckAt u (stands n p t);
    whole = begun_at ∙ fault_step (machine p n) k (drop (made + 1) ks) r.world u (stands n p t) chosen_here state_here (ap (wants n) e);
    named = refl;
    numbered = subst (λ q. Waits q → ⊥) (sym e) (λ w. w);
  }

  by_over : want n p (stands n p t) ≡ thread.Over → EndsSo n p ks h r.world
  by_over e = record {
    ending = running.Idle u;
    whole = begun_at ∙ over_step (machine p n) k (drop (made + 1) ks) r.world u (stands n p t) chosen_here state_here e;
    named = refl;
    numbered = tt;
  }

  told : (q : Request) → store.reply r.world.store u q ≡ (answer (replayed h) u q).0
  told q = ap (λ s. (answer s u q).0) r.store_is

  by_reply : (q : Request) (g : Reply → Left) → want n p (stands n p t) ≡ thread.Ask q g → (improper halted : Bool) → is_improper (answer (replayed h) u q).0 ≡ improper → is_halted (answer (replayed h) u q).0 ≡ halted →
      (halted || improper) ≡ true → EndsSo n p ks h r.world
  by_reply q g e true halted bad ended refused = record {
    ending = running.StuckAt u (stands n p t);
    whole = begun_at ∙ improper_step (machine p n) k (drop (made + 1) ks) r.world u (stands n p t) chosen_here state_here q g (answer (replayed h) u q).0 e (told q) bad;
    named = refl;
    numbered = asks_not_waits n (silent n (begun n p (stands n p t))) q g e;
  }
  by_reply q g e false true bad ended refused = record {
    ending = running.Idle u;
    whole = begun_at ∙ halted_step (machine p n) k (drop (made + 1) ks) r.world u (stands n p t) chosen_here state_here q g (answer (replayed h) u q).0 e (told q) bad ended;
    named = refl;
    numbered = tt;
  }
  by_reply q g e false false bad ended refused = absurd (cc refused)

  by_refused : IsRefused n p u h (stands n p t) → EndsSo n p ks h r.world
  by_refused f = by_reply f.request f.left f.wants (is_improper (answer (replayed h) u f.request).0) (is_halted (answer (replayed h) u f.request).0) refl refl f.refused

  ends_there : HasNone n p u h (stands n p t) → EndsSo n p ks h r.world
  ends_there none = ⊎_elim by_stuck (λ rest. ⊎_elim by_over by_refused rest) none

-- What the code has where the run ends. ---------------------------------------

-- a thread lives that a number of the schedule chose
no_rule_for : (ks : List ℕ) (made : ℕ) (h : History) (live : List ℕ) (k u : ℕ) → made < length ks → chosen live k ≡ Some u → no_rule ≡ ending_for (length ks) made h live
no_rule_for ks made h [] k u below e = absurd (cc e)
no_rule_for ks made h (v ∷ vs) k u below e =
    let differ : (made == length ks) ≡ false = grind (arith, nat_tests, below) in
    sym (ap (λ b. if b then ends.Turns else no_rule) differ)

-- the turns are used up
last_for : (turns made : ℕ) (h : History) (live : List ℕ) → made ≡ turns → last_ending h live ≡ ending_for turns made h live
last_for turns made h [] full = refl
last_for turns made h (v ∷ vs) full = sym (ap (λ b. if b then ends.Turns else no_rule) (eq-eqb made turns full))

module _ (p : Program) (ks : List ℕ) (made : ℕ) (r : RunHere) (at : IsAt p ks made r) where
  -- there is no rule; types may have got numbers
  module _ (k u : ℕ) (mid : RunHere) (split : drop made ks ≡ k ∷ drop (made + 1) ks) (choice : chosen (live_threads store (replayed r.world.history)) k ≡ Some u)
      (moved : Moved p u r.threads.items mid.threads.items r.trees.kinds mid.trees.kinds r.world.history mid.world.history turn.NoRule) (schedule : mid.schedule ≡ r.schedule) (order : mid.order ≡ r.order) where
    pub ended_at : Ends p ks made mid no_rule
    ended_at later ext =
        let before = at.reached later (extends_both r.trees.kinds mid.trees.kinds later moved.grown.extends ext) in
        let none = moved.took later ext in
        let same : r.world.history ≡ mid.world.history = sym none.1 in
        let end = ends_there (naming_of later) p ks made k u r.threads.items r.world.history r.order.items before split choice moved.old moved.there none.0 in
        record {
          threads = r.threads.items;
          reached = record {
            world = before.world;
            same = before.same;
            history_is = before.history_is ∙ same;
            store_is = before.store_is ∙ ap replayed same;
            order_is = before.order_is ∙ ap (λ (l : Vec ℕ Global). l.items) (sym order);
            each = before.each;
          };
          ending = end.ending;
          whole = end.whole;
          named = end.named ∙ ap (λ h. ending_at h end.ending) same;
          numbered = end.numbered;
          so = no_rule_for ks made r.world.history (live_threads store (replayed r.world.history)) k u (inside_of ks (drop (made + 1) ks) made k split) choice
              ∙ ap (λ h. ending_for (length ks) made h (live_threads store (replayed h))) same;
          once = moved.grown.once;
          schedule = ap (λ (l : Vec ℕ Global). l.items) schedule ∙ at.schedule;
          count = ap (λ (l : Vec ℕ Global). length l.items) order ∙ at.count;
        }

  -- it ends as the run does from this world on
  ended_so : (later : List TExpr) → Extends r.trees.kinds later → (e : running.Ending Left) (end : Ending) →
      ((world : World Request Reply Left Store) → world.store ≡ replayed r.world.history → run_from (machine p (naming_of later)) (drop made ks) world ≡ record { world = world; ending = e }) →
      end ≡ ending_at r.world.history e → HasNumbersFor (naming_of later) p e → end ≡ ending_for (length ks) made r.world.history (live_threads store (replayed r.world.history)) →
      HasEnded p ks made r (naming_of later) end
  ended_so later ext e end rest named numbered so =
      let here = at.reached later ext in
      record {
        threads = r.threads.items;
        reached = here;
        ending = e;
        whole = here.same ∙ rest here.world here.store_is;
        named = named;
        numbered = numbered;
        so = so;
        once = at.ready.once;
        schedule = at.schedule;
        count = at.count;
      }

  -- nobody lives
  pub done_at : (k : ℕ) → drop made ks ≡ k ∷ drop (made + 1) ks → chosen (live_threads store (replayed r.world.history)) k ≡ None → Ends p ks made r (ended_by (last_or None r.world.history))
  done_at k split nobody later ext = ended_so later ext running.Done (ended_by (last_or None r.world.history))
      (λ world is. ap (λ l. run_from (machine p (naming_of later)) l world) split
      ∙ none_step (machine p (naming_of later)) k (drop (made + 1) ks) world (ap (λ s. chosen (live_threads store s) k) is ∙ nobody))
      refl tt (sym (ap (ending_for (length ks) made r.world.history) (chosen_none (live_threads store (replayed r.world.history)) k nobody)))

  -- the numbers are used up
  used_so : (later : List TExpr) (live : List ℕ) → drop made ks ≡ [] → live_threads store (replayed r.world.history) ≡ live → (world : World Request Reply Left Store) → world.store ≡ replayed r.world.history →
      run_from (machine p (naming_of later)) (drop made ks) world ≡ record { world = world; ending = running.used_up live }
  used_so later live none lives world is =
      ap (λ l. run_from (machine p (naming_of later)) l world) none
      ∙ ap (λ s. record { world = world; ending = running.used_up (live_threads store s) }) is
      ∙ ap (λ l. record { world = world; ending = running.used_up l }) lives

  pub last_at : (live : List ℕ) → made ≡ length ks → drop made ks ≡ [] → live_threads store (replayed r.world.history) ≡ live → Ends p ks made r (last_ending r.world.history live)
  last_at live full none lives later ext = by_live live none lives (last_for (length ks) made r.world.history live full ∙ ap (ending_for (length ks) made r.world.history) (sym lives))
    where
      by_live : (l : List ℕ) → drop made ks ≡ [] → live_threads store (replayed r.world.history) ≡ l → last_ending r.world.history l ≡ ending_for (length ks) made r.world.history (live_threads store (replayed r.world.history)) →
          HasEnded p ks made r (naming_of later) (last_ending r.world.history l)
      by_live [] used is so = ended_so later ext running.Done (ended_by (last_or None r.world.history)) (used_so later [] used is) refl tt so
      by_live (u ∷ us) used is so = ended_so later ext running.TurnsUsed ends.Turns (used_so later (u ∷ us) used is) refl tt so

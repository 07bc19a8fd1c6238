-- The run as the code has it, from one turn to the next.
use Rattle.std.proofs.Common.{◌≡◌, ◌∙◌, ℕ, Vec, Global, ◌&&◌, not, zero, suc, ◌+◌, ◌<◌, List, [], ◌∷◌, ◌++◌, length, take, drop, Bool, true, false, ◌==◌, if◌then◌else◌, Option, Some, None, slice_get, slice_set, get_or, sym, ap, subst, arith, length-append, length-set, drop-cons}
use Rattle.std.proofs.lemmas.List.{take_more}
use Rattle.std.proofs.lemmas.Option.{slice_get_within}
use Rattle.type_tree.specs.declared.tree.TExpr.{TExpr}
use Rattle.il_model.specs.declared.program.Program.{Program}
use Rattle.interaction.specs.declared.history.Event.{Event}
use Rattle.interaction.specs.Process.{Naming}
use Rattle.interaction.specs.Object.{Answers, live_threads}
use Rattle.interaction.proofs.Choosing.{chosen_lives}
use Rattle.interaction.specs.Run.{chosen}
use Rattle.store_object.specs.declared.request.Request.{Request}
use Rattle.store_object.specs.declared.reply.Reply.{Reply}
use Rattle.store_object.specs.Store.{opening, is_live}
use Rattle.store_object.proofs.StoreLaws.{lives_below}
use Rattle.store_object.specs.Answer.{answer}
use Rattle.store_object.specs.Replay.{store, replayed}
use Rattle.store_object.proofs.Histories.{replayed-push, replayed_nothing}
use Rattle.cil_meaning.specs.Naming.{Mention}
use Rattle.cil_meaning.specs.Frames.{Frames}
use Rattle.cil_meaning.specs.Threads.{main_frames, starts, started_frames}
use Rattle.type_inst.specs.Opening.{Extends}
use Rattle.type_inst.proofs.OpeningLemmas.{extends_both, extends_itself}
use Rattle.cil_meaning.specs.Replies.{Left}
use Rattle.unshared.specs.declared.thread.Thread.{Thread as ThreadHere}
use Rattle.unshared.specs.declared.whole.Run.{Run as RunHere}
use Rattle.unshared.specs.Growing.{Grown}
use Rattle.unshared.specs.Listed.{naming_of, IsOnce}
use Rattle.schedules.specs.Living.{HasStarted, change_of, finished_after, over_after}
use Rattle.unshared.specs.Reached.{Reached, IsAt, IsReady, IsNoted}
use Rattle.unshared.specs.Standing.{stands, IsFine}
use Rattle.unshared.specs.declared.thread.Turn.TheVariants as turn
use Rattle.unshared.specs.Took.{IsBegun, Moved, Quietly, Spoke}
use Rattle.unshared.proofs.Counting.{count_none, count_one}
use Rattle.schedules.proofs.DrawLemmas.{inside_of}
use Rattle.schedules.proofs.Following.{followed_by}
use Rattle.unshared.proofs.Places.{get-set, get-push}
use Rattle.unshared.proofs.Reaching.{reached_first, reached_quiet, reached_spoken, reached_started}

-- Numbers drawn. ------------------------------------------------------------

take_one : (ks rest : List ℕ) (i k : ℕ) → drop i ks ≡ k ∷ rest → take (i + 1) ks ≡ take i ks ++ k ∷ []
take_one ks rest i k e =
    let within = inside_of ks rest i k e in
    let first : get_or ks i 0 ≡ k = cc (drop-cons ks i 0 within, e) in
    take_more ks i 0 within ∙ ap (λ x. take i ks ++ x ∷ []) first

-- Threads. ------------------------------------------------------------------

pub begun_fine : (n : Naming Mention TExpr) (p : Program) (t : ThreadHere) (f : Frames) → IsBegun p t f → IsFine n p t
begun_fine n p t f b = let goes = b.goes in let unasked = b.unasked in rw (goes, unasked) tt

one_number : (a b : ℕ) (f : Frames) → ◌≡◌ {A = Option (ℕ × Frames)} (Some (a, f)) (Some (b, f)) → a ≡ b
one_number a b f e = ap number_of e
  where
    number_of : Option (ℕ × Frames) → ℕ
    number_of None = 0
    number_of (Some q) = q.0

module _ (p : Program) (ks : List ℕ) where
  -- before the first turn
  pub at_first : (r : RunHere) (t : ThreadHere) → r.threads.items ≡ t ∷ [] → IsBegun p t (main_frames p) → HasStarted r.started opening → r.world.history ≡ [] → r.schedule.items ≡ [] → r.order.items ≡ [] → r.trees.kinds ≡ [] → IsAt p ks 0 r
  at_first r t threads begun lives history schedule order kinds = record {
    reached = λ later ext. rw (threads, history, order) (reached_first (naming_of later) p ks t (begun.there (naming_of later)));
    ready = record {
      fine = λ u s e later ext. by_place u s (ap (λ ts. slice_get ts u) (sym threads) ∙ e) later;
      once = rw kinds none_twice;
      lives = rw (history, replayed_nothing) lives;
      threads = ap length threads ∙ sym (ap (λ h. length (replayed h).finished) history ∙ ap (λ s. length s.finished) replayed_nothing);
    };
    schedule = schedule;
    count = ap length order;
  }
    where
      none_twice : IsOnce []
      none_twice i j t e f = absurd (cc e)

      by_place : (u : ℕ) (s : ThreadHere) → slice_get (t ∷ []) u ≡ Some s → (later : List TExpr) → IsFine (naming_of later) p s
      by_place zero s e later = let same : t ≡ s = cc e in subst (λ q. IsFine (naming_of later) p q) same (begun_fine (naming_of later) p t (main_frames p) begun)
      by_place (suc u) s e later = absurd (cc e)

  module _ (made k u : ℕ) (r next : RunHere) (at : IsAt p ks made r) (split : drop made ks ≡ k ∷ drop (made + 1) ks) (choice : chosen (live_threads store (replayed r.world.history)) k ≡ Some u)
      (t new : ThreadHere) (there : slice_get r.threads.items u ≡ Some t) (grown : Grown r.trees.kinds next.trees.kinds)
      (schedule : next.schedule.items ≡ r.schedule.items ++ k ∷ []) (order : next.order.items ≡ r.order.items ++ u ∷ [])
      (fine : (later : List TExpr) → Extends next.trees.kinds later → IsFine (naming_of later) p new) where
    inside : u < length r.threads.items
    inside = slice_get_within r.threads.items u t there

    before : (later : List TExpr) → Extends next.trees.kinds later → Extends r.trees.kinds later
    before later ext = extends_both r.trees.kinds next.trees.kinds later grown.extends ext

    drawn : next.schedule.items ≡ take (made + 1) ks
    drawn = schedule ∙ ap (λ l. l ++ k ∷ []) at.schedule ∙ sym (take_one ks (drop (made + 1) ks) made k split)

    counted : length next.order.items ≡ made + 1
    counted = ap length order ∙ length-append r.order.items (u ∷ []) ∙ ap (λ m. m + 1) at.count

    fine_by : (v : ℕ) (s : ThreadHere) (b : Bool) → (if b then Some new else slice_get r.threads.items v) ≡ Some s → (later : List TExpr) → Extends next.trees.kinds later → IsFine (naming_of later) p s
    fine_by v s true e later ext = let same : new ≡ s = cc e in subst (λ q. IsFine (naming_of later) p q) same (fine later ext)
    fine_by v s false e later ext = at.ready.fine v s e later (before later ext)

    fine_set : (v : ℕ) (s : ThreadHere) → slice_get (slice_set r.threads.items u new) v ≡ Some s → (later : List TExpr) → Extends next.trees.kinds later → IsFine (naming_of later) p s
    fine_set v s e later ext = fine_by v s (v == u) (sym (get-set r.threads.items u v new inside) ∙ e) later ext

    at_quiet : next.threads.items ≡ slice_set r.threads.items u new → next.world.history ≡ r.world.history → next.started ≡ r.started →
        ((later : List TExpr) → Extends next.trees.kinds later → Quietly (naming_of later) p u r.world.history (stands (naming_of later) p t) (stands (naming_of later) p new) next.world.history) → IsAt p ks (made + 1) next
    at_quiet threads history started quiet = record {
      reached = λ later ext. rw (threads, history, order) (reached_quiet (naming_of later) p ks made k r.threads.items r.world.history r.order.items (at.reached later (before later ext)) split u t new choice there _ (quiet later ext).0);
      ready = record {
        fine = λ v s e. fine_set v s (ap (λ ts. slice_get ts v) (sym threads) ∙ e);
        once = grown.once;
        lives = rw (started, history) at.ready.lives;
        threads = ap length threads ∙ length-set r.threads.items u new ∙ at.ready.threads ∙ ap (λ h. length (replayed h).finished) (sym history);
      };
      schedule = drawn;
      count = counted;
    }

    module _ (event : Event Request Reply) (history : next.world.history ≡ r.world.history ++ event ∷ []) (of : event.thread ≡ u)
        (given : (answer (replayed r.world.history) event.thread event.request).0 ≡ event.reply)
        (lives : HasStarted next.started (answer (replayed r.world.history) event.thread event.request).1) where
      store_next : replayed next.world.history ≡ (answer (replayed r.world.history) event.thread event.request).1
      store_next = ap replayed history ∙ replayed-push r.world.history event.thread event.request event.reply

      at_asked : next.threads.items ≡ slice_set r.threads.items u new → starts p event.request event.reply ≡ None →
          ((later : List TExpr) → Extends next.trees.kinds later → Spoke (naming_of later) p u r.world.history (stands (naming_of later) p t) (stands (naming_of later) p new) next.world.history event None) → IsAt p ks (made + 1) next
      at_asked threads none spoke = record {
        reached = λ later ext.
            let s = spoke later ext in
            let one = reached_spoken (naming_of later) p ks made k r.threads.items r.world.history r.order.items (at.reached later (before later ext)) split u t new choice there event.request s.left event.reply s.wants s.to s.answers none in
            let whole : r.world.history ++ record { thread = u; request = event.request; reply = event.reply } ∷ [] ≡ next.world.history = ap (λ v. r.world.history ++ record { thread = v; request = event.request; reply = event.reply } ∷ []) (sym of) ∙ sym history in
            rw (threads, order) (subst (λ h. Reached (naming_of later) p ks (made + 1) (slice_set r.threads.items u new) h (r.order.items ++ u ∷ [])) whole one);
        ready = record {
          fine = λ v s e. fine_set v s (ap (λ ts. slice_get ts v) (sym threads) ∙ e);
          once = grown.once;
          lives = subst (HasStarted next.started) (sym store_next) lives;
          threads = ap length threads ∙ length-set r.threads.items u new ∙ at.ready.threads ∙ sym (count_none p (replayed r.world.history) event.thread event.request (ap (starts p event.request) given ∙ none)) ∙ ap (λ s. length s.finished) (sym store_next);
        };
        schedule = drawn;
        count = counted;
      }

      at_started : (number object : ℕ) (begun : ThreadHere) → next.threads.items ≡ slice_set r.threads.items u new ++ begun ∷ [] → IsBegun p begun (started_frames p object) →
          starts p event.request event.reply ≡ Some (number, started_frames p object) →
          ((later : List TExpr) → Extends next.trees.kinds later → Spoke (naming_of later) p u r.world.history (stands (naming_of later) p t) (stands (naming_of later) p new) next.world.history event (Some (number, started_frames p object))) → IsAt p ks (made + 1) next
      at_started number object begun threads is_begun one spoke = record {
        reached = λ later ext.
            let s = spoke later ext in
            let more = reached_started (naming_of later) p ks made k r.threads.items r.world.history r.order.items (at.reached later (before later ext)) split u t new choice there event.request s.left event.reply s.wants s.to s.answers number (started_frames p object) begun one next_number (is_begun.there (naming_of later)) in
            let whole : r.world.history ++ record { thread = u; request = event.request; reply = event.reply } ∷ [] ≡ next.world.history = ap (λ v. r.world.history ++ record { thread = v; request = event.request; reply = event.reply } ∷ []) (sym of) ∙ sym history in
            rw (threads, order) (subst (λ h. Reached (naming_of later) p ks (made + 1) (slice_set r.threads.items u new ++ begun ∷ []) h (r.order.items ++ u ∷ [])) whole more);
        ready = record {
          fine = λ v s e. fine_push v s (v == length (slice_set r.threads.items u new)) (sym (get-push (slice_set r.threads.items u new) v begun) ∙ ap (λ ts. slice_get ts v) (sym threads) ∙ e);
          once = grown.once;
          lives = subst (HasStarted next.started) (sym store_next) lives;
          threads = ap length threads ∙ length-append (slice_set r.threads.items u new) (begun ∷ []) ∙ ap (λ m. m + 1) (length-set r.threads.items u new ∙ at.ready.threads) ∙ sym longer ∙ ap (λ s. length s.finished) (sym store_next);
        };
        schedule = drawn;
        count = counted;
      }
        where
          counts : (number ≡ length (replayed r.world.history).finished) × (length (answer (replayed r.world.history) event.thread event.request).1.finished ≡ suc (length (replayed r.world.history).finished))
          counts = count_one p (replayed r.world.history) event.thread event.request (number, started_frames p object) (ap (starts p event.request) given ∙ one)

          next_number : number ≡ length r.threads.items
          next_number = counts.0 ∙ sym at.ready.threads

          longer : length (answer (replayed r.world.history) event.thread event.request).1.finished ≡ length (replayed r.world.history).finished + 1
          longer = let e = counts.1 in omega (arith, e)

          fine_push : (v : ℕ) (s : ThreadHere) (b : Bool) → (if b then Some begun else slice_get (slice_set r.threads.items u new) v) ≡ Some s → (later : List TExpr) → Extends next.trees.kinds later → IsFine (naming_of later) p s
          fine_push v s true e later ext = let same : begun ≡ s = cc e in subst (λ q. IsFine (naming_of later) p q) same (begun_fine (naming_of later) p begun (started_frames p object) is_begun)
          fine_push v s false e later ext = fine_set v s e later ext

  -- One turn more, by what the thread's turn was and what is noted of it. --------
  module _ (made k u : ℕ) (r mid next : RunHere) (at : IsAt p ks made r) (split : drop made ks ≡ k ∷ drop (made + 1) ks) (choice : chosen (live_threads store (replayed r.world.history)) k ≡ Some u)
      (noted : IsNoted k u mid next) (schedule : mid.schedule ≡ r.schedule) (order : mid.order ≡ r.order) where
    drew : next.schedule.items ≡ r.schedule.items ++ k ∷ []
    drew = noted.schedule ∙ ap (λ (l : Vec ℕ Global). l.items ++ k ∷ []) schedule

    ordered : next.order.items ≡ r.order.items ++ u ∷ []
    ordered = noted.order ∙ ap (λ (l : Vec ℕ Global). l.items ++ u ∷ []) order

    pub quiet_at : Moved p u r.threads.items mid.threads.items r.trees.kinds mid.trees.kinds r.world.history mid.world.history turn.Quiet → mid.started ≡ r.started → IsAt p ks (made + 1) next
    quiet_at moved started =
        let m : Moved p u r.threads.items next.threads.items r.trees.kinds next.trees.kinds r.world.history next.world.history turn.Quiet = rw (noted.threads, noted.trees, noted.world) moved in
        let itself = extends_itself next.trees.kinds in
        at_quiet made k u r next at split choice m.old m.new m.there m.grown drew ordered m.fine m.set (m.took next.trees.kinds itself).1 (noted.started ∙ started) m.took

    module _ (event : Event Request Reply) (finished : mid.started.finished.items ≡ finished_after (change_of event.request event.reply) event.thread r.started.finished.items)
        (over : mid.started.is_over ≡ over_after (change_of event.request event.reply) r.started.is_over) where
      given_by : event.thread ≡ u → Answers store (replayed r.world.history) u event.request event.reply → (answer (replayed r.world.history) event.thread event.request).0 ≡ event.reply
      given_by of answers = ap (λ v. (answer (replayed r.world.history) v event.request).0) of ∙ answers.given

      lives_by : event.thread ≡ u → Answers store (replayed r.world.history) u event.request event.reply → HasStarted next.started (answer (replayed r.world.history) event.thread event.request).1
      lives_by of answers = subst (λ z. HasStarted z (answer (replayed r.world.history) event.thread event.request).1) (sym noted.started)
          (followed_by r.started mid.started (replayed r.world.history) event.thread event.request event.reply at.ready.lives (given_by of answers) finished over)

      pub asked_at : Moved p u r.threads.items mid.threads.items r.trees.kinds mid.trees.kinds r.world.history mid.world.history (turn.Asked event) → IsAt p ks (made + 1) next
      asked_at moved =
          let m : Moved p u r.threads.items next.threads.items r.trees.kinds next.trees.kinds r.world.history next.world.history (turn.Asked event) = rw (noted.threads, noted.trees, noted.world) moved in
          let one = m.took next.trees.kinds (extends_itself next.trees.kinds) in
          at_asked made k u r next at split choice m.old m.new m.there m.grown drew ordered m.fine event one.kept one.thread_is (given_by one.thread_is one.answers) (lives_by one.thread_is one.answers) m.set one.starts_so m.took

      pub started_at : (object : ℕ) (begun : ThreadHere) (threads : List ThreadHere) → Moved p u r.threads.items threads r.trees.kinds mid.trees.kinds r.world.history mid.world.history (turn.Started event object) →
          mid.threads.items ≡ threads ++ begun ∷ [] → IsBegun p begun (started_frames p object) → IsAt p ks (made + 1) next
      started_at object begun threads moved more is_begun =
          let m : Moved p u r.threads.items threads r.trees.kinds next.trees.kinds r.world.history next.world.history (turn.Started event object) = rw (noted.trees, noted.world) moved in
          let first = m.took next.trees.kinds (extends_itself next.trees.kinds) in
          let number = first.0 in
          let one = first.1 in
          let whole : next.threads.items ≡ slice_set r.threads.items u m.new ++ begun ∷ [] = ap (λ (l : Vec ThreadHere Global). l.items) noted.threads ∙ more ∙ ap (λ l. l ++ begun ∷ []) m.set in
          at_started made k u r next at split choice m.old m.new m.there m.grown drew ordered m.fine event one.kept one.thread_is (given_by one.thread_is one.answers) (lives_by one.thread_is one.answers) number object begun whole is_begun one.starts_so
          (λ later ext. same_number later (m.took later ext) number one.starts_so)
        where
          same_number : (later : List TExpr) {q w : Left} → (other : ℕ) × Spoke (naming_of later) p u r.world.history q w next.world.history event (Some (other, started_frames p object)) →
              (number : ℕ) → starts p event.request event.reply ≡ Some (number, started_frames p object) → Spoke (naming_of later) p u r.world.history q w next.world.history event (Some (number, started_frames p object))
          same_number later {q} {w} s number e =
              subst (λ k. Spoke (naming_of later) p u r.world.history q w next.world.history event (Some (k, started_frames p object))) (one_number s.0 number (started_frames p object) (sym s.1.starts_so ∙ e)) s.1

-- who is chosen has a place
pub inside_by : (p : Program) (r : RunHere) (k u : ℕ) → IsReady p r → chosen (live_threads store (replayed r.world.history)) k ≡ Some u → u < length r.threads.items
inside_by p r k u ready choice =
    let lives = and_second (not (replayed r.world.history).is_over) (is_live (replayed r.world.history) u) (chosen_lives store (replayed r.world.history) k u choice) in
    subst (λ n. u < n) (sym ready.threads) (lives_below (replayed r.world.history) u lives)
  where
    and_second : (a b : Bool) → (a && b) ≡ true → b ≡ true
    and_second true b e = e
    and_second false b e = absurd (cc e)

-- The run as the code has it, from one turn to the next.
use Rattle.std.proofs.Common.{◌≡◌, ◌≢◌, ◌∙◌, ⊎_elim, ℕ, zero, suc, ◌+◌, ◌<◌, ◌&&◌, not, append-nil, List, [], ◌∷◌, ◌++◌, length, take, drop, Bool, true, false, ◌==◌, if◌then◌else◌, Option, Some, None, slice_get, slice_set, slice_index, get_or, refl, sym, ap, subst, arith, length-append, length-set, drop-cons}
use Rattle.std.specs.List.{last_or}
use Rattle.std.proofs.lemmas.List.{take_more}
use Rattle.std.proofs.lemmas.Option.{slice_get_within}
use Rattle.interaction.specs.declared.history.Event.{Event}
use Rattle.interaction.specs.declared.turn.What.{What}
use Rattle.interaction.specs.declared.turn.What.TheVariants as noted
use Rattle.interaction.specs.Object.{Answers, is_active, live_threads}
use Rattle.interaction.specs.RunLaws.{ClaimsRight}
use Rattle.interaction.specs.Run.{chosen, turned, Ends, Idle, StuckAt}
use Rattle.interaction.specs.Run as running
use Rattle.interaction.proofs.Choosing.{chosen_lives, chosen_none}
use Rattle.mn_outside.specs.declared.machine.MachineFault.{MachineFault}
use Rattle.mn_outside.specs.declared.places.Region.{Region}
use Rattle.rgctx_words.specs.Regions.{word_count}
use Rattle.rgctx_words.specs.Held.{Grows}
use Rattle.rgctx_template.specs.Catalogue.{CatData}
use Rattle.rgctx_fill.specs.declared.doing.Doing.{Doing}
use Rattle.rgctx_fill.specs.declared.doing.Doing.TheVariants.{Runs, Serves, Fills, Interprets, Throws, Searches, Refuses, Stops, Finishes, Ended}
use Rattle.rgctx_fill.specs.declared.thread.Want.{Want}
use Rattle.rgctx_fill.specs.declared.thread.Want.TheVariants as answers
use Rattle.rgctx_fill.specs.Moves.{span, IsMade, IsReplied}
use Rattle.rgctx_fill.specs.ThreadStates.{ImageData, ThreadData}
use Rattle.rgctx_fill.specs.ThreadTurns.{next_move}
use Rattle.rgctx_fill.specs.Turns.{FillData}
use Rattle.rgctx_fill.proofs.TurnLemmas.{ready-grows}
use Rattle.rt_service.specs.GoingOn.{HasNoFill}
use Rattle.rt_service.specs.Notes.{IsUnderWay}
use Rattle.schedules.specs.Ends.{ended_by}
use Rattle.schedules.specs.Living.{HasStarted, change_of, finished_after, over_after}
use Rattle.schedules.proofs.DrawLemmas.{inside_of}
use Rattle.schedules.proofs.Following.{followed_by}
use Rattle.store_object.specs.declared.ending.Ending.{Ending}
use Rattle.store_object.specs.declared.ending.Ending.TheVariants as ends
use Rattle.store_object.specs.declared.request.Request.{Request}
use Rattle.store_object.specs.declared.reply.Reply.{Reply}
use Rattle.store_object.specs.Answer.{answer}
use Rattle.store_object.specs.Store.{Store, is_live}
use Rattle.store_object.specs.Replay.{store, replayed}
use Rattle.store_object.proofs.Histories.{replayed-push}
use Rattle.store_object.proofs.StoreLaws.{lives_below}
use Rattle.thread_core.specs.declared.record.Turn.{Turn as TurnHere}
use Rattle.thread_core.specs.declared.progress.Progress.{Progress as ProgressHere}
use Rattle.thread_core.specs.Going.{IsGoing, has_ended}
use Rattle.thread_core.specs.Listed.{Listed, IsListed, claims_of}
use Rattle.thread_core.specs.Reached.{AreMet, AreFine, AreBusy, IsReady, Reached, IsAt, HasEnded, GoesOnOrEnds, Turned, begun_of, Spoke, Refused, SpokeOrRefused, IsNoted, IsDrawn}
use Rattle.thread_core.specs.Runs.{machine_of, improper_fault, ending_at, draws_of}
use Rattle.thread_core.specs.Starts.{starts}
use Rattle.thread_core.proofs.ClaimLemmas.{claims_right}
use Rattle.thread_core.proofs.CountLemmas.{starts_says, count_none, count_one}
use Rattle.thread_core.proofs.FollowLemmas.{going_on}
use Rattle.thread_core.proofs.KeptLemmas.{kept, one-put}
use Rattle.thread_core.proofs.MoveLemmas.{Went, Asking, HasNone, Comes, turn_comes}
use Rattle.thread_core.proofs.Places.{get-set, get-push}
use Rattle.thread_core.proofs.ReachLemmas.{nobody, stops_here, so_here, reached_went, improper_here, halted_here, reached_spoken}

-- who has not ended goes on
pub going-of : (cat : CatData) (held : ℕ → ℕ) (d : Doing) → has_ended d ≡ false → ((f : FillData) → d ≡ Fills f → IsUnderWay cat held f) → IsGoing cat held d
going-of cat held Runs on fine = tt
going-of cat held Serves on fine = tt
going-of cat held (Fills f) on fine = fine f refl
going-of cat held Interprets on fine = tt
going-of cat held (Throws x) on fine = tt
going-of cat held (Searches x) on fine = tt
going-of cat held Refuses on fine = tt
going-of cat held (Stops why) on fine = tt
going-of cat held Finishes on fine = tt
going-of cat held Ended on fine = absurd (cc on)

-- a place that gets what it has
set_itself : (xs : List ThreadData) (u : ℕ) (x : ThreadData) → slice_get xs u ≡ Some x → slice_set xs u x ≡ xs
set_itself [] u x e = refl
set_itself (y ∷ ys) zero x e = let same : y ≡ x = cc e in ap (λ z. z ∷ ys) (sym same)
set_itself (y ∷ ys) (suc u) x e = ap (λ zs. y ∷ zs) (set_itself ys u x e)

one_thread : (a b : ThreadData) → ◌≡◌ {A = Option ThreadData} (Some a) (Some b) → a ≡ b
one_thread a b e = cc e

take_one : (ks rest : List ℕ) (i k : ℕ) → drop i ks ≡ k ∷ rest → take (i + 1) ks ≡ take i ks ++ k ∷ []
take_one ks rest i k e =
    let within = inside_of ks rest i k e in
    let first : get_or ks i 0 ≡ k = cc (drop-cons ks i 0 within, e) in
    take_more ks i 0 within ∙ ap (λ x. take i ks ++ x ∷ []) first

-- the same said of what is equal
pub reached_as : (im : ImageData) (ks : List ℕ) (made : ℕ) (threads threads' : List ThreadData) (l l' : Listed) (h h' : List (Event Request Reply)) (ts ts' : List TurnHere)
    → threads' ≡ threads → l' ≡ l → h' ≡ h → ts' ≡ ts → Reached im ks made threads l h ts → Reached im ks made threads' l' h' ts'
reached_as im ks made threads threads' l l' h h' ts ts' a b c d r =
    subst (λ x. Reached im ks made x l' h' ts') (sym a) (subst (λ x. Reached im ks made threads x h' ts') (sym b) (subst (λ x. Reached im ks made threads l x ts') (sym c) (subst (λ x. Reached im ks made threads l h x) (sym d) r)))

-- a fill under way stays one as words come
fine_later : (cat : CatData) (words words' : List ℕ) → Grows (slice_index words) (slice_index words') → (f : FillData) → IsUnderWay cat (slice_index words) f → IsUnderWay cat (slice_index words') f
fine_later cat words words' grows f way = (way.0, ready-grows cat (slice_index words) (slice_index words') f way.1 grows)

-- who lives goes on
pub busy_of : (im : ImageData) (ks : List ℕ) (made : ℕ) (threads : List ThreadData) (l : Listed) (h : List (Event Request Reply)) (ts : List TurnHere) → Reached im ks made threads l h ts → AreBusy h threads
busy_of im ks made threads l h ts r u s e lives = going_on im r.world u s (ap (λ x. is_active store x u) r.store_is ∙ lives) (r.each u ∙ e) r.followed

module _ (im : ImageData) (ks : List ℕ) (made k u : ℕ) (r : ProgressHere) (at : IsAt im ks made (made + 1) r) (split : drop made ks ≡ k ∷ drop (made + 1) ks) (choice : chosen (live_threads store (replayed r.world.history)) k ≡ Some u) where
  schedule_at : r.schedule.items ≡ take (suc made) ks
  schedule_at = let e : made + 1 ≡ suc made = omega arith in at.schedule ∙ ap (λ n. take n ks) e

  module _ (mid : ProgressHere) (said : Want) (t : Turned im u r.threads.items mid.threads.items r.words mid.words said)
      (world : mid.world ≡ r.world) (started : mid.started ≡ r.started) (schedule : mid.schedule.items ≡ r.schedule.items) (turns : mid.turns.items ≡ r.turns.items) where
    abbrev CameTo : Want → Type 0
    CameTo a = Comes im at.reached.world u t.was mid.words.words (claims_of r.words) (claims_of mid.words) (next_move im t.was) a t.now

    same_at : claims_of mid.words ≡ claims_of r.words → mid.words.words ≡ at.reached.world.words
    same_at e = ap (λ (l : Listed). l.words) (kept r.words mid.words at.ready.listed t.listed t.place e) ∙ sym at.reached.words_are

    put_at : (i w : ℕ) → claims_of mid.words ≡ claims_of r.words ++ (i, w) ∷ [] → i < word_count → slice_index at.reached.world.words i ≡ 0 → w ≢ 0 → mid.words.words ≡ slice_set at.reached.world.words i w
    put_at i w e low free used =
        let free' : slice_index r.words.words i ≡ 0 = ap (λ ws. slice_index ws i) (sym at.reached.words_are) ∙ free in
        ap (λ (l : Listed). l.words) (one-put r.words mid.words at.ready.listed t.listed t.place i w (record { inside = low; free = free'; used = used }) e)
        ∙ ap (λ ws. slice_set ws i w) (sym at.reached.words_are)

    came : CameTo said
    came =
        turn_comes im at.reached.world u t.was mid.words.words (claims_of r.words) (claims_of mid.words) same_at (ap length at.reached.words_are ∙ at.ready.listed.count) put_at
        (subst (λ ws. IsGoing im.cat (slice_index ws) t.was.doing) (sym at.reached.words_are) t.going) said t.now
        (subst (λ ws. IsMade im.cat (span true (slice_index ws) (slice_index mid.words.words) (Some (claims_of r.words)) (Some (claims_of mid.words))) t.was (next_move im t.was) said t.now) (sym at.reached.words_are) t.made)

    right : ClaimsRight at.reached.world.words ((machine_of im).want t.was)
    right = claims_right im at.reached.world.words (ap length at.reached.words_are ∙ at.ready.listed.count) t.was (subst (λ ws. IsGoing im.cat (slice_index ws) t.was.doing) (sym at.reached.words_are) t.going)

    inside : u < length r.threads.items
    inside = slice_get_within r.threads.items u t.was t.there

    -- a fill of the threads behind the turn
    fine_set : AreFine im.cat mid.words.words (slice_set r.threads.items u t.now)
    fine_set v s e = by (v == u) (sym (get-set r.threads.items u v t.now inside) ∙ e)
      where
        by : (b : Bool) → (if b then Some t.now else slice_get r.threads.items v) ≡ Some s → (f : FillData) → s.doing ≡ Fills f → IsUnderWay im.cat (slice_index mid.words.words) f
        by true e' f is = t.ready f (ap (λ (x : ThreadData). x.doing) (one_thread t.now s e') ∙ is)
        by false e' f is = fine_later im.cat r.words.words mid.words.words t.grows f (at.ready.fine v s e' f is)

    -- a turn that is no request
    pub went_at : (what : What) → said ≡ answers.Did what → (new : ProgressHere) → IsNoted u what mid new → IsAt im ks (made + 1) (made + 1) new
    went_at what is new noted =
        let w : Went im at.reached.world u t.was mid.words.words (claims_of r.words) (claims_of mid.words) what t.now (next_move im t.was) = subst CameTo is came in
        let history : new.world.history ≡ r.world.history = ap (λ v. v.history) (noted.world ∙ world) in
        let threads : new.threads.items ≡ slice_set r.threads.items u t.now = noted.threads ∙ t.set in
        let reached : Reached im ks (made + 1) new.threads.items new.words new.world.history new.turns.items =
        reached_as im ks (made + 1) (slice_set r.threads.items u t.now) new.threads.items mid.words new.words r.world.history new.world.history (r.turns.items ++ record { thread = u; what = what } ∷ []) new.turns.items
        threads noted.words history (noted.turns ∙ ap (λ (l : List TurnHere). l ++ record { thread = u; what = what } ∷ []) turns)
        (reached_went im ks made k r.threads.items r.words r.world.history r.turns.items at.reached split u t.was choice t.there at.ready.met t.now mid.words what w) in
        record {
          reached = reached;
          ready = record {
            busy = busy_of im ks (made + 1) new.threads.items new.words new.world.history new.turns.items reached;
            fine = λ v s e f fills. subst (λ (l : Listed). IsUnderWay im.cat (slice_index l.words) f) (sym noted.words) (fine_set v s (ap (λ ts. slice_get ts v) (sym threads) ∙ e) f fills);
            met = subst (λ (l : Listed). AreMet im.cat l.words) (sym noted.words) t.met;
            listed = subst IsListed (sym noted.words) t.listed;
            lives = subst (λ h. HasStarted new.started (replayed h)) (sym history) (subst (λ s. HasStarted s (replayed r.world.history)) (sym (noted.started ∙ started)) at.ready.lives);
            threads = ap length threads ∙ length-set r.threads.items u t.now ∙ at.ready.threads ∙ ap (λ h. length (replayed h).finished) (sym history);
          };
          schedule = noted.schedule ∙ schedule ∙ at.schedule;
        }

    -- no turn
    pub none_at : (e : Ending) → HasNone im at.reached.world u t.was mid.words.words (claims_of r.words) (claims_of mid.words) e t.now (next_move im t.was) → HasEnded im ks made mid e
    none_at e n = record {
      world = at.reached.world;
      ending = n.ending;
      whole = stops_here im ks made k r.threads.items r.words r.world.history r.turns.items at.reached split u t.was choice t.there n.ending n.stops;
      named = sym (n.at ∙ n.named);
      history_is = at.reached.history_is ∙ ap (λ v. v.history) (sym world);
      words_are = sym n.words;
      claims_are = at.reached.claims_are ∙ sym n.claims;
      turns_are = at.reached.turns_are ∙ sym turns;
      count = at.reached.count;
      met = t.met;
      lives = subst (λ w. HasStarted mid.started (replayed w.history)) (sym world) (subst (λ s. HasStarted s (replayed r.world.history)) (sym started) at.ready.lives);
      schedule = schedule ∙ schedule_at ∙ ap (λ m. take m ks) (sym (n.draws made));
      followed = at.reached.followed;
      so = so_here im ks made k r.threads.items r.words r.world.history r.turns.items at.reached split u t.was choice t.there n.ending right n.stops;
    }

    pub full_at : (region : Region) (key : ℕ) → said ≡ answers.Full region key → HasEnded im ks made mid (ends.Full region key)
    full_at region key is = none_at (ends.Full region key) (subst CameTo is came)

    pub fault_at : (fault : MachineFault) → said ≡ answers.Fault fault → HasEnded im ks made mid (ends.Fault fault)
    fault_at fault is = none_at (ends.Fault fault) (subst CameTo is came)

    -- a request, which has left all
    module _ (q : Request) (is : said ≡ answers.Ask q) where
      asking : Asking im at.reached.world u t.was mid.words.words (claims_of r.words) (claims_of mid.words) q t.now (next_move im t.was)
      asking = subst CameTo is came

      same_words : mid.words ≡ r.words
      same_words = kept r.words mid.words at.ready.listed t.listed t.place asking.claims

      same_threads : mid.threads.items ≡ r.threads.items
      same_threads = t.set ∙ ap (slice_set r.threads.items u) asking.same ∙ set_itself r.threads.items u t.was t.there

      same_history : mid.world.history ≡ r.world.history
      same_history = ap (λ v. v.history) world

      -- the reply refuses
      pub refused_at : (new : ProgressHere) (e : Ending) → Refused u q mid new e → HasEnded im ks made new e
      refused_at new e f = ⊎_elim improper halted f.so
        where
          was : f.was ≡ t.was
          was = one_thread f.was t.was (sym f.there ∙ ap (λ ts. slice_get ts u) same_threads ∙ t.there)

          reply : Reply
          reply = store.reply (replayed r.world.history) u q

          reply_is : store.reply (replayed mid.world.history) u q ≡ reply
          reply_is = ap (λ h. store.reply (replayed h) u q) same_history

          stopped : (ending : running.Ending ThreadData) → turned (machine_of im) at.reached.world u t.was ((machine_of im).want t.was) ≡ Ends ending → e ≡ ending_at im at.reached.world ending → draws_of ending made ≡ suc made → HasEnded im ks made new e
          stopped ending stops named draws = record {
            world = at.reached.world;
            ending = ending;
            whole = stops_here im ks made k r.threads.items r.words r.world.history r.turns.items at.reached split u t.was choice t.there ending stops;
            named = named;
            history_is = at.reached.history_is ∙ sym (f.history ∙ same_history);
            words_are = at.reached.words_are ∙ ap (λ (l : Listed). l.words) (sym (f.words ∙ same_words));
            claims_are = at.reached.claims_are ∙ ap claims_of (sym (f.words ∙ same_words));
            turns_are = at.reached.turns_are ∙ sym (f.turns ∙ turns);
            count = at.reached.count;
            met = subst (λ (l : Listed). AreMet im.cat l.words) (sym (f.words ∙ same_words)) at.ready.met;
            lives = subst (λ h. HasStarted new.started (replayed h)) (sym (f.history ∙ same_history)) (subst (λ s. HasStarted s (replayed r.world.history)) (sym (f.started ∙ started)) at.ready.lives);
            schedule = f.schedule ∙ schedule ∙ schedule_at ∙ ap (λ m. take m ks) (sym draws);
            followed = at.reached.followed;
            so = so_here im ks made k r.threads.items r.words r.world.history r.turns.items at.reached split u t.was choice t.there ending right stops;
          }

          improper : (store.is_improper (store.reply (replayed mid.world.history) u q) ≡ true) × (e ≡ ends.Fault (improper_fault f.was)) → HasEnded im ks made new e
          improper p = stopped (StuckAt u t.was)
              (improper_here im ks made k r.threads.items r.words r.world.history r.turns.items at.reached split u t.was choice t.there q t.now mid.words asking reply refl (ap store.is_improper (sym reply_is) ∙ p.0))
              (p.1 ∙ ap (λ s. ends.Fault (improper_fault s)) was ∙ sym asking.improper) refl

          halted : (store.is_improper (store.reply (replayed mid.world.history) u q) ≡ false) × (store.is_halted (store.reply (replayed mid.world.history) u q) ≡ true) × (e ≡ ends.Done) → HasEnded im ks made new e
          halted p = stopped (Idle u)
              (halted_here im ks made k r.threads.items r.words r.world.history r.turns.items at.reached split u t.was choice t.there q t.now mid.words asking reply refl (ap store.is_improper (sym reply_is) ∙ p.0) (ap store.is_halted (sym reply_is) ∙ p.1))
              p.2 refl

      -- it is answered, and all is noted
      module _ (new : ProgressHere) (f : Spoke im u q mid new) where
        abbrev event : Event Request Reply
        event = record { thread = u; request = q; reply = f.reply }

        was_same : f.replied.was ≡ t.was
        was_same = one_thread f.replied.was t.was (sym f.replied.there ∙ ap (λ ts. slice_get ts u) same_threads ∙ t.there)

        answered : Answers store (replayed r.world.history) u q f.reply
        answered = subst (λ h. Answers store (replayed h) u q f.reply) same_history f.answers

        next_number : (c : ℕ × ThreadData) → starts im q f.reply ≡ Some c → c.0 ≡ length r.threads.items
        next_number c e = (count_one im (replayed r.world.history) u q c (ap (starts im q) answered.given ∙ e)).0 ∙ sym at.ready.threads

        threads_are : new.threads.items ≡ slice_set r.threads.items u f.replied.now ++ begun_of (starts im q f.reply)
        threads_are = f.more ∙ ap (λ ts. ts ++ begun_of (starts im q f.reply)) (f.replied.set ∙ ap (λ ts. slice_set ts u f.replied.now) same_threads)

        history_is : new.world.history ≡ r.world.history ++ event ∷ []
        history_is = f.history ∙ ap (λ (h : List (Event Request Reply)). h ++ event ∷ []) same_history

        store_next : replayed new.world.history ≡ (answer (replayed r.world.history) u q).1
        store_next = ap replayed history_is ∙ replayed-push r.world.history u q f.reply

        lives_next : HasStarted new.started (answer (replayed r.world.history) u q).1
        lives_next = followed_by r.started new.started (replayed r.world.history) u q f.reply at.ready.lives answered.given
            (f.finished ∙ ap (λ s. finished_after (change_of q f.reply) u s.finished.items) started) (f.over ∙ ap (λ s. over_after (change_of q f.reply) s.is_over) started)

        counted : (b : Option (ℕ × ThreadData)) → starts im q f.reply ≡ b → length (slice_set r.threads.items u f.replied.now ++ begun_of b) ≡ length (answer (replayed r.world.history) u q).1.finished
        counted None e =
            length-append (slice_set r.threads.items u f.replied.now) [] ∙ (let z : length (slice_set r.threads.items u f.replied.now) + 0 ≡ length (slice_set r.threads.items u f.replied.now) = omega arith in z)
            ∙ length-set r.threads.items u f.replied.now ∙ at.ready.threads ∙ sym (count_none im (replayed r.world.history) u q (ap (starts im q) answered.given ∙ e))
        counted (Some c) e =
            let one = (count_one im (replayed r.world.history) u q c (ap (starts im q) answered.given ∙ e)).1 in
            let before : length (slice_set r.threads.items u f.replied.now) ≡ length (replayed r.world.history).finished = length-set r.threads.items u f.replied.now ∙ at.ready.threads in
            let more = length-append (slice_set r.threads.items u f.replied.now) (c.1 ∷ []) in
            omega (arith, one, before, more)

        fine_replied : (v : ℕ) (s : ThreadData) → slice_get (slice_set r.threads.items u f.replied.now) v ≡ Some s → (g : FillData) → s.doing ≡ Fills g → IsUnderWay im.cat (slice_index r.words.words) g
        fine_replied v s e = by (v == u) (sym (get-set r.threads.items u v f.replied.now inside) ∙ e)
          where
            by : (b : Bool) → (if b then Some f.replied.now else slice_get r.threads.items v) ≡ Some s → (g : FillData) → s.doing ≡ Fills g → IsUnderWay im.cat (slice_index r.words.words) g
            by true e' g is = at.ready.fine u t.was t.there g (ap (λ (x : ThreadData). x.doing) (sym was_same) ∙ f.replied.fill g (ap (λ (x : ThreadData). x.doing) (one_thread f.replied.now s e') ∙ is))
            by false e' g is = at.ready.fine v s e' g is

        fine_begun : (b : Option (ℕ × ThreadData)) → starts im q f.reply ≡ b → (v : ℕ) (s : ThreadData) → slice_get (slice_set r.threads.items u f.replied.now ++ begun_of b) v ≡ Some s → (g : FillData) → s.doing ≡ Fills g → IsUnderWay im.cat (slice_index r.words.words) g
        fine_begun None starting v s e = fine_replied v s (ap (λ ts. slice_get ts v) (sym (append-nil (slice_set r.threads.items u f.replied.now))) ∙ e)
        fine_begun (Some c) starting v s e = by (v == length (slice_set r.threads.items u f.replied.now)) (sym (get-push (slice_set r.threads.items u f.replied.now) v c.1) ∙ e)
          where
            by : (b : Bool) → (if b then Some c.1 else slice_get (slice_set r.threads.items u f.replied.now) v) ≡ Some s → (g : FillData) → s.doing ≡ Fills g → IsUnderWay im.cat (slice_index r.words.words) g
            by true e' g is =
                let begins = starts_says im q f.reply c starting in
                let other : Interprets ≡ Fills g = ap (λ (x : ThreadData). x.doing) (sym begins.state_is ∙ one_thread c.1 s e') ∙ is in
                absurd (subst HasNoFill other tt)
            by false e' g is = fine_replied v s e' g is

        pub spoke_at : IsAt im ks (made + 1) (made + 1) new
        spoke_at =
            let words : new.words ≡ r.words = f.words ∙ same_words in
            let reached : Reached im ks (made + 1) new.threads.items new.words new.world.history new.turns.items =
            reached_as im ks (made + 1) (slice_set r.threads.items u f.replied.now ++ begun_of (starts im q f.reply)) new.threads.items r.words new.words (r.world.history ++ event ∷ []) new.world.history
            (r.turns.items ++ record { thread = u; what = noted.Action } ∷ []) new.turns.items threads_are words history_is (f.turns ∙ ap (λ (l : List TurnHere). l ++ record { thread = u; what = noted.Action } ∷ []) turns)
            (reached_spoken im ks made k r.threads.items r.words r.world.history r.turns.items at.reached split u t.was choice t.there q t.now mid.words asking f.reply answered f.replied.now
            (subst (λ s. IsReplied (next_move im s) f.reply f.replied.now) was_same f.replied.replied) at.ready.met next_number) in
            record {
              reached = reached;
              ready = record {
                busy = busy_of im ks (made + 1) new.threads.items new.words new.world.history new.turns.items reached;
                fine = λ v s e g is. subst (λ (l : Listed). IsUnderWay im.cat (slice_index l.words) g) (sym words) (fine_begun (starts im q f.reply) refl v s (ap (λ ts. slice_get ts v) (sym threads_are) ∙ e) g is);
                met = subst (λ (l : Listed). AreMet im.cat l.words) (sym words) at.ready.met;
                listed = subst IsListed (sym words) at.ready.listed;
                lives = subst (HasStarted new.started) (sym store_next) lives_next;
                threads = ap length threads_are ∙ counted (starts im q f.reply) refl ∙ ap (λ s. length s.finished) (sym store_next);
              };
              schedule = f.schedule ∙ schedule ∙ at.schedule;
            }

      -- the one or the other
      pub asked_at : (new : ProgressHere) (e : Option Ending) → SpokeOrRefused im u q mid new e → GoesOnOrEnds im ks made new e
      asked_at new None f = spoke_at new f
      asked_at new (Some e) f = refused_at new e f

-- ---- before a turn

pub drawn_ready : (im : ImageData) (k : ℕ) (r next : ProgressHere) → IsReady im r → IsDrawn k r next → IsReady im next
drawn_ready im k r next ready d =
    let history : next.world.history ≡ r.world.history = ap (λ v. v.history) d.world in
    record {
      fine = λ v s e f is. subst (λ (l : Listed). IsUnderWay im.cat (slice_index l.words) f) (sym d.words) (ready.fine v s (ap (λ ts. slice_get ts v) (sym d.threads) ∙ e) f is);
      busy = λ v s e lives. ready.busy v s (ap (λ ts. slice_get ts v) (sym d.threads) ∙ e) (ap (λ h. is_active store (replayed h) v) (sym history) ∙ lives);
      met = subst (λ (l : Listed). AreMet im.cat l.words) (sym d.words) ready.met;
      listed = subst IsListed (sym d.words) ready.listed;
      lives = subst (λ h. HasStarted next.started (replayed h)) (sym history) (subst (λ s. HasStarted s (replayed r.world.history)) (sym d.started) ready.lives);
      threads = ap length d.threads ∙ ready.threads ∙ ap (λ h. length (replayed h).finished) (sym history);
    }

module _ (im : ImageData) (ks : List ℕ) (made k : ℕ) (r : ProgressHere) (at : IsAt im ks made made r) (split : drop made ks ≡ k ∷ drop (made + 1) ks) where
  -- nobody lives
  pub done_at : chosen (live_threads store (replayed r.world.history)) k ≡ None → HasEnded im ks made r (ended_by (last_or None r.world.history))
  done_at none = record {
    world = at.reached.world;
    ending = running.Done;
    whole = nobody im ks made k r.threads.items r.words r.world.history r.turns.items at.reached split none;
    named = ap (λ h. ended_by (last_or None h)) (sym at.reached.history_is);
    history_is = at.reached.history_is;
    words_are = at.reached.words_are;
    claims_are = at.reached.claims_are;
    turns_are = at.reached.turns_are;
    count = at.reached.count;
    met = at.ready.met;
    lives = at.ready.lives;
    schedule = at.schedule;
    followed = at.reached.followed;
    so = chosen_none (live_threads store at.reached.world.store) k (ap (λ s. chosen (live_threads store s) k) at.reached.store_is ∙ none);
  }

  -- the number is noted
  pub drawn_at : (next : ProgressHere) → IsDrawn k r next → IsAt im ks made (made + 1) next
  drawn_at next d = record {
    reached = reached_as im ks made r.threads.items next.threads.items r.words next.words r.world.history next.world.history r.turns.items next.turns.items d.threads d.words (ap (λ v. v.history) d.world) d.turns at.reached;
    ready = drawn_ready im k r next at.ready d;
    schedule = d.schedule ∙ ap (λ l. l ++ k ∷ []) at.schedule ∙ sym (take_one ks (drop (made + 1) ks) made k split);
  }

-- a thread that may be chosen lives
pub active_lives : (s : Store) (u : ℕ) → is_active store s u ≡ true → is_live s u ≡ true
active_lives s u e = by s.is_over (is_live s u) e
  where
    by : (a b : Bool) → (not a && b) ≡ true → b ≡ true
    by true b f = absurd (cc f)
    by false b f = f

-- who is chosen has a place
pub inside-by : (im : ImageData) (r : ProgressHere) (k u : ℕ) → IsReady im r → chosen (live_threads store (replayed r.world.history)) k ≡ Some u → u < length r.threads.items
inside-by im r k u ready choice =
    let lives = active_lives (replayed r.world.history) u (chosen_lives store (replayed r.world.history) k u choice) in
    subst (λ n. u < n) (sym ready.threads) (lives_below (replayed r.world.history) u lives)

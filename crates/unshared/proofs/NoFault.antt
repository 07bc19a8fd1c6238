-- A run of a program that is never stuck ends as nobody lives, or as all turns are made.
use Rattle.std.proofs.Common.{append-nil, ◌≡◌, ◌∙◌, ◌⊎◌, inl, inr, ⊎_elim, ℕ, Bool, true, false, not, ◌&&◌, List, [], length, Option, Some, None, refl, sym, ap, subst}
use Rattle.std.specs.Prelude.{slice_index}
use Rattle.type_tree.specs.declared.tree.TExpr.{TExpr}
use Rattle.il_model.specs.declared.program.Program.{Program}
use Rattle.interaction.specs.declared.history.Event.{Event}
use Rattle.interaction.specs.Process.{Naming, Larger, Halts, Next, Settle, Spell, Ask, Over, Stuck}
use Rattle.interaction.specs.Thread.{Want, Turn, Makes, Turns, request_of, requests_in}
use Rattle.interaction.specs.Thread as thread
use Rattle.interaction.specs.Object.{Answers, Replays, is_active}
use Rattle.interaction.specs.Object as object
use Rattle.interaction.specs.History.{part}
use Rattle.interaction.specs.LooseRun.{IsStuck}
use Rattle.interaction.specs.Run.{World, state_of, first_of, run}
use Rattle.interaction.specs.Run as running
use Rattle.interaction.specs.RunLaws.{RunLaws, ClaimsRight}
use Rattle.interaction.specs.Endings.{IsFull, IsBusy, EndsSo, LiveLaws}
use Rattle.interaction.specs.Safety.{Language, SafetyLaws, SafeStart}
use Rattle.interaction.specs.Starts.{begin_of, as_process}
use Rattle.interaction.proofs.Starting.{as_process-some, process-grows}
use Rattle.interaction.proofs.NeverStuck as general
use Rattle.interaction.proofs.LastWorlds.{run_ends_so}
use Rattle.interaction.proofs.RunLoose.{Follows}
use Rattle.interaction.proofs.Talks.{talk_on}
use Rattle.store_object.specs.declared.request.Request.{Request}
use Rattle.store_object.specs.declared.reply.Reply.{Reply}
use Rattle.store_object.specs.declared.reply.Reply.TheVariants as says
use Rattle.store_object.specs.Store.{Store, opening, is_live}
use Rattle.store_object.specs.Answer.{answer}
use Rattle.store_object.specs.Replay.{store, is_improper}
use Rattle.store_object.proofs.StoreLaws.{asks_alive, halted-answer, lives_below, lives_other, starts_none}
use Rattle.cil_meaning.specs.Naming.{Mention, IsNaming}
use Rattle.cil_meaning.specs.Frames.{Frames}
use Rattle.cil_meaning.specs.Replies.{Left}
use Rattle.cil_meaning.specs.Shown.{History}
use Rattle.cil_meaning.specs.Threads.{begin, starts, main_frames}
use Rattle.cil_meaning.specs.Language.{Talk}
use Rattle.cil_safety.specs.NeverStuck.{NeverStuck}
use Rattle.unshared.specs.Turns.{settled_by, spelled_by, silent, begun, wants, want, machine}
use Rattle.std.specs.List.{last_or}
use Rattle.store_object.specs.declared.ending.Chooser.{Chooser}
use Rattle.store_object.specs.declared.ending.Ending.{Ending}
use Rattle.cil_meaning.specs.Shown.{fallen_kind}
use Rattle.unshared.specs.Listed.{naming_of}
use Rattle.schedules.specs.Numbers.{numbers}
use Rattle.schedules.specs.Ends.{stopped_by, fallen_or, ended_by}
use Rattle.unshared.specs.Runs.{run_of, ending_at, Waits, HasNumbersFor, IsMeant, IsSure, IsSureEnding}
use Rattle.cil_safety.proofs.Lasting.{Lasts}
use Rattle.cil_safety.proofs.LastingForms.{meaning_lasts}
use Rattle.cil_safety.proofs.Laws.{no_start, one_start}
use Rattle.cil_safety.proofs.LivesOn.{ended_inactive, ended_stays}
use Rattle.unshared.proofs.Legality.{silent_talk, begun_talk, all_turns, runs_at_last, run_is_legal}

-- ---- where threads begin

module _ (p : Program) (n : Naming Mention TExpr) where
  -- the language of which only the starts matter
  abbrev starting : Language Mention TExpr Request Reply Frames Store
  starting = record { object = store; naming = n; meaning = λ f. Over; starts = starts p; Typed = λ x. Unit {0}; Grows = λ x y. Unit {0}; Fits = λ x f. Unit {0} }

  starting_laws : SafetyLaws starting
  starting_laws = record {
    grows_self = λ x. tt;
    grows_then = λ x y z g h. tt;
    grows_after = λ x t r. tt;
    fits_later = λ x y f g h. tt;
    steps = λ u x f h. tt;
    lives_below = lives_below;
    lives_other = lives_other;
    asks_alive = asks_alive;
    begins_none = λ x t r e. starts_none x t r (no_start p n x t r e);
    begins_one = λ x t r b l go e. let s = one_start p n x t r b e in (s.number, s.count);
    begun_lives = λ x t r b ty l go e. (one_start p n x t r b e).lives;
  }

  starting_first : SafeStart starting (main_frames p)
  starting_first = record { typed = tt; one = refl; lives = refl; fits = tt }

  -- ---- words: none are read or put

  no_claims : (w : List ℕ) (q : Left) → ClaimsRight w (wants n q)
  no_claims w (Next f) = tt
  no_claims w (Settle m k) = tt
  no_claims w (Spell i k) = tt
  no_claims w (Ask r k) = tt
  no_claims w Over = tt
  no_claims w Stuck = tt

  abbrev AnyWords : List ℕ → Type 0
  AnyWords w = Unit {0}

  abbrev AnyState : List ℕ → Left → Type 0
  AnyState w q = Unit {0}

  abbrev NoneKnown : List ℕ → List (Turn Request Reply) → ℕ → Type 0
  NoneKnown w ts i = ⊥

  run_laws : RunLaws (machine p n) AnyWords AnyState NoneKnown
  run_laws = record {
    begin_grows = λ d r u s e. process-grows (main_frames p) (starts p) d r u s e;
    begin_holds = λ w h u s fits e. tt;
    later_holds = λ w v s g h. tt;
    turn_fits = λ w v s t turn fits holds g m wrote silent. (tt, tt);
    claims_right = λ w s fits holds. no_claims w (silent n (begun n p s));
    known_stands = λ w v s t turns i fits g ts known. absurd known;
  }

  -- ---- who is active has a turn

  by_settled : (o : Option ℕ) (m : Mention) (k : ℕ → Left) → ((v : ℕ) → Lasts (k v)) → ((v : ℕ) → Lasts (silent n (k v))) → Lasts (settled_by o (Settle m k) (λ v. silent n (k v)))
  by_settled None m k waits go = waits
  by_settled (Some v) m k waits go = go v

  by_spelled : (o : Option TExpr) (i : ℕ) (k : TExpr → Left) → ((t : TExpr) → Lasts (k t)) → ((t : TExpr) → Lasts (silent n (k t))) → Lasts (spelled_by o (Spell i k) (λ t. silent n (k t)))
  by_spelled None i k halts go = halts
  by_spelled (Some t) i k halts go = go t

  silent_lasts : (q : Left) → Lasts q → Lasts (silent n q)
  silent_lasts (Next f) l = tt
  silent_lasts (Settle m k) l = by_settled (n.value_of m) m k l (λ v. silent_lasts (k v) (l v))
  silent_lasts (Spell i k) l = by_spelled (n.tree_at i) i k l (λ t. silent_lasts (k t) (l t))
  silent_lasts (Ask r k) l = l
  silent_lasts Over l = l
  silent_lasts Stuck l = tt

  begun_lasts : (q : Left) → Lasts q → Lasts (begun n p q)
  begun_lasts (Next f) l = meaning_lasts p f
  begun_lasts (Settle m k) l = l
  begun_lasts (Spell i k) l = l
  begun_lasts (Ask r k) l = l
  begun_lasts Over l = l
  begun_lasts Stuck l = tt

  busy : (q : Left) → Lasts q → IsBusy (wants n q)
  busy (Next f) l = tt
  busy (Settle m k) l = tt
  busy (Spell i k) l = tt
  busy (Ask r k) l = tt
  busy Over l = absurd l
  busy Stuck l = tt

  after_quiet : {w : ℕ → ℕ} {s : Left} (q : Left) {turn : Turn Request Reply} {t : Left} → Makes w s (wants n q) turn t → request_of turn ≡ [] → Lasts t
  after_quiet (Next f) thread.goes e = tt
  after_quiet (Settle m k) h e = elim h [ ]
  after_quiet (Spell i k) h e = elim h [ ]
  after_quiet (Ask r k) (thread.asks {y = y}) e = absurd (cc e)
  after_quiet Over h e = elim h [ ]
  after_quiet Stuck h e = elim h [ ]

  abbrev SpeaksTo : Store → ℕ → Turn Request Reply → Type 0
  SpeaksTo x u (thread.Did a) = ⊥
  SpeaksTo x u (thread.Loaded a i v) = ⊥
  SpeaksTo x u (thread.Claimed i put v) = ⊥
  SpeaksTo x u (thread.Asked e) = Answers store x u e.request e.reply

  abbrev AfterSpeech : Store → ℕ → Turn Request Reply → Left → Type 0
  AfterSpeech x u (thread.Did a) t = Unit {0}
  AfterSpeech x u (thread.Loaded a i v) t = Unit {0}
  AfterSpeech x u (thread.Claimed i put v) t = Unit {0}
  AfterSpeech x u (thread.Asked e) t = Lasts t ⊎ (is_active store (answer x u e.request).1 u ≡ false)

  after_asked : {w : ℕ → ℕ} {s : Left} (x : Store) (u : ℕ) (q : Left) {turn : Turn Request Reply} {t : Left} → Lasts q → Makes w s (wants n q) turn t → SpeaksTo x u turn → AfterSpeech x u turn t
  after_asked x u (Next f) l thread.goes a = tt
  after_asked x u (Settle m k) l h a = elim h [ ]
  after_asked x u (Spell i k) l h a = elim h [ ]
  after_asked x u (Ask r k) l (thread.asks {y = y}) a = ⊎_elim (λ e. inr (ended_inactive x u r y a e.0)) (λ g. inl (silent_lasts (k y) g)) (l y)
  after_asked x u Over l h a = elim h [ ]
  after_asked x u Stuck l h a = elim h [ ]

  live_laws : LiveLaws (machine p n) Lasts
  live_laws = record {
    wants = λ s l. busy (silent n (begun n p s)) (silent_lasts (begun n p s) (begun_lasts s l));
    answered = λ x u r e. halted-answer x u r ∙ not_over x u e;
    live_begun = λ h u r e. let k = general.live_begun starting starting_laws (main_frames p) starting_first h u r (lives (object.replayed store opening h) u e) in (Next k.0, ap as_process k.1);
    begin_busy = λ h u s e. let k = as_process-some (begin_of (main_frames p) (starts p) h u) s e in subst Lasts k.2 tt;
    quiet_busy = λ w s t turn l m e. after_quiet (silent n (begun n p s)) m e;
    asked_busy = λ w s t x u r y l m a. after_asked x u (silent n (begun n p s)) (silent_lasts (begun n p s) (begun_lasts s l)) m a;
    ended_stays = λ h u t r y s replays e a f. let k = as_process-some (begin_of (main_frames p) (starts p) h u) s e in
        ended_stays (object.replayed store opening h) u t r y (general.begun_low starting starting_laws (main_frames p) starting_first h u k.0 replays k.1) a f;
  }
    where
      not_over : (x : Store) (u : ℕ) → is_active store x u ≡ true → x.is_over ≡ false
      not_over x u e = by_over x.is_over (is_live x u) e
        where
          by_over : (b c : Bool) → (not b && c) ≡ true → b ≡ false
          by_over true c f = absurd (cc f)
          by_over false c f = refl

      lives : (x : Store) (u : ℕ) → is_active store x u ≡ true → is_live x u ≡ true
      lives x u e = by_over x.is_over (is_live x u) e
        where
          by_over : (b c : Bool) → (not b && c) ≡ true → c ≡ true
          by_over true c f = absurd (cc f)
          by_over false c f = f

  -- ---- no fault

  not_full : (w : ℕ → ℕ) (q : Left) → IsFull w (wants n q) → ⊥
  not_full w (Next f) h = h
  not_full w (Settle m k) h = h
  not_full w (Spell i k) h = h
  not_full w (Ask r k) h = h
  not_full w Over h = h
  not_full w Stuck h = h

  module _ (never : NeverStuck p) (names : IsNaming n) (ks : List ℕ) where
    abbrev world : World Request Reply Left Store
    world = (run (machine p n) ks []).world

    same_naming : Larger n n
    same_naming = record { values = λ m v e. e; trees = λ i t e. e }

    -- what is left of a thread after its turns and all that is silent
    talks_to : (u : ℕ) (s : Left) → state_of (machine p n) world u ≡ Some s → (from : Left) × (begin p world.history u ≡ Some from) × Talk p n from (part u world.history) (silent n (begun n p s))
    talks_to u s at = by_begin (begin p world.history u) refl ((runs_at_last p n ks).each u)
      where
        Found : Type 0
        Found = (from : Left) × (begin p world.history u ≡ Some from) × Talk p n from (part u world.history) (silent n (begun n p s))

        by_begin : (o : Option Left) → begin p world.history u ≡ o → Follows (machine p n) (slice_index world.words) o (world.moved u) (running.turns_of u world.turns) (part u world.history) → Found
        by_begin None is f = let none : state_of (machine p n) world u ≡ None = ap (λ m. first_of m (begin p world.history u)) f.0 ∙ is in absurd (cc (none, at))
        by_begin (Some from) is f =
            let here : state_of (machine p n) world u ≡ Some f.0 = ap (first_of (world.moved u)) is ∙ f.1 in
            let same : f.0 ≡ s = cc (here, at) in
            let turns : Talk p n from (part u world.history) s = subst (λ z. Talk p n from (part u world.history) z) same (subst (λ es. Talk p n from es f.0) f.3 (all_turns p n f.2)) in
            (from, is, subst (λ es. Talk p n from es (silent n (begun n p s))) (append-nil (part u world.history)) (talk_on turns (talk_on (begun_talk p n s) (silent_talk p n (begun n p s)))))

    not_stuck : (u : ℕ) (s : Left) → ¬ (Waits (silent n (begun n p s))) → state_of (machine p n) world u ≡ Some s → IsStuck store world.store (slice_index world.words) u (want n p s) → ⊥
    not_stuck u s numbered at stuck =
        let t = talks_to u s at in
        let all = runs_at_last p n ks in
        let safe = never.each n n names names same_naming world.history (run_is_legal p n ks) u t.0 (silent n (begun n p s)) t.1 t.2 in
        by_left (silent n (begun n p s)) numbered safe.goes (λ r k e. safe.proper r k e) (subst (λ x. IsStuck store x (slice_index world.words) u (want n p s)) all.stored stuck)
      where
        by_left : (q : Left) → ¬ (Waits q) → (Halts n q → ⊥) → ((r : Request) (k : Reply → Left) → q ≡ Ask r k → is_improper (answer (object.replayed store opening world.history) u r).0 ≡ false) → IsStuck store (object.replayed store opening world.history) (slice_index world.words) u (wants n q) → ⊥
        by_left (Next f) no' goes proper h = h
        by_left (Settle m k) no' goes proper h = no' tt
        by_left (Spell i k) no' goes proper h = no' tt
        by_left (Ask r k) no' goes proper h = cc (proper r k refl, h)
        by_left Over no' goes proper h = h
        by_left Stuck no' goes proper h = goes tt

    -- the run ends as nobody lives, or as all turns are made
    pub ends_surely : HasNumbersFor n p (run (machine p n) ks []).ending → IsSure (run (machine p n) ks []).ending
    ends_surely numbered = by_ending (run (machine p n) ks []).ending numbered (run_ends_so (machine p n) AnyWords AnyState NoneKnown run_laws Lasts live_laws ks [] tt)
      where
        by_ending : (e : running.Ending Left) → HasNumbersFor n p e → EndsSo (machine p n) (length ks) world e → IsSure e
        by_ending running.Done no' h = tt
        by_ending running.TurnsUsed no' h = tt
        by_ending (running.StuckAt u s) no' h = not_stuck u s no' h.0.state h.1
        by_ending (running.FullAt u s) no' h = not_full (slice_index world.words) (silent n (begun n p s)) h.1
        by_ending (running.Idle u) no' h = h

-- ---- the record of a run

-- the end of a history that lets nobody live
ended_surely : (o : Option (Event Request Reply)) → IsSureEnding (ended_by o)
ended_surely None = tt
ended_surely (Some e) = by_fall (fallen_kind e.request) e.reply
  where
    by_reply : (y : Reply) → IsSureEnding (stopped_by y)
    by_reply (says.Object k) = tt
    by_reply (says.Kind k) = tt
    by_reply (says.Word k) = tt
    by_reply (says.Thread k) = tt
    by_reply (says.Ended b) = tt
    by_reply says.Unknown = tt
    by_reply says.Done = tt
    by_reply (says.Stopped why) = tt
    by_reply says.Halted = tt
    by_reply says.Improper = tt

    by_fall : (o : Option ℕ) (y : Reply) → IsSureEnding (fallen_or o (stopped_by y))
    by_fall None y = by_reply y
    by_fall (Some kind) y = tt

shown_surely : (h : History) (e : running.Ending Left) → IsSure e → IsSureEnding (ending_at h e)
shown_surely h running.Done s = ended_surely (last_or None h)
shown_surely h running.TurnsUsed s = tt
shown_surely h (running.StuckAt u q) s = absurd s
shown_surely h (running.FullAt u q) s = absurd s
shown_surely h (running.Idle u) s = absurd s

-- a run of a program that is never stuck, as its record says
pub meant_surely : (p : Program) (chooser : Chooser) (turns : ℕ) (trees : List TExpr) (schedule order : List ℕ) (history : History) (ending : Ending) → NeverStuck p → IsMeant p chooser turns trees schedule order history ending → IsSureEnding ending
meant_surely p chooser turns trees schedule order history ending never m =
    let r = run_of p trees chooser turns in
    let sure : IsSure r.ending = ends_surely p (naming_of trees) never m.naming (numbers chooser turns) m.numbered in
    subst (λ e. IsSureEnding e) (sym m.runs.ending_is) (shown_surely r.world.history r.ending sure)

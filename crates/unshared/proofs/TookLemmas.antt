-- What a turn of a thread is, from what its instruction has left.
use Rattle.std.proofs.Common.{◌≡◌, ◌∙◌, inl, inr, ℕ, Vec, Global, List, [], ◌∷◌, ◌++◌, Bool, true, false, Option, Some, None, Result, Ok, Err, refl, sym, ap, subst}
use Rattle.std.specs.Prelude.{◌||◌, if◌then◌else◌}
use Rattle.type_tree.specs.declared.tree.TExpr.{TExpr}
use Rattle.il_model.specs.declared.program.Program.{Program}
use Rattle.interaction.specs.declared.history.Event.{Event}
use Rattle.interaction.specs.Process.{Naming, Next, Ask, Over, Stuck}
use Rattle.interaction.specs.Object.{Answers}
use Rattle.store_object.specs.declared.request.Request.{Request}
use Rattle.store_object.specs.declared.reply.Reply.{Reply}
use Rattle.store_object.specs.declared.request.Request.TheVariants as ask
use Rattle.store_object.specs.declared.reply.Reply.TheVariants as says
use Rattle.store_object.specs.Answer.{answer}
use Rattle.store_object.specs.Replay.{store, replayed, noted, is_halted, is_improper}
use Rattle.cil_meaning.specs.Naming.{Mention}
use Rattle.cil_meaning.specs.Frames.{Frames}
use Rattle.cil_meaning.specs.Replies.{Left}
use Rattle.cil_meaning.specs.Shown.{History}
use Rattle.cil_meaning.specs.Threads.{starts, started_by, started_frames}
use Rattle.unshared.specs.declared.frames.Frames.{Frames as FramesHere}
use Rattle.unshared.specs.declared.thread.Going.{Going}
use Rattle.unshared.specs.declared.thread.Going.TheVariants as going
use Rattle.unshared.specs.declared.thread.Thread.{Thread as ThreadHere}
use Rattle.unshared.specs.declared.thread.Turn.TheVariants as turn
use Rattle.unshared.specs.declared.pause.Halt.{Halt}
use Rattle.unshared.specs.declared.pause.Halt.TheVariants as halt
use Rattle.unshared.specs.Growing.{Grown, Grows}
use Rattle.unshared.specs.Acts.{Halts}
use Rattle.unshared.specs.declared.pause.Pause.{Pause}
use Rattle.unshared.specs.declared.pause.Pause.TheVariants as pause
use Rattle.unshared.specs.Standing.{frames_or_none, left_at, doing, stands, Arrives, Halts as Kept, MayStand, IsFine, Came}
use Rattle.unshared.specs.Took.{Took, Spoke, HasNone, object_begun, object_started, asked_or_started, turn_of}
use Rattle.unshared.specs.Turns.{silent, begun, want}
use Rattle.unshared.proofs.Standing.{stands_there, want_quiet, want_asks, want_over, next_is, doing_more}

-- Which threads a request begins. --------------------------------------------

begun_nothing : (p : Program) (object : ℕ) (y : Reply) → object_begun object y ≡ None → started_by p object y ≡ None
begun_nothing p object (says.Object number) e = refl
begun_nothing p object (says.Kind number) e = refl
begun_nothing p object (says.Word word) e = refl
begun_nothing p object (says.Thread number) e = absurd (cc e)
begun_nothing p object (says.Ended has_finished) e = refl
begun_nothing p object says.Unknown e = refl
begun_nothing p object says.Done e = refl
begun_nothing p object (says.Stopped why) e = refl
begun_nothing p object says.Halted e = refl
begun_nothing p object says.Improper e = refl

starts_nothing : (p : Program) (r : Request) (y : Reply) → object_started r y ≡ None → starts p r y ≡ None
starts_nothing p (ask.Alloc kind count words) y e = refl
starts_nothing p (ask.TypeOf object) y e = refl
starts_nothing p (ask.Length object) y e = refl
starts_nothing p (ask.Load place) y e = refl
starts_nothing p (ask.Save place word) y e = refl
starts_nothing p (ask.Exchange place word) y e = refl
starts_nothing p (ask.CompareExchange place word comparand) y e = refl
starts_nothing p (ask.Add place word narrow) y e = refl
starts_nothing p (ask.Print form word) y e = refl
starts_nothing p (ask.Start object) y e = begun_nothing p object y e
starts_nothing p (ask.Ended thread) y e = refl
starts_nothing p ask.Finish y e = refl
starts_nothing p (ask.Fall kind) y e = refl
starts_nothing p (ask.Stop why) y e = refl

begun_object : (p : Program) (object one : ℕ) (y : Reply) → object_begun object y ≡ Some one → (number : ℕ) × (started_by p object y ≡ Some (number, started_frames p one))
begun_object p object one (says.Object number) e = absurd (cc e)
begun_object p object one (says.Kind number) e = absurd (cc e)
begun_object p object one (says.Word word) e = absurd (cc e)
begun_object p object one (says.Thread number) e = let same : object ≡ one = cc e in (number, ap (λ k. Some (number, started_frames p k)) same)
begun_object p object one (says.Ended has_finished) e = absurd (cc e)
begun_object p object one says.Unknown e = absurd (cc e)
begun_object p object one says.Done e = absurd (cc e)
begun_object p object one (says.Stopped why) e = absurd (cc e)
begun_object p object one says.Halted e = absurd (cc e)
begun_object p object one says.Improper e = absurd (cc e)

starts_object : (p : Program) (r : Request) (y : Reply) (one : ℕ) → object_started r y ≡ Some one → (number : ℕ) × (starts p r y ≡ Some (number, started_frames p one))
starts_object p (ask.Alloc kind count words) y one e = absurd (cc e)
starts_object p (ask.TypeOf object) y one e = absurd (cc e)
starts_object p (ask.Length object) y one e = absurd (cc e)
starts_object p (ask.Load place) y one e = absurd (cc e)
starts_object p (ask.Save place word) y one e = absurd (cc e)
starts_object p (ask.Exchange place word) y one e = absurd (cc e)
starts_object p (ask.CompareExchange place word comparand) y one e = absurd (cc e)
starts_object p (ask.Add place word narrow) y one e = absurd (cc e)
starts_object p (ask.Print form word) y one e = absurd (cc e)
starts_object p (ask.Start object) y one e = begun_object p object one y e
starts_object p (ask.Ended thread) y one e = absurd (cc e)
starts_object p ask.Finish y one e = absurd (cc e)
starts_object p (ask.Fall kind) y one e = absurd (cc e)
starts_object p (ask.Stop why) y one e = absurd (cc e)

module _ (n : Naming Mention TExpr) (p : Program) where
  -- where a thread may stand that goes on
  may_stand : (t : ThreadHere) → t.going ≡ going.On → IsFine n p t → MayStand going.On t.replies.items (left_at n p t.frames t.replies.items)
  may_stand t goes fine = subst (λ g. MayStand g t.replies.items (left_at n p t.frames t.replies.items)) goes fine

  stands_on : (t : ThreadHere) → t.going ≡ going.On → stands n p t ≡ left_at n p t.frames t.replies.items
  stands_on t goes = rw goes

  -- an instruction that made no request
  took_quiet : (u : ℕ) (h : History) (t new : ThreadHere) → t.going ≡ going.On → new.going ≡ going.On → new.replies ≡ t.replies → IsFine n p t →
      doing n p t.frames t.replies.items ≡ Next (frames_or_none new.frames) → Took n p u h (stands n p t) (stands n p new) h turn.Quiet
  took_quiet u h t new goes on same fine e =
      let q = want_quiet n p t.frames new.frames t.replies.items (may_stand t goes fine) e in
      let there : stands n p new ≡ left_at n p new.frames t.replies.items = stands_on new on ∙ ap (λ ys. left_at n p new.frames ys.items) same in
      (rw (stands_on t goes, there) q, refl)

  fine_by : (o new : Option FramesHere) (ys : List Reply) → MayStand going.On ys (left_at n p o ys) → doing n p o ys ≡ Next (frames_or_none new) → MayStand going.On ys (left_at n p new ys)
  fine_by o new [] fine e = tt
  fine_by None new (y ∷ ys) fine e = absurd (cc e)
  fine_by (Some f) new (y ∷ ys) fine e = let asks = fine.1.1 in absurd (cc (asks, e))

  fine_quiet : (t new : ThreadHere) → t.going ≡ going.On → new.going ≡ going.On → new.replies ≡ t.replies → IsFine n p t → doing n p t.frames t.replies.items ≡ Next (frames_or_none new.frames) → IsFine n p new
  fine_quiet t new goes on same fine e =
      let f = fine_by t.frames new.frames t.replies.items (may_stand t goes fine) e in
      rw (on, same) f

  -- a request with its reply, after which it stands where its instruction has come
  took_spoke : (u : ℕ) (h : History) (t new : ThreadHere) (event : Event Request Reply) (begins : Option (ℕ × Frames)) (k : Reply → Left) → t.going ≡ going.On → IsFine n p t →
      doing n p t.frames t.replies.items ≡ Ask event.request k → event.thread ≡ u → Answers store (replayed h) u event.request event.reply →
      stands n p new ≡ silent n (k event.reply) → starts p event.request event.reply ≡ begins → Spoke n p u h (stands n p t) (stands n p new) (h ++ event ∷ []) event begins
  took_spoke u h t new event begins k goes fine e of answers to starting = record {
    left = λ y. silent n (k y);
    wants = ap (want n p) (stands_on t goes) ∙ want_asks n p t.frames t.replies.items event.request k (may_stand t goes fine) e;
    thread_is = of;
    answers = answers;
    to = to;
    kept = refl;
    starts_so = starting;
  }

  -- no turn
  -- the request is refused
  none_refused : (t : ThreadHere) (u : ℕ) (h : History) (r : Request) → t.going ≡ going.On → IsFine n p t → Halts (doing n p t.frames t.replies.items) (halt.Asks r) →
      (is_halted (answer (replayed h) u r).0 || is_improper (answer (replayed h) u r).0) ≡ true → HasNone n p u h (stands n p t)
  none_refused t u h r goes fine asks refused = inr (inr (record {
    request = r;
    left = λ y. silent n (asks.0 y);
    wants = ap (want n p) (stands_on t goes) ∙ want_asks n p t.frames t.replies.items r asks.0 (may_stand t goes fine) asks.1;
    refused = refused;
  }))

  none_stuck : (t : ThreadHere) (u : ℕ) (h : History) → t.going ≡ going.On → IsFine n p t → doing n p t.frames t.replies.items ≡ Stuck → HasNone n p u h (stands n p t)
  none_stuck t u h goes fine e = inl (ap (λ q. silent n (begun n p q)) (stands_on t goes) ∙ next_is n p t.frames t.replies.items (may_stand t goes fine) ∙ e)

  none_over : (t : ThreadHere) (u : ℕ) (h : History) → t.going ≡ going.On → IsFine n p t → doing n p t.frames t.replies.items ≡ Over → HasNone n p u h (stands n p t)
  none_over t u h goes fine e = inr (inl (ap (want n p) (stands_on t goes) ∙ want_over n p t.frames t.replies.items (may_stand t goes fine) e))

  pub none_ended : (t : ThreadHere) (u : ℕ) (h : History) → t.going ≡ going.Over → HasNone n p u h (stands n p t)
  none_ended t u h goes = inr (inl (rw goes))

  pub none_halted : (t : ThreadHere) (u : ℕ) (h : History) → t.going ≡ going.Stuck → HasNone n p u h (stands n p t)
  none_halted t u h goes = inl (rw goes)

  -- After one reply more. ------------------------------------------------------

  more_is : (f : FramesHere) (ys : List Reply) (y : Reply) → left_at n p (Some f) (ys ++ y ∷ []) ≡ doing n p (Some f) (ys ++ y ∷ [])
  more_is f [] y = refl
  more_is f (z ∷ zs) y = refl

  pending_at : (o : Option FramesHere) (ys : List Reply) (y : Reply) (r : Request) → Halts (doing n p o (ys ++ y ∷ [])) (halt.Asks r) → left_at n p o (ys ++ y ∷ []) ≡ doing n p o (ys ++ y ∷ [])
  pending_at None ys y r asks = absurd (cc asks.1)
  pending_at (Some f) ys y r asks = more_is f ys y

  may_pend : (o : Option FramesHere) (ys : List Reply) (y : Reply) (r : Request) → Halts (doing n p o (ys ++ y ∷ [])) (halt.Asks r) → MayStand going.On (ys ++ y ∷ []) (left_at n p o (ys ++ y ∷ []))
  may_pend None ys y r asks = absurd (cc asks.1)
  may_pend (Some f) [] y r asks = (r, (asks.0, asks.1))
  may_pend (Some f) (z ∷ zs) y r asks = (r, (asks.0, asks.1))

  pub came_done : (o : Option FramesHere) (ys : List Reply) (new : ThreadHere) → new.going ≡ going.On → new.replies.items ≡ [] → doing n p o ys ≡ Next (frames_or_none new.frames) → Came n p o ys new
  came_done o ys new on none e = record { stands_so = rw (on, none) (stands_there n p new.frames) ∙ sym e; fine = rw (on, none) tt }

  came_asks : (o : Option FramesHere) (ys : List Reply) (y : Reply) (new : ThreadHere) (r : Request) → new.going ≡ going.On → new.frames ≡ o → new.replies.items ≡ ys ++ y ∷ [] → Halts (doing n p o (ys ++ y ∷ [])) (halt.Asks r) → Came n p o (ys ++ y ∷ []) new
  came_asks o ys y new r on same more asks = record { stands_so = rw (on, same, more) (pending_at o ys y r asks); fine = rw (on, same, more) (may_pend o ys y r asks) }

  came_over : (o : Option FramesHere) (ys : List Reply) (new : ThreadHere) → new.going ≡ going.Over → doing n p o ys ≡ Over → Came n p o ys new
  came_over o ys new over e = record { stands_so = rw over (sym e); fine = rw over tt }

  came_stuck : (o : Option FramesHere) (ys : List Reply) (new : ThreadHere) → new.going ≡ going.Stuck → doing n p o ys ≡ Stuck → Came n p o ys new
  came_stuck o ys new halted e = record { stands_so = rw halted (sym e); fine = rw halted tt }

  -- where an instruction came with its replies, by how the code halts
  pub came_asking : (o : Option FramesHere) (ys ws : List Reply) (y : Reply) (after : Frames) (new : ThreadHere) (res : Result (Unit {0}) Pause) (r : Request) → res ≡ Err (pause.Halts (halt.Asks r)) → ws ≡ ys ++ y ∷ [] →
      Arrives (doing n p o ws) after res → Kept res o new.frames → new.going ≡ going.On → new.replies.items ≡ ws → Came n p o (ys ++ y ∷ []) new
  came_asking o ys ws y after new res r is more arrives kept on same =
      let left : Halts (doing n p o ws) (halt.Asks r) = subst (λ z. Arrives (doing n p o ws) after z) is arrives in
      let stay : new.frames ≡ o = subst (λ z. Kept z o new.frames) is kept in
      came_asks o ys y new r on stay (same ∙ more) (subst (λ l. Halts (doing n p o l) (halt.Asks r)) more left)

  pub came_ending : (o : Option FramesHere) (ys ws : List Reply) (after : Frames) (new : ThreadHere) (res : Result (Unit {0}) Pause) → res ≡ Err (pause.Halts halt.Over) → ws ≡ ys →
      Arrives (doing n p o ws) after res → new.going ≡ going.Over → Came n p o ys new
  came_ending o ys ws after new res is more arrives over =
      let left : doing n p o ws ≡ Over = subst (λ z. Arrives (doing n p o ws) after z) is arrives in
      came_over o ys new over (subst (λ l. doing n p o l ≡ Over) more left)

  pub came_halting : (o : Option FramesHere) (ys ws : List Reply) (after : Frames) (new : ThreadHere) (res : Result (Unit {0}) Pause) → res ≡ Err (pause.Halts halt.Stuck) → ws ≡ ys →
      Arrives (doing n p o ws) after res → new.going ≡ going.Stuck → Came n p o ys new
  came_halting o ys ws after new res is more arrives halted =
      let left : doing n p o ws ≡ Stuck = subst (λ z. Arrives (doing n p o ws) after z) is arrives in
      came_stuck o ys new halted (subst (λ l. doing n p o l ≡ Stuck) more left)

  -- A thread whose instruction makes a request is as it was.
  made_of : (a : Option FramesHere) (b : Vec Reply Global) (g : Going) → ThreadHere
  made_of a b g = record { frames = a; replies = b; going = g }

  pub same_thread : (t new : ThreadHere) (res : Result (Unit {0}) Pause) (r : Request) → res ≡ Err (pause.Halts (halt.Asks r)) → Kept res t.frames new.frames → new.replies ≡ t.replies → new.going ≡ t.going → new ≡ t
  unfolding made_of
  same_thread t new res r is kept same on =
      let stay : new.frames ≡ t.frames = subst (λ z. Kept z t.frames new.frames) is kept in
      ap (λ a. made_of a new.replies new.going) stay ∙ ap (λ b. made_of t.frames b new.going) same ∙ ap (made_of t.frames t.replies) on

  pub asks_by : (q : Left) (after : Frames) (res : Result (Unit {0}) Pause) (r : Request) → res ≡ Err (pause.Halts (halt.Asks r)) → Arrives q after res → Halts q (halt.Asks r)
  asks_by q after res r is arrives = subst (λ z. Arrives q after z) is arrives

  pub grown_by : (before after : List TExpr) (res : Result (Unit {0}) Pause) (h : Halt) → res ≡ Err (pause.Halts h) → Grows before after res → Grown before after
  grown_by before after res h is grows = subst (λ z. Grows before after z) is grows

  -- A turn that is a request. --------------------------------------------------

  spoke_at : (u : ℕ) (h : History) (t new : ThreadHere) (r : Request) (y : Reply) (begins : Option (ℕ × Frames)) → t.going ≡ going.On → IsFine n p t → Halts (doing n p t.frames t.replies.items) (halt.Asks r) →
      Answers store (replayed h) u r y → Came n p t.frames (t.replies.items ++ y ∷ []) new → starts p r y ≡ begins →
      Spoke n p u h (stands n p t) (stands n p new) (h ++ record { thread = u; request = r; reply = y } ∷ []) (record { thread = u; request = r; reply = y }) begins
  spoke_at u h t new r y begins goes fine asks answers came starting =
      took_spoke u h t new (record { thread = u; request = r; reply = y }) begins asks.0 goes fine asks.1 refl answers (came.stands_so ∙ doing_more n p t.frames t.replies.items r asks.0 y asks.1) starting

  by_started : (u : ℕ) (h : History) (t new : ThreadHere) (r : Request) (y : Reply) → t.going ≡ going.On → IsFine n p t → Halts (doing n p t.frames t.replies.items) (halt.Asks r) →
      Answers store (replayed h) u r y → Came n p t.frames (t.replies.items ++ y ∷ []) new → (o : Option ℕ) → object_started r y ≡ o →
      Took n p u h (stands n p t) (stands n p new) (h ++ record { thread = u; request = r; reply = y } ∷ []) (asked_or_started (record { thread = u; request = r; reply = y }) o)
  by_started u h t new r y goes fine asks answers came None e = spoke_at u h t new r y None goes fine asks answers came (starts_nothing p r y e)
  by_started u h t new r y goes fine asks answers came (Some object) e =
      let starting = starts_object p r y object e in
      (starting.0, spoke_at u h t new r y (Some (starting.0, started_frames p object)) goes fine asks answers came starting.1)

  noted_is : (h : History) (u : ℕ) (r : Request) (y : Reply) → (is_halted y || is_improper y) ≡ false → noted h u r y ≡ h ++ record { thread = u; request = r; reply = y } ∷ []
  noted_is h u r y e = ap (λ b. if b then h else h ++ record { thread = u; request = r; reply = y } ∷ []) e

  not_halted : (a b : Bool) → (a || b) ≡ false → a ≡ false
  not_halted true b e = absurd (cc e)
  not_halted false b e = refl

  not_improper : (a b : Bool) → (a || b) ≡ false → b ≡ false
  not_improper true b e = absurd (cc e)
  not_improper false b e = e

  pub took_asked : (u : ℕ) (h g history : History) (t new : ThreadHere) (r : Request) (y : Reply) → t.going ≡ going.On → IsFine n p t → Halts (doing n p t.frames t.replies.items) (halt.Asks r) →
      g ≡ h → y ≡ (answer (replayed g) u r).0 → (is_halted y || is_improper y) ≡ false → history ≡ noted g u r y → Came n p t.frames (t.replies.items ++ y ∷ []) new →
      Took n p u h (stands n p t) (stands n p new) history (turn_of (record { thread = u; request = r; reply = y }))
  took_asked u h g history t new r y goes fine asks same given kept is came =
      let told : (answer (replayed h) u r).0 ≡ y = ap (λ l. (answer (replayed l) u r).0) (sym same) ∙ sym given in
      let answers : Answers store (replayed h) u r y = record { given = told; goes_on = not_halted (is_halted y) (is_improper y) kept; proper = not_improper (is_halted y) (is_improper y) kept } in
      let whole : history ≡ h ++ record { thread = u; request = r; reply = y } ∷ [] = is ∙ noted_is g u r y kept ∙ ap (λ l. l ++ record { thread = u; request = r; reply = y } ∷ []) same in
      subst (λ l. Took n p u h (stands n p t) (stands n p new) l (turn_of (record { thread = u; request = r; reply = y }))) (sym whole)
      (by_started u h t new r y goes fine asks answers came (object_started r y) refl)

  noted_none : (h : History) (u : ℕ) (r : Request) (y : Reply) → (is_halted y || is_improper y) ≡ true → noted h u r y ≡ h
  noted_none h u r y e = ap (λ b. if b then h else h ++ record { thread = u; request = r; reply = y } ∷ []) e

  -- a request that the store refuses
  pub took_refused : (u : ℕ) (h g history : History) (t new : ThreadHere) (r : Request) (y : Reply) → t.going ≡ going.On → IsFine n p t → Halts (doing n p t.frames t.replies.items) (halt.Asks r) →
      g ≡ h → y ≡ (answer (replayed g) u r).0 → (is_halted y || is_improper y) ≡ true → history ≡ noted g u r y → Took n p u h (stands n p t) (stands n p new) history turn.NoRule
  took_refused u h g history t new r y goes fine asks same given refused is =
      let told : (answer (replayed h) u r).0 ≡ y = ap (λ l. (answer (replayed l) u r).0) (sym same) ∙ sym given in
      (none_refused t u h r goes fine asks (ap (λ z. is_halted z || is_improper z) told ∙ refused), is ∙ noted_none g u r y refused ∙ same)

  -- An instruction that makes no request. ---------------------------------------

  pub took_went : (u : ℕ) (h : History) (t new : ThreadHere) (res : Result (Unit {0}) Pause) (v : Unit {0}) → res ≡ Ok v → t.going ≡ going.On → new.going ≡ t.going → new.replies ≡ t.replies → IsFine n p t →
      Arrives (doing n p t.frames t.replies.items) (frames_or_none new.frames) res → Took n p u h (stands n p t) (stands n p new) h turn.Quiet
  took_went u h t new res v is goes on same fine arrives =
      took_quiet u h t new goes (on ∙ goes) same fine (subst (λ z. Arrives (doing n p t.frames t.replies.items) (frames_or_none new.frames) z) is arrives)

  pub fine_went : (t new : ThreadHere) (res : Result (Unit {0}) Pause) (v : Unit {0}) → res ≡ Ok v → t.going ≡ going.On → new.going ≡ t.going → new.replies ≡ t.replies → IsFine n p t →
      Arrives (doing n p t.frames t.replies.items) (frames_or_none new.frames) res → IsFine n p new
  fine_went t new res v is goes on same fine arrives =
      fine_quiet t new goes (on ∙ goes) same fine (subst (λ z. Arrives (doing n p t.frames t.replies.items) (frames_or_none new.frames) z) is arrives)

  -- No turn, by how the code halts. ---------------------------------------------

  pub over_by : (t : ThreadHere) (u : ℕ) (h : History) (after : Frames) (res : Result (Unit {0}) Pause) → res ≡ Err (pause.Halts halt.Over) → t.going ≡ going.On → IsFine n p t →
      Arrives (doing n p t.frames t.replies.items) after res → HasNone n p u h (stands n p t)
  over_by t u h after res is goes fine arrives = none_over t u h goes fine (subst (λ z. Arrives (doing n p t.frames t.replies.items) after z) is arrives)

  pub stuck_by : (t : ThreadHere) (u : ℕ) (h : History) (after : Frames) (res : Result (Unit {0}) Pause) → res ≡ Err (pause.Halts halt.Stuck) → t.going ≡ going.On → IsFine n p t →
      Arrives (doing n p t.frames t.replies.items) after res → HasNone n p u h (stands n p t)
  stuck_by t u h after res is goes fine arrives = none_stuck t u h goes fine (subst (λ z. Arrives (doing n p t.frames t.replies.items) after z) is arrives)

-- Where the next turn of a thread leads: one that has not ended goes on, but where its request ends it.
use Rattle.std.proofs.Common.{◌≡◌, ◌∙◌, ◌⊎◌, inl, inr, ⊎_elim, ℕ, ◌%◌, ◌==◌, Bool, true, false, not, ◌&&◌, List, [], slice_get, Option, Some, None, if◌then◌else◌, refl, sym, ap, subst}
use Rattle.il_model.specs.declared.entry.Entry.{Entry}
use Rattle.il_model.specs.declared.layout.Limit.{Limit}
use Rattle.type_tree.specs.declared.tree.TExpr.{TExpr}
use Rattle.interaction.specs.declared.history.Event.{Event}
use Rattle.interaction.specs.Process.{Over}
use Rattle.interaction.specs.Thread.{Turn, Makes, request_of}
use Rattle.interaction.specs.Thread as thread
use Rattle.interaction.specs.Object.{Answers, Replays, is_active}
use Rattle.interaction.specs.Object as object
use Rattle.interaction.specs.Endings.{IsBusy, LiveLaws}
use Rattle.interaction.specs.Safety.{Language, SafetyLaws, SafeStart}
use Rattle.interaction.proofs.NeverStuck as general
use Rattle.interaction.proofs.Starting.{begin_all}
use Rattle.rv_isa.specs.declared.instr.Instr.{Instr}
use Rattle.rv_isa.specs.Reading.{decode_of}
use Rattle.rgctx_words.specs.Stacks.{StackWords}
use Rattle.rv_machine.specs.declared.effect.Effect.{Effect}
use Rattle.rv_machine.specs.declared.effect.Effect.TheVariants as effect
use Rattle.rv_machine.specs.declared.size.Size.{Size}
use Rattle.rv_machine.specs.Registers.{register_of}
use Rattle.rv_machine.specs.Effect.{effect_of}
use Rattle.rv_machine.specs.Steps.{bytes_of, fetched, stored}
use Rattle.cil_meaning.specs.Naming.{Mention}
use Rattle.store_object.specs.declared.request.Request.{Request}
use Rattle.store_object.specs.declared.request.Request.TheVariants as ask
use Rattle.store_object.specs.declared.reply.Reply.{Reply}
use Rattle.store_object.specs.declared.reply.Reply.TheVariants as says
use Rattle.store_object.specs.Store.{Store, opening, is_live}
use Rattle.store_object.specs.Answer.{answer}
use Rattle.store_object.specs.Replay.{store}
use Rattle.store_object.proofs.StoreLaws.{IsStart, starts_next, asks_alive, halted-answer, lives_below, lives_other, starts_none}
use Rattle.rgctx_fill.specs.declared.doing.Doing.{Doing}
use Rattle.rgctx_fill.specs.declared.doing.Doing.TheVariants.{Runs, Serves, Fills, Interprets, Throws, Searches, Refuses, Stops, Finishes, Ended}
use Rattle.rgctx_fill.specs.declared.service.ServiceKind.{ServiceKind}
use Rattle.rgctx_fill.specs.declared.service.ServiceKind.TheVariants as service
use Rattle.rgctx_fill.specs.declared.spelled.NodeTree.{NodeTree}
use Rattle.rgctx_fill.specs.declared.stage.FillNext.{FillNext}
use Rattle.rgctx_fill.specs.declared.stage.FillNext.TheVariants as fill
use Rattle.rgctx_fill.specs.declared.stage.FillStep.{FillStep}
use Rattle.rgctx_fill.specs.declared.stage.FillStep.TheVariants as step
use Rattle.rgctx_fill.specs.Accesses.{frame_read, frame_written}
use Rattle.rgctx_fill.specs.BestRows.{best_row}
use Rattle.il_model.specs.declared.key.BodyRow.{BodyRow}
use Rattle.rgctx_fill.specs.FillServices.{filled_with, fills_next, begins_within, begins_entry, begins_at, fills}
use Rattle.rgctx_fill.specs.MachineTurns.{context_of, loads_frame, loads_from, stores, does, decoded, at_word}
use Rattle.rgctx_fill.specs.NamedValues.{entry_at}
use Rattle.rgctx_fill.specs.Services.{first, second, serves_as, serves_if}
use Rattle.rgctx_fill.specs.ServiceReplies.{answered}
use Rattle.rgctx_fill.specs.ServiceTable.{service_of}
use Rattle.rgctx_fill.specs.Starting.{limit_named}
use Rattle.rgctx_fill.specs.Templates.{tree_template}
use Rattle.rgctx_fill.specs.ThreadStates.{ImageData, ThreadData, Move, plain}
use Rattle.rgctx_fill.specs.ThreadStates as move
use Rattle.rgctx_fill.specs.ThreadTurns.{move_of, next_move}
use Rattle.rgctx_fill.specs.ThrowServices.{on_raised, on_thrown}
use Rattle.rgctx_fill.specs.Turns.{FillData, given_at, next_of, taken}
use Rattle.rt_service.specs.GoingOn.{IsOnward}
use Rattle.rt_service.proofs.LeadLemmas.{Leads}
use Rattle.rt_service.proofs.ServiceLemmas.{tree_led}
use Rattle.rt_service.proofs.QuietLemmas.{service_led}
use Rattle.thread_core.specs.Going.{has_ended}
use Rattle.thread_core.specs.Runs.{machine_of}
use Rattle.thread_core.specs.Starts.{main_in, main_thread, started_thread, started_by, starts, begin}
use Rattle.thread_core.proofs.EndedLemmas.{IsLast, finishes, stops, limited, last_inactive, inactive_stays}

-- the thread has not ended
abbrev pub Busy : ThreadData → Type 0
Busy t = has_ended t.doing ≡ false

abbrev pub AfterReply : Request → (Reply → ThreadData) → Type 0
AfterReply r next = (y : Reply) → Busy (next y) ⊎ IsLast r y

-- a private turn, a load or a claim leads to a thread that has not ended, and so does a request that is not the last
abbrev pub GoesOn : Move → Type 0
GoesOn (move.Goes what t) = Busy t
GoesOn (move.Reads i next) = (word : ℕ) → GoesOn (next word)
GoesOn (move.Loads what i next) = (found : ℕ) → Busy (next found)
GoesOn (move.Claims i word next) = (found : ℕ) → Busy (next found)
GoesOn (move.Asks r next) = AfterReply r next
GoesOn (move.IsFull region key) = Unit {0}
GoesOn (move.Faults fault) = Unit {0}
GoesOn move.IsOver = ⊥

-- a limit has stopped the run
abbrev IsLimit : Reply → Type 0
IsLimit (says.Object n) = ⊥
IsLimit (says.Kind n) = ⊥
IsLimit (says.Word n) = ⊥
IsLimit (says.Thread n) = ⊥
IsLimit (says.Ended b) = ⊥
IsLimit says.Unknown = ⊥
IsLimit says.Done = ⊥
IsLimit (says.Stopped why) = Unit {0}
IsLimit says.Halted = ⊥
IsLimit says.Improper = ⊥

abbrev AfterService : (Reply → ThreadData) → Type 0
AfterService next = (y : Reply) → Busy (next y) ⊎ IsLimit y

limit_last : (r : Request) (y : Reply) → IsLimit y → IsLast r y
limit_last r (says.Object n) l = absurd l
limit_last r (says.Kind n) l = absurd l
limit_last r (says.Word n) l = absurd l
limit_last r (says.Thread n) l = absurd l
limit_last r (says.Ended b) l = absurd l
limit_last r says.Unknown l = absurd l
limit_last r says.Done l = absurd l
limit_last r (says.Stopped why) l = limited
limit_last r says.Halted l = absurd l
limit_last r says.Improper l = absurd l

onward_busy : (d : Doing) → IsOnward d → has_ended d ≡ false
onward_busy Runs on = refl
onward_busy Serves on = refl
onward_busy (Fills f) on = refl
onward_busy Interprets on = refl
onward_busy (Throws x) on = refl
onward_busy (Searches x) on = refl
onward_busy Refuses on = refl
onward_busy (Stops why) on = refl
onward_busy Finishes on = refl
onward_busy Ended on = absurd on

same : (t : ThreadData) → IsOnward t.doing → Busy t
same t on = onward_busy t.doing on

led_on : (m : Move) → Leads Busy AfterService m → GoesOn m
led_on (move.Goes what t) l = l
led_on (move.Reads i next) l = λ word. led_on (next word) (l word)
led_on (move.Loads what i next) l = absurd l
led_on (move.Claims i word next) l = absurd l
led_on (move.Asks r next) l = λ y. ⊎_elim (λ b. inl b) (λ s. inr (limit_last r y s)) (l y)
led_on (move.IsFull region key) l = tt
led_on (move.Faults fault) l = tt
led_on move.IsOver l = absurd l

-- ---- machine code

module _ (s : ThreadData) (on : Busy s) where
  module _ (word : ℕ) where
    frame_on : (rd : ℕ) (size : Size) (sign : Bool) (address : ℕ) (found : Option ℕ) → GoesOn (loads_frame s word rd size sign address found)
    frame_on rd size sign address None = tt
    frame_on rd size sign address (Some found) = on

    from_on : (rd : ℕ) (size : Size) (sign : Bool) (address : ℕ) (i : Option ℕ) → GoesOn (loads_from s word rd size sign address i)
    from_on rd size sign address None = frame_on rd size sign address (frame_read size s.stack address)
    from_on rd size sign address (Some i) = λ found. on

    stores_on : (address : ℕ) (o : Option StackWords) → GoesOn (stores s word address o)
    stores_on address None = tt
    stores_on address (Some stack) = on

    if_on : (b : Bool) (m n : Move) → GoesOn m → GoesOn n → GoesOn (if b then m else n)
    if_on true m n p q = p
    if_on false m n p q = q

    does_on : (e : Effect) → GoesOn (does s word e)
    does_on (effect.Sets rd w) = on
    does_on (effect.Loads rd size sign address) = if_on (address % bytes_of size == 0) _ _ (from_on rd size sign address (context_of s size address)) tt
    does_on (effect.Stores size address w) = if_on (address % bytes_of size == 0) _ _ (stores_on address (frame_written size s.stack address (stored size w))) tt
    does_on (effect.Goes rd target) = on
    does_on effect.Calls = refl
    does_on effect.Breaks = tt

    decoded_on : (i : Option Instr) → GoesOn (decoded s word i)
    decoded_on None = tt
    decoded_on (Some i) = does_on (effect_of i s.core)

  word_on : (o : Option ℕ) → GoesOn (at_word s o)
  word_on None = tt
  word_on (Some word) = decoded_on word (decode_of word)

  -- ---- services

  answered_on : (y : Reply) → Busy (answered s y) ⊎ IsLimit y
  answered_on (says.Object n) = inl refl
  answered_on (says.Kind n) = inl refl
  answered_on (says.Word n) = inl refl
  answered_on (says.Thread n) = inl refl
  answered_on (says.Ended b) = inl refl
  answered_on says.Unknown = inl refl
  answered_on says.Done = inl refl
  answered_on (says.Stopped why) = inr tt
  answered_on says.Halted = inl on
  answered_on says.Improper = inl refl

  raised_on : (n : ℕ) (y : Reply) → Busy (on_raised s n y) ⊎ IsLimit y
  raised_on n (says.Object k) = inl refl
  raised_on n (says.Kind k) = inl refl
  raised_on n (says.Word k) = inl refl
  raised_on n (says.Thread k) = inl refl
  raised_on n (says.Ended b) = inl refl
  raised_on n says.Unknown = inl refl
  raised_on n says.Done = inl refl
  raised_on n (says.Stopped why) = inr tt
  raised_on n says.Halted = inl on
  raised_on n says.Improper = inl refl

  thrown_on : (w : ℕ) (y : Reply) → Busy (on_thrown s w y) ⊎ IsLimit y
  thrown_on w (says.Object k) = inl refl
  thrown_on w (says.Kind k) = inl refl
  thrown_on w (says.Word k) = inl refl
  thrown_on w (says.Thread k) = inl refl
  thrown_on w (says.Ended b) = inl refl
  thrown_on w says.Unknown = inl refl
  thrown_on w says.Done = inl refl
  thrown_on w (says.Stopped why) = inr tt
  thrown_on w says.Halted = inl on
  thrown_on w says.Improper = inl refl

  -- ---- fills

  filled_on : (f : FillData) (g : FillStep) → Busy (filled_with s f g)
  filled_on f step.More = refl
  filled_on f (step.Value v) = refl
  filled_on f (step.Full r key) = refl

  next_on : (f : FillData) (n : FillNext) → GoesOn (fills_next s f n)
  next_on f (fill.Load i) = λ found. filled_on (taken f found) (given_at (taken f found).stage)
  next_on f (fill.Claim i word) = λ found. filled_on (taken f found) (given_at (taken f found).stage)
  next_on f (fill.Full r key) = tt
  next_on f fill.Nothing = tt

  module _ (im : ImageData) where
    abbrev Led : Move → Type 0
    Led m = Leads Busy AfterService m

    within_on : (node number : ℕ) (t : NodeTree) (e : Entry) (limit : Option Limit) → Led (begins_within im s node number t e limit)
    within_on node number t e None = refl
    within_on node number t e (Some limit) = refl

    entry_on : (node number : ℕ) (t : NodeTree) (e : Option Entry) → Led (begins_entry im s node number t e)
    entry_on node number t None = tt
    entry_on node number t (Some e) = within_on node number t (entry_at t e) (limit_named im.cat.program t (entry_at t e))

    fill_on : (node number : ℕ) → Led (fills im s node number)
    fill_on node number = tree_led Busy AfterService same s node (begins_at im s node number) (λ t. entry_on node number t (slice_get (tree_template im.cat t) number))

    kind_led : (kind : ServiceKind) → (kind ≡ service.Fill) ⊎ Led (serves_as im s kind) → Led (serves_as im s kind)
    kind_led kind led = ⊎_elim
        (λ (e : kind ≡ service.Fill). subst (λ k. Led (serves_as im s k)) (sym e) (fill_on (first im s) (second im s)))
        (λ (p : Led (serves_as im s kind)). p)
        led

    kind_on : (o : Option ServiceKind) → GoesOn (serves_if im s o)
    kind_on None = tt
    kind_on (Some kind) = led_on (serves_as im s kind) (kind_led kind (service_led Busy AfterService same im s answered_on raised_on thrown_on kind))

    move_on : (d : Doing) → has_ended d ≡ false → GoesOn (move_of im s d)
    move_on Runs e = word_on (fetched im.code s.core.pc)
    move_on Serves e = kind_on (service_of (register_of s.core 17))
    move_on (Fills f) e = next_on f (next_of f)
    move_on Interprets e = tt
    move_on (Throws x) e = refl
    move_on (Searches x) e = tt
    move_on Refuses e = tt
    move_on (Stops why) e = λ y. inr stops
    move_on Finishes e = λ y. inr finishes
    move_on Ended e = absurd (cc e)

pub turn_on : (im : ImageData) (s : ThreadData) → Busy s → GoesOn (next_move im s)
turn_on im s on = move_on s on im s.doing on

-- ---- what a turn that was made leads to

busy_want : (m : Move) → GoesOn m → IsBusy (plain m)
busy_want (move.Goes what t) g = tt
busy_want (move.Reads i next) g = λ word. busy_want (next word) (g word)
busy_want (move.Loads what i next) g = tt
busy_want (move.Claims i word next) g = tt
busy_want (move.Asks r next) g = tt
busy_want (move.IsFull region key) g = tt
busy_want (move.Faults fault) g = tt
busy_want move.IsOver g = absurd g

module _ (w : ℕ → ℕ) (s : ThreadData) (on : Busy s) where
  after_quiet : (m : Move) {turn : Turn Request Reply} {t : ThreadData} → GoesOn m → Makes w s (plain m) turn t → request_of turn ≡ [] → Busy t
  after_quiet (move.Goes what t) g thread.goes e = g
  after_quiet (move.Reads i next) g (thread.tries m) e = on
  after_quiet (move.Reads i next) g (thread.reads nz m) e = after_quiet (next (w i)) (g (w i)) m e
  after_quiet (move.Loads what i next) g (thread.loads {v = v} m) e = g v
  after_quiet (move.Claims i word next) g (thread.claims {v = v} m) e = g v
  after_quiet (move.Asks r next) g (thread.asks {y = y}) e = absurd (cc e)
  after_quiet (move.IsFull region key) g h e = elim h [ ]
  after_quiet (move.Faults fault) g h e = elim h [ ]
  after_quiet move.IsOver g h e = elim h [ ]

  abbrev SpeaksTo : Store → ℕ → Turn Request Reply → Type 0
  SpeaksTo x u (thread.Did a) = ⊥
  SpeaksTo x u (thread.Loaded a i v) = ⊥
  SpeaksTo x u (thread.Claimed i put v) = ⊥
  SpeaksTo x u (thread.Asked e) = Answers store x u e.request e.reply

  abbrev AfterSpeech : Store → ℕ → Turn Request Reply → ThreadData → Type 0
  AfterSpeech x u (thread.Did a) t = Unit {0}
  AfterSpeech x u (thread.Loaded a i v) t = Unit {0}
  AfterSpeech x u (thread.Claimed i put v) t = Unit {0}
  AfterSpeech x u (thread.Asked e) t = Busy t ⊎ (is_active store (answer x u e.request).1 u ≡ false)

  after_asked : (x : Store) (u : ℕ) (m : Move) {turn : Turn Request Reply} {t : ThreadData} → GoesOn m → Makes w s (plain m) turn t → SpeaksTo x u turn → AfterSpeech x u turn t
  after_asked x u (move.Goes what t) g thread.goes a = tt
  after_asked x u (move.Reads i next) g (thread.tries m) a = tt
  after_asked x u (move.Reads i next) g (thread.reads nz m) a = after_asked x u (next (w i)) (g (w i)) m a
  after_asked x u (move.Loads what i next) g (thread.loads m) a = tt
  after_asked x u (move.Claims i word next) g (thread.claims m) a = tt
  after_asked x u (move.Asks r next) g (thread.asks {y = y}) a = ⊎_elim (λ b. inl b) (λ l. inr (last_inactive x u r y a l)) (g y)
  after_asked x u (move.IsFull region key) g h a = elim h [ ]
  after_asked x u (move.Faults fault) g h a = elim h [ ]
  after_asked x u move.IsOver g h a = elim h [ ]

-- ---- where threads begin

module _ (im : ImageData) where
  number_of : (a b : ℕ × ThreadData) → ◌≡◌ {A = Option (ℕ × ThreadData)} (Some a) (Some b) → a ≡ b
  number_of a b e = cc e

  started_is : (object : ℕ) (y : Reply) (b : ℕ × ThreadData) → started_by im object y ≡ Some b → (y ≡ says.Thread b.0) × (b.1 ≡ started_thread im object)
  started_is object (says.Object k) b e = absurd (cc e)
  started_is object (says.Kind k) b e = absurd (cc e)
  started_is object (says.Word k) b e = absurd (cc e)
  started_is object (says.Thread k) b e = let q = number_of (k, started_thread im object) b e in (ap (λ z. says.Thread z.0) q, sym (ap (λ z. z.1) q))
  started_is object (says.Ended k) b e = absurd (cc e)
  started_is object says.Unknown b e = absurd (cc e)
  started_is object says.Done b e = absurd (cc e)
  started_is object (says.Stopped k) b e = absurd (cc e)
  started_is object says.Halted b e = absurd (cc e)
  started_is object says.Improper b e = absurd (cc e)

  pub record IsBegun (r : Request) (y : Reply) (b : ℕ × ThreadData) : Type 0 where
    pub object : ℕ
    pub reply : y ≡ says.Thread b.0
    pub state : b.1 ≡ started_thread im object

  pub begun_is : (r : Request) (y : Reply) (b : ℕ × ThreadData) → starts im r y ≡ Some b → IsBegun r y b
  begun_is (ask.Alloc kind count words) y b e = absurd (cc e)
  begun_is (ask.TypeOf object) y b e = absurd (cc e)
  begun_is (ask.Length object) y b e = absurd (cc e)
  begun_is (ask.Load place) y b e = absurd (cc e)
  begun_is (ask.Save place word) y b e = absurd (cc e)
  begun_is (ask.Exchange place word) y b e = absurd (cc e)
  begun_is (ask.CompareExchange place word comparand) y b e = absurd (cc e)
  begun_is (ask.Add place word narrow) y b e = absurd (cc e)
  begun_is (ask.Print form word) y b e = absurd (cc e)
  begun_is (ask.Start object) y b e = let q = started_is object y b e in record { object = object; reply = q.0; state = q.1 }
  begun_is (ask.Ended thread) y b e = absurd (cc e)
  begun_is ask.Finish y b e = absurd (cc e)
  begun_is (ask.Fall kind) y b e = absurd (cc e)
  begun_is (ask.Stop why) y b e = absurd (cc e)

  no_start : (x : Store) (t : ℕ) (r : Request) → starts im r (answer x t r).0 ≡ None → (k : ℕ) → (answer x t r).0 ≡ says.Thread k → ⊥
  no_start x t r e k is =
      let s : IsStart x (answer x t r).1 r k = starts_next x t r k is in
      let q : starts im (ask.Start s.object) (says.Thread k) ≡ None = subst (λ z. starts im z (says.Thread k) ≡ None) s.request (subst (λ z. starts im r z ≡ None) is e) in
      cc q

  one_start : (x : Store) (t : ℕ) (r : Request) (b : ℕ × ThreadData) → starts im r (answer x t r).0 ≡ Some b → IsStart x (answer x t r).1 r b.0
  one_start x t r b e = starts_next x t r b.0 (begun_is r (answer x t r).0 b e).reply

  -- the language of which only the starts matter
  abbrev starting : Language Mention TExpr Request Reply ThreadData Store
  starting = record { object = store; naming = record { value_of = λ m. None; tree_at = λ i. None }; meaning = λ f. Over; starts = starts im; Typed = λ x. Unit {0}; Grows = λ x y. Unit {0}; Fits = λ x f. Unit {0} }

  starting_laws : SafetyLaws starting
  starting_laws = record {
    grows_self = λ x. tt;
    grows_then = λ x y z g h. tt;
    grows_after = λ x t r. tt;
    fits_later = λ x y f g h. tt;
    steps = λ u x f h. tt;
    lives_below = lives_below;
    lives_other = lives_other;
    asks_alive = asks_alive;
    begins_none = λ x t r e. starts_none x t r (no_start x t r e);
    begins_one = λ x t r b l go e. let s = one_start x t r b e in (s.number, s.count);
    begun_lives = λ x t r b ty l go e. (one_start x t r b e).lives;
  }

  starting_first : SafeStart starting (main_thread im)
  starting_first = record { typed = tt; one = refl; lives = refl; fits = tt }

  main_busy : (row : Option BodyRow) → Busy (main_in im row)
  main_busy None = refl
  main_busy (Some row) = refl

  begun_busy : (h : List (Event Request Reply)) (u : ℕ) (s : ThreadData) → begin im h u ≡ Some s → Busy s
  begun_busy h u s e = begin_all Busy (main_thread im) (starts im) (main_busy (best_row im.cat.program im.cat.bodies im.cat.program.main []))
      (λ r y b is. let q = begun_is r y b is in subst Busy (sym q.state) refl) h u s e

  pub live_laws : LiveLaws (machine_of im) Busy
  live_laws = record {
    wants = λ s l. busy_want (next_move im s) (turn_on im s l);
    answered = λ x u r e. halted-answer x u r ∙ not_over x u e;
    live_begun = λ h u r e. general.live_begun starting starting_laws (main_thread im) starting_first h u r (lives (object.replayed store opening h) u e);
    begin_busy = begun_busy;
    quiet_busy = λ w s t turn l m e. after_quiet w s l (next_move im s) (turn_on im s l) m e;
    asked_busy = λ w s t x u r y l m a. after_asked w s l x u (next_move im s) (turn_on im s l) m a;
    ended_stays = λ h u t r y s replays e a f. inactive_stays (object.replayed store opening h) u t r (general.begun_low starting starting_laws (main_thread im) starting_first h u s replays e) f;
  }
    where
      not_over : (x : Store) (u : ℕ) → is_active store x u ≡ true → x.is_over ≡ false
      not_over x u e = by_over x.is_over (is_live x u) e
        where
          by_over : (b c : Bool) → (not b && c) ≡ true → b ≡ false
          by_over true c f = absurd (cc f)
          by_over false c f = refl

      lives : (x : Store) (u : ℕ) → is_active store x u ≡ true → is_live x u ≡ true
      lives x u e = by_over x.is_over (is_live x u) e
        where
          by_over : (b c : Bool) → (not b && c) ≡ true → c ≡ true
          by_over true c f = absurd (cc f)
          by_over false c f = f

-- The turn that a thread has made is that of the run.
use Rattle.std.proofs.Common.{◌≡◌, ◌≢◌, ⊎_elim, ℕ, zero, suc, ◌==◌, ◌<◌, nat_lt, Bool, true, false, if◌then◌else◌, List, [], ◌∷◌, ◌++◌, length, slice_index, slice_set, Option, Some, None, refl, sym, ap, ◌∙◌, subst, arith, eq-eqb, eqb-true, append-nil}
use Rattle.std.proofs.lemmas.Bool.{eqb-false}
use Rattle.std.proofs.lemmas.Bool.Decides.{nat_tests}
use Rattle.mn_outside.specs.declared.machine.MachineFault.{MachineFault}
use Rattle.mn_outside.specs.declared.places.Region.{Region}
use Rattle.interaction.specs.declared.turn.What.{What}
use Rattle.interaction.specs.declared.turn.What.TheVariants as noted
use Rattle.interaction.specs.Thread.{Turn, Did, Loaded, Claimed, what_of}
use Rattle.interaction.specs.Run.{World, Moves, Ends, moved_on, asked, turned, claimed, put_by}
use Rattle.interaction.specs.Run as running
use Rattle.rgctx_words.specs.Regions.{word_count}
use Rattle.rgctx_template.specs.Catalogue.{CatData}
use Rattle.store_object.specs.declared.ending.Ending.{Ending}
use Rattle.store_object.specs.declared.ending.Ending.TheVariants as ends
use Rattle.store_object.specs.declared.request.Request.{Request}
use Rattle.store_object.specs.declared.reply.Reply.{Reply}
use Rattle.store_object.specs.Replay.{store}
use Rattle.store_object.specs.Store.{Store}
use Rattle.rgctx_fill.specs.declared.doing.Doing.{Doing}
use Rattle.rgctx_fill.specs.declared.doing.Doing.TheVariants.{Runs, Serves, Fills, Interprets, Throws, Searches, Refuses, Stops, Finishes, Ended}
use Rattle.rgctx_fill.specs.declared.stage.FillNext.{FillNext}
use Rattle.rgctx_fill.specs.declared.stage.FillNext.TheVariants as fill
use Rattle.rgctx_fill.specs.declared.thread.Want.{Want}
use Rattle.rgctx_fill.specs.declared.thread.Want.TheVariants as answers
use Rattle.rgctx_fill.specs.FillServices.{filled, fills_next}
use Rattle.rgctx_fill.specs.Moves.{Span, span, IsSame, IsGone, IsTried, HasLoaded, HasClaimed, IsMade, IsReplied}
use Rattle.rgctx_fill.specs.Ready.{IsReady, claims_after}
use Rattle.rgctx_fill.specs.Reading.{IsUnknown}
use Rattle.rgctx_fill.specs.ThreadStates.{ImageData, ThreadData, Move, plain}
use Rattle.rgctx_fill.specs.ThreadStates as move
use Rattle.rgctx_fill.specs.ThreadTurns.{move_of, next_move}
use Rattle.rgctx_fill.specs.Turns.{FillData, next_of, taken}
use Rattle.rgctx_fill.proofs.TurnLemmas.{MayPut, may-put}
use Rattle.thread_core.specs.Going.{IsGoing}
use Rattle.thread_core.specs.Runs.{machine_of, improper_fault, end_of_move, ending_at, draws_of}
use Rattle.thread_core.proofs.TameLemmas.{IsTame, move_tame}

-- a word that nothing shows is 0
unknown-free : (cat : CatData) (held : ℕ → ℕ) (i : ℕ) → IsUnknown cat held i → held i ≡ 0
unknown-free cat held i unknown = by (held i == 0) refl
  where
    by : (b : Bool) → (held i == 0) ≡ b → held i ≡ 0
    by true e = eqb-true (held i) 0 e
    by false e = absurd (unknown (λ at fits grows z. eqb-false (held i) 0 e (sym (grows i (eqb-false (held i) 0 e)) ∙ z)))

abbrev listed_of : Option (List (ℕ × ℕ)) → List (ℕ × ℕ)
listed_of None = []
listed_of (Some l) = l

differs : (m : ℕ) → m ≢ 0 → (m == 0) ≡ false
differs m ne = by (m == 0) refl
  where
    by : (b : Bool) → (m == 0) ≡ b → b ≡ false
    by true e = absurd (ne (eqb-true m 0 e))
    by false e = refl

module _ (im : ImageData) (x : World Request Reply ThreadData Store) (u : ℕ) (s : ThreadData) (v : List ℕ) (listed relisted : List (ℕ × ℕ)) where
  abbrev h : Span
  h = span true (slice_index x.words) (slice_index v) (Some listed) (Some relisted)

  abbrev Step : Type 0
  Step = running.Step Request Reply ThreadData Store

  abbrev step_of : Move → Step
  step_of m = turned (machine_of im) x u s (plain m)

  -- the turn, as it is noted
  pub record Went (what : What) (new : ThreadData) (m : Move) : Type 0 where
    pub turn : Turn Request Reply
    pub moves : step_of m ≡ Moves (moved_on x u new turn v)
    pub noted : what_of turn ≡ what
    pub claims : relisted ≡ listed ++ put_by turn

  -- a request, which leaves all
  pub record Asking (request : Request) (new : ThreadData) (m : Move) : Type 0 where
    pub next : Reply → ThreadData
    pub asks : step_of m ≡ asked (machine_of im) x u s request next (store.reply x.store u request)
    pub replied : (reply : Reply) (t : ThreadData) → IsReplied m reply t → t ≡ next reply
    pub improper : end_of_move (slice_index x.words) s m ≡ ends.Fault (improper_fault s)
    pub same : new ≡ s
    pub words : v ≡ x.words
    pub claims : relisted ≡ listed

  -- no turn, so the run ends
  pub record HasNone (e : Ending) (new : ThreadData) (m : Move) : Type 0 where
    pub ending : running.Ending ThreadData
    pub stops : step_of m ≡ Ends ending
    pub named : end_of_move (slice_index x.words) s m ≡ e
    pub at : ending_at im x ending ≡ end_of_move (slice_index x.words) s (next_move im s)
    pub draws : (n : ℕ) → draws_of ending n ≡ suc n
    pub words : v ≡ x.words
    pub claims : relisted ≡ listed

  abbrev pub Comes : Move → Want → ThreadData → Type 0
  Comes m (answers.Did what) new = Went what new m
  Comes m (answers.Ask request) new = Asking request new m
  Comes m (answers.Full region key) new = HasNone (ends.Full region key) new m
  Comes m (answers.Fault fault) new = HasNone (ends.Fault fault) new m

  module _ (kept : relisted ≡ listed → v ≡ x.words) where
    same_list : Some relisted ≡ Some listed → relisted ≡ listed
    same_list e = ap listed_of e

    nothing_more : relisted ≡ listed → relisted ≡ listed ++ []
    nothing_more e = e ∙ sym (append-nil listed)

    -- said and left so
    so : (m : Move) (said answer : Want) (new t : ThreadData) → said ≡ answer → new ≡ t → Comes m answer t → Comes m said new
    so m said answer new t says state c = subst (λ a. Comes m a new) (sym says) (subst (λ n. Comes m answer n) (sym state) c)

    gone : (what : What) (t : ThreadData) (said : Want) (new : ThreadData) → IsGone h what t said new → Comes (move.Goes what t) said new
    gone what t said new g =
        let claims : relisted ≡ listed = same_list g.claims in
        so (move.Goes what t) said (answers.Did what) new t g.says g.state
        (record { turn = Did what; moves = ap (λ ws. Moves (moved_on x u t (Did what) ws)) (sym (kept claims)); noted = refl; claims = nothing_more claims })

    loaded : (what : What) (i : ℕ) (next : ℕ → ThreadData) (said : Want) (new : ThreadData) → HasLoaded h what i next said new → Comes (move.Loads what i next) said new
    loaded what i next said new l =
        let claims : relisted ≡ listed = same_list l.gone.claims in
        let found : l.answer ≡ slice_index x.words i = (l.loaded.only refl).0 in
        so (move.Loads what i next) said (answers.Did what) new (next (slice_index x.words i)) l.gone.says (l.gone.state ∙ ap next found)
        (record {
          turn = Loaded what i (slice_index x.words i);
          moves = ap (λ ws. Moves (moved_on x u (next (slice_index x.words i)) (Loaded what i (slice_index x.words i)) ws)) (sym (kept claims));
          noted = refl;
          claims = nothing_more claims;
        })

    tried : (cat : CatData) (i : ℕ) (next : ℕ → Move) (said : Want) (new : ThreadData) → IsTried cat h s i said new → Comes (move.Reads i next) said new
    tried cat i next said new t =
        let claims : relisted ≡ listed = same_list t.same.claims in
        let zero_there : slice_index x.words i ≡ 0 = unknown-free cat (slice_index x.words) i t.unknown in
        so (move.Reads i next) said (answers.Did (noted.Load i)) new s t.same.says t.same.state
        (record {
          turn = Loaded (noted.Load i) i 0;
          moves = ap (λ b. if b then Moves (moved_on x u s (Loaded (noted.Load i) i 0) x.words) else step_of (next (slice_index x.words i))) (eq-eqb (slice_index x.words i) 0 zero_there)
              ∙ ap (λ ws. Moves (moved_on x u s (Loaded (noted.Load i) i 0) ws)) (sym (kept claims));
          noted = refl;
          claims = nothing_more claims;
        })

    asks : (request : Request) (next : Reply → ThreadData) (said : Want) (new : ThreadData) → IsSame h s (answers.Ask request) said new → Comes (move.Asks request next) said new
    asks request next said new t =
        so (move.Asks request next) said (answers.Ask request) new s t.says t.state
        (record { next = next; asks = refl; replied = λ reply t r. r; improper = refl; same = refl; words = kept (same_list t.claims); claims = same_list t.claims })

    full : (region : Region) (key : ℕ) (said : Want) (new : ThreadData) → IsSame h s (answers.Full region key) said new → Comes (move.IsFull region key) said new
    full region key said new t =
        so (move.IsFull region key) said (answers.Full region key) new s t.says t.state
        (record { ending = running.FullAt u s; stops = refl; named = refl; at = refl; draws = λ n. refl; words = kept (same_list t.claims); claims = same_list t.claims })

    faults : (fault : MachineFault) (said : Want) (new : ThreadData) → IsSame h s (answers.Fault fault) said new → Comes (move.Faults fault) said new
    faults fault said new t =
        so (move.Faults fault) said (answers.Fault fault) new s t.says t.state
        (record { ending = running.StuckAt u s; stops = refl; named = refl; at = refl; draws = λ n. refl; words = kept (same_list t.claims); claims = same_list t.claims })

    -- a turn that reads first
    module _ (i : ℕ) (next : ℕ → Move) (used : slice_index x.words i ≢ 0) where
      here : step_of (move.Reads i next) ≡ step_of (next (slice_index x.words i))
      here = ap (λ b. if b then Moves (moved_on x u s (Loaded (noted.Load i) i 0) x.words) else step_of (next (slice_index x.words i))) (differs (slice_index x.words i) used)

      read_on : (said : Want) (new : ThreadData) → Comes (next (slice_index x.words i)) said new → Comes (move.Reads i next) said new
      read_on (answers.Did what) new c = record { turn = c.turn; moves = here ∙ c.moves; noted = c.noted; claims = c.claims }
      read_on (answers.Ask request) new c = record { next = c.next; asks = here ∙ c.asks; replied = λ reply t r. c.replied reply t (r (slice_index x.words i)); improper = c.improper; same = c.same; words = c.words; claims = c.claims }
      read_on (answers.Full region key) new c = record { ending = c.ending; stops = here ∙ c.stops; named = c.named; at = c.at; draws = c.draws; words = c.words; claims = c.claims }
      read_on (answers.Fault fault) new c = record { ending = c.ending; stops = here ∙ c.stops; named = c.named; at = c.at; draws = c.draws; words = c.words; claims = c.claims }

    -- nothing is claimed
    quiet : (cat : CatData) (said : Want) (new : ThreadData) (m : Move) → IsTame m → IsMade cat h s m said new → relisted ≡ listed
    quiet cat said new (move.Goes what t) p made = same_list made.claims
    quiet cat said new (move.Reads i next) p made = ⊎_elim (λ t. same_list t.same.claims) (λ later. quiet cat said new (next (slice_index v i)) (p (slice_index v i)) later.1) made
    quiet cat said new (move.Loads what i next) p made = same_list made.gone.claims
    quiet cat said new (move.Claims i word next) p made = absurd p
    quiet cat said new (move.Asks request next) p made = same_list made.claims
    quiet cat said new (move.IsFull region key) p made = same_list made.claims
    quiet cat said new (move.Faults fault) p made = same_list made.claims
    quiet cat said new move.IsOver p made = absurd made

    pub tame_comes : (cat : CatData) (said : Want) (new : ThreadData) (m : Move) → IsTame m → IsMade cat h s m said new → Comes m said new
    tame_comes cat said new (move.Goes what t) p made = gone what t said new made
    tame_comes cat said new (move.Reads i next) p made = ⊎_elim (tried cat i next said new)
        (λ later.
        let words : v ≡ x.words = kept (quiet cat said new (next (slice_index v i)) (p (slice_index v i)) later.1) in
        let word : slice_index v i ≡ slice_index x.words i = ap (λ ws. slice_index ws i) words in
        let made' : IsMade cat h s (next (slice_index x.words i)) said new = subst (λ w. IsMade cat h s (next w) said new) word later.1 in
        read_on i next (λ z. later.0 (word ∙ z)) said new (tame_comes cat said new (next (slice_index x.words i)) (p (slice_index x.words i)) made'))
        made
    tame_comes cat said new (move.Loads what i next) p made = loaded what i next said new made
    tame_comes cat said new (move.Claims i word next) p made = absurd p
    tame_comes cat said new (move.Asks request next) p made = asks request next said new made
    tame_comes cat said new (move.IsFull region key) p made = full region key said new made
    tame_comes cat said new (move.Faults fault) p made = faults fault said new made
    tame_comes cat said new move.IsOver p made = absurd made

    -- ---- the turn of a fill

    module _ (count : length x.words ≡ word_count) (put : (i w : ℕ) → relisted ≡ listed ++ (i, w) ∷ [] → i < word_count → slice_index x.words i ≡ 0 → w ≢ 0 → v ≡ slice_set x.words i w) where
      -- the words and the list behind a claim, by what it found
      record Put (i w found : ℕ) : Type 0 where
        words : v ≡ (if found == 0 then slice_set x.words i w else x.words)
        claims : relisted ≡ listed ++ (if found == 0 then (i, w) ∷ [] else [])

      put_so : (i w : ℕ) → i < word_count → w ≢ 0 → (found : ℕ) → slice_index x.words i ≡ found → Some relisted ≡ claims_after (Some listed) (fill.Claim i w) found → Put i w found
      put_so i w low used zero free e = let claims : relisted ≡ listed ++ (i, w) ∷ [] = same_list_of e in record { words = put i w claims low free used; claims = claims }
        where
          same_list_of : Some relisted ≡ Some (listed ++ (i, w) ∷ []) → relisted ≡ listed ++ (i, w) ∷ []
          same_list_of e' = ap listed_of e'
      put_so i w low used (suc n) free e =
          let ne : (suc n == 0) ≡ false = differs (suc n) (λ z. omega (arith, z)) in
          record {
            words = kept (same_list e) ∙ sym (ap (λ b. if b then slice_set x.words i w else x.words) ne);
            claims = nothing_more (same_list e) ∙ sym (ap (λ (b : Bool). listed ++ (if b then (i, w) ∷ [] else [])) ne);
          }

      claims_so : (i w : ℕ) (next : ℕ → ThreadData) (said : Want) (new : ThreadData) → i < word_count → w ≢ 0 → HasClaimed h i w next said new → Comes (move.Claims i w next) said new
      claims_so i w next said new low used c =
          let was : ℕ = slice_index x.words i in
          let found : c.answer ≡ was = (c.claimed.only refl).0 in
          let done : Put i w was = put_so i w low used was refl (c.claims ∙ ap (claims_after (Some listed) (fill.Claim i w)) found) in
          let inside : i < length x.words = subst (λ n. i < n) (sym count) low in
          let within : nat_lt i (length x.words) ≡ true = grind (arith, nat_tests) in
          so (move.Claims i w next) said (answers.Did (noted.Claim i)) new (next was) c.says (c.state ∙ ap next found)
          (record {
            turn = Claimed i w was;
            moves = ap (λ b. if b then (if w == 0 then Ends (running.StuckAt u s) else claimed x u i w next was) else Ends (running.StuckAt u s)) within
                ∙ ap (λ b. if b then Ends (running.StuckAt u s) else claimed x u i w next was) (differs w used)
                ∙ ap (λ ws. Moves (moved_on x u (next was) (Claimed i w was) ws)) (sym done.words);
            noted = refl;
            claims = done.claims;
          })

      fill_comes : (f : FillData) (ready : IsReady im.cat (slice_index x.words) f) (n : FillNext) → next_of f ≡ n → (said : Want) (new : ThreadData) → IsMade im.cat h s (fills_next s f n) said new → Comes (fills_next s f n) said new
      fill_comes f ready (fill.Load i) e said new made = loaded (noted.Load i) i (λ answer. filled s (taken f answer)) said new made
      fill_comes f ready (fill.Claim i w) e said new made =
          let may : MayPut im.cat (slice_index x.words) i w = may-put im.cat (slice_index x.words) f ready i w e in
          claims_so i w (λ answer. filled s (taken f answer)) said new may.low may.used made
      fill_comes f ready (fill.Full r key) e said new made = full _ key said new made
      fill_comes f ready fill.Nothing e said new made = faults _ said new made

      by_doing : (d : Doing) → IsGoing im.cat (slice_index x.words) d → (said : Want) (new : ThreadData) → IsMade im.cat h s (move_of im s d) said new → Comes (move_of im s d) said new
      by_doing Runs going said new made = tame_comes im.cat said new (move_of im s Runs) (move_tame im s Runs tt) made
      by_doing Serves going said new made = tame_comes im.cat said new (move_of im s Serves) (move_tame im s Serves tt) made
      by_doing (Fills f) going said new made = fill_comes f going.1 (next_of f) refl said new made
      by_doing Interprets going said new made = tame_comes im.cat said new (move_of im s Interprets) (move_tame im s Interprets tt) made
      by_doing (Throws t) going said new made = tame_comes im.cat said new (move_of im s (Throws t)) (move_tame im s (Throws t) tt) made
      by_doing (Searches t) going said new made = tame_comes im.cat said new (move_of im s (Searches t)) (move_tame im s (Searches t) tt) made
      by_doing Refuses going said new made = tame_comes im.cat said new (move_of im s Refuses) (move_tame im s Refuses tt) made
      by_doing (Stops why) going said new made = tame_comes im.cat said new (move_of im s (Stops why)) (move_tame im s (Stops why) tt) made
      by_doing Finishes going said new made = tame_comes im.cat said new (move_of im s Finishes) (move_tame im s Finishes tt) made
      by_doing Ended going said new made = absurd going

      pub turn_comes : IsGoing im.cat (slice_index x.words) s.doing → (said : Want) (new : ThreadData) → IsMade im.cat h s (next_move im s) said new → Comes (next_move im s) said new
      turn_comes going said new made = by_doing s.doing going said new made

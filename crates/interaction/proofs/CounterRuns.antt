-- The laws of this crate at its example.
use Rattle.std.proofs.Common.{◌≡◌, ◌⊎◌, ℕ, ◌+◌, ◌<◌, List, [], length, Option, Some, None, refl, ap, ◌∙◌, subst, inl, inr, eq-eqb, lt-ltb}
use Rattle.std.specs.Prelude.{Bool, true, false, not, ◌&&◌, nat_lt, if◌then◌else◌, ◌==◌, slice_index}
use Rattle.interaction.specs.declared.history.Event.{Event}
use Rattle.interaction.specs.Process.{Larger}
use Rattle.interaction.specs.History.{Legal}
use Rattle.interaction.specs.Thread.{Turn, Makes, Turns, MayClaim, request_of}
use Rattle.interaction.specs.Thread as thread
use Rattle.interaction.specs.LooseRun.{LooseRun}
use Rattle.interaction.specs.Run.{run, turns_of, ends_in}
use Rattle.interaction.specs.RunLaws.{Grows}
use Rattle.interaction.specs.Endings.{IsBusy, LiveLaws, EndsSo}
use Rattle.interaction.specs.Sound.{Sound, Progresses, RunsWell}
use Rattle.interaction.specs.CounterObject.{Request, Reply, Counter, lives, reply_to, reply_by, after_by, is_halted, Stop, Halted, Add, Start, Finish, Sum, Begun, Done, Improper, counter, starts_at}
use Rattle.interaction.specs.CounterProcess.{leave_by, Frames, Beginning, Settling, naming_of, meaning, begin}
use Rattle.interaction.specs.CounterThread.{State, on_begun, on_added, on_done, AtBeginning, AtForking, AtSettling, Filling, Entering, AtAdding, AtLeaving, Ended, Broken, machine, want, gain, Fits, Known}
use Rattle.interaction.proofs.Talks.{legal_larger}
use Rattle.interaction.proofs.Starting.{BothStart, BothBegin, begin_both, begin_all}
use Rattle.interaction.proofs.NeverStuck.{live_begun, begun_low}
use Rattle.interaction.specs.Starts.{begin_of}
use Rattle.interaction.specs.Object.{replayed, is_active}
use Rattle.interaction.proofs.RunLoose.{run_is_loose}
use Rattle.interaction.proofs.SoundRuns.{kept_is_sound, kept_progresses, sound_runs_well}
use Rattle.interaction.proofs.CounterSafety.{language, laws, start, counter_begins, counter_never_stuck}
use Rattle.interaction.proofs.CounterWords.{Holds, run_laws}
use Rattle.interaction.proofs.LastWorlds.{run_ends_so}
use Rattle.interaction.proofs.CounterKeeps.{At, counter_goes_on, counter_together}

pub is_sound : Sound machine Fits Known naming_of meaning begin
is_sound = kept_is_sound machine Fits Known naming_of meaning begin gain At (counter_begins []) (λ w fits. counter_goes_on w fits) (λ w fits. counter_never_stuck w) (λ w fits. counter_together w)

pub progress : Progresses machine Fits Known naming_of meaning gain begin
progress = kept_progresses machine Fits Known naming_of meaning begin gain At (counter_begins []) (λ w fits. counter_goes_on w fits) (λ w fits. counter_never_stuck w) (λ w fits. counter_together w)

-- what stands stays, so the naming grows
larger : (w v : List ℕ) → Grows (slice_index w) (slice_index v) → Larger (naming_of w) (naming_of v)
larger w v g = record { values = λ m n e. by_value (slice_index w 0 == 0) refl n e; trees = λ i t e. by_tree (i == 1) (slice_index w 0 == 0) refl t e }
  where
    stands : (slice_index w 0 == 0) ≡ false → (slice_index v 0 ≡ slice_index w 0) × ((slice_index v 0 == 0) ≡ false)
    stands e =
        let same : slice_index v 0 ≡ slice_index w 0 = g 0 (λ z. cc (eq-eqb (slice_index w 0) 0 z, e)) in
        (same, ap (λ x. x == 0) same ∙ e)

    by_value : (b : Bool) → (slice_index w 0 == 0) ≡ b → (n : ℕ) → (if b then None else Some 1) ≡ Some n → (if slice_index v 0 == 0 then None else Some 1) ≡ Some n
    by_value true e n h = absurd (cc h)
    by_value false e n h = rw (stands e).1 h

    by_tree : (c b : Bool) → (slice_index w 0 == 0) ≡ b → (t : ℕ) → (if c then (if b then None else Some (slice_index w 0)) else None) ≡ Some t → (if c then (if slice_index v 0 == 0 then None else Some (slice_index v 0)) else None) ≡ Some t
    by_tree false b e t h = absurd (cc h)
    by_tree true true e t h = absurd (cc h)
    by_tree true false e t h = rw (stands e).1 (ap Some (stands e).0 ∙ h)

pub legal_later : (w v : List ℕ) (h : List (Event Request Reply)) → Grows (slice_index w) (slice_index v) → Legal counter (naming_of w) meaning begin h → Legal counter (naming_of v) meaning begin h
legal_later w v h g legal = legal_larger (larger w v g) legal

pub loose : (ks w : List ℕ) → Fits w → let y = (run machine ks w).world in LooseRun counter want machine.begin (slice_index y.words) (Known y.words) y.history (λ u. turns_of u y.turns) (ends_in machine Ended y)
loose ks w fits = run_is_loose machine Fits Holds Known run_laws Ended w ks fits

pub runs_well : (ks w : List ℕ) → Fits w → RunsWell machine Fits naming_of meaning begin (run machine ks w)
runs_well ks w fits = sound_runs_well machine Fits Known naming_of meaning begin Holds run_laws is_sound Ended ks w fits

-- who has not ended is busy
abbrev Busy : State → Type 0
Busy Ended = ⊥
Busy s = Unit {0}

busy_wants : (s : State) → Busy s → IsBusy (want s)
busy_wants AtBeginning b = tt
busy_wants AtForking b = tt
busy_wants AtSettling b = tt
busy_wants Filling b = tt
busy_wants Entering b = tt
busy_wants (AtAdding i) b = λ v. tt
busy_wants (AtLeaving n) b = tt
busy_wants Ended b = b
busy_wants Broken b = tt

busy_loaded : (b : Bool) (v : ℕ) → Busy (if b then Filling else AtAdding v)
busy_loaded true v = tt
busy_loaded false v = tt

busy_begun : (y : Reply) → Busy (on_begun y)
busy_begun (Sum n) = tt
busy_begun (Begun u) = tt
busy_begun Done = tt
busy_begun Halted = tt
busy_begun Improper = tt

busy_added : (y : Reply) → Busy (on_added y)
busy_added (Sum n) = tt
busy_added (Begun u) = tt
busy_added Done = tt
busy_added Halted = tt
busy_added Improper = tt

quiet_busy : (w : ℕ → ℕ) (s t : State) (turn : Turn Request Reply) → Makes w s (want s) turn t → request_of turn ≡ [] → Busy s → Busy t
quiet_busy w AtBeginning t turn thread.goes q b = tt
quiet_busy w AtForking t turn thread.asks q b = absurd (cc q)
quiet_busy w AtSettling t turn (thread.loads {v = v} h) q b = busy_loaded (v == 0) v
quiet_busy w Filling t turn (thread.claims h) q b = tt
quiet_busy w Entering t turn (thread.claims h) q b = tt
quiet_busy w (AtAdding i) t turn (thread.tries h) q b = tt
quiet_busy w (AtAdding i) t turn (thread.reads nz thread.asks) q b = absurd (cc q)
quiet_busy w (AtLeaving n) t turn thread.asks q b = absurd (cc q)
quiet_busy w Ended t turn h q b = absurd b
quiet_busy w Broken t turn h q b = elim h [ ]

-- a thread that leaves is not active after it
leave_ends : (x : Counter) (u n : ℕ) (d c b : Bool) → x.ended ≡ c → lives x u ≡ b → is_active counter (after_by c b x u (leave_by d n)) u ≡ false
leave_ends x u n d true b e l = rw e refl
leave_ends x u n d false false e l = rw (e, l) refl
leave_ends x u n true false true e l = refl
leave_ends x u n false false true e l = finished (x.ended) (nat_lt u x.threads) (u == u) (eq-eqb u u refl)
  where
    finished : (c a t : Bool) → t ≡ true → (not c && (a && not (if t then true else x.finished u))) ≡ false
    finished true a t e' = refl
    finished false false t e' = refl
    finished false true true e' = refl
    finished false true false e' = absurd (cc e')

left : (x : Counter) (u n : ℕ) (d : Bool) (y : Reply) → Busy (on_done y) ⊎ (is_active counter (counter.after x u (leave_by d n)) u ≡ false)
left x u n d (Sum k) = inl tt
left x u n d (Begun v) = inl tt
left x u n d Done = inr (leave_ends x u n d x.ended (lives x u) refl refl)
left x u n d Halted = inl tt
left x u n d Improper = inl tt

asked_busy : (w : ℕ → ℕ) (s t : State) (x : Counter) (u : ℕ) (r : Request) (y : Reply) → Makes w s (want s) (thread.Asked (record { request = r; reply = y })) t → Busy s → Busy t ⊎ (is_active counter (counter.after x u r) u ≡ false)
asked_busy w AtForking t x u r y thread.asks b = inl (busy_begun y)
asked_busy w (AtAdding i) t x u r y (thread.reads nz thread.asks) b = inl (busy_added y)
asked_busy w (AtLeaving n) t x u r y thread.asks b = left x u n (nat_lt 10 n) y
asked_busy w AtBeginning t x u r y h b = elim h [ ]
asked_busy w AtSettling t x u r y h b = elim h [ ]
asked_busy w Filling t x u r y h b = elim h [ ]
asked_busy w Entering t x u r y h b = elim h [ ]
asked_busy w Ended t x u r y h b = absurd b
asked_busy w Broken t x u r y h b = elim h [ ]

started_busy : (r : Request) (y : Reply) (b : ℕ × State) → starts_at AtSettling r y ≡ Some b → Busy b.1
started_busy (Add n) y b e = absurd (cc e)
started_busy Start (Sum n) b e = absurd (cc e)
started_busy Start (Begun u) b e = subst (λ q. Busy q.1) (let s : (u, AtSettling) ≡ b = cc e in s) tt
started_busy Start Done b e = absurd (cc e)
started_busy Start Halted b e = absurd (cc e)
started_busy Start Improper b e = absurd (cc e)
started_busy (Finish n) y b e = absurd (cc e)
started_busy Stop y b e = absurd (cc e)

-- the process and the thread begin at the same time
start_both : (r : Request) (y : Reply) → BothStart (λ f s. Unit {0}) (starts_at Settling r y) (starts_at AtSettling r y)
start_both (Add n) y = tt
start_both Start (Sum n) = tt
start_both Start (Begun u) = (refl, tt)
start_both Start Done = tt
start_both Start Halted = tt
start_both Start Improper = tt
start_both (Finish n) y = tt
start_both Stop y = tt

both_begun : (h : List (Event Request Reply)) (u : ℕ) → BothBegin (λ f s. Unit {0}) (begin_of Beginning (starts_at Settling) h u) (machine.begin h u)
both_begun h u = begin_both (λ f s. Unit {0}) Beginning AtBeginning (starts_at Settling) (starts_at AtSettling) tt start_both h u

to_state : (of : Option Frames) (os : Option State) → BothBegin (λ f s. Unit {0}) of os → (f : Frames) → of ≡ Some f → (s : State) × (os ≡ Some s)
to_state None os b f e = absurd (cc e)
to_state (Some g) None b f e = absurd b
to_state (Some g) (Some s) b f e = (s, refl)

to_frames : (of : Option Frames) (os : Option State) → BothBegin (λ f s. Unit {0}) of os → (s : State) → os ≡ Some s → (f : Frames) × (of ≡ Some f)
to_frames of None b s e = absurd (cc e)
to_frames None (Some t) b s e = absurd b
to_frames (Some g) (Some t) b s e = (g, refl)

-- a thread below the count that is not active stays so
stays_ended : (x : Counter) (u t : ℕ) (r : Request) → u < x.threads → is_active counter x u ≡ false → is_active counter (after_by x.ended (lives x t) x t r) u ≡ false
stays_ended x u t r lt e = by_live x.ended refl (lives x t) r
  where
    done : x.ended ≡ false → x.finished u ≡ true
    done open_ = by_test (x.finished u) (subst (λ a. (not a && (nat_lt u x.threads && not (x.finished u))) ≡ false) open_ e)
      where
        by_test : (b : Bool) → (nat_lt u x.threads && not b) ≡ false → b ≡ true
        by_test true h = refl
        by_test false h = let k : nat_lt u x.threads ≡ true = lt-ltb u x.threads lt in absurd (cc (subst (λ a. (a && true) ≡ false) k h))

    none : (c a b : Bool) → b ≡ true → (not c && (a && not b)) ≡ false
    none true a b h = refl
    none false false b h = refl
    none false true true h = refl
    none false true false h = absurd (cc h)

    also : (b c : Bool) → c ≡ true → (if b then true else c) ≡ true
    also true c h = refl
    also false c h = h

    by_live : (c : Bool) → x.ended ≡ c → (b : Bool) (r : Request) → is_active counter (after_by c b x t r) u ≡ false
    by_live true z b r = e
    by_live false z false r = e
    by_live false z true (Add n) = e
    by_live false z true Start = none x.ended (nat_lt u (x.threads + 1)) (x.finished u) (done z)
    by_live false z true (Finish n) = none x.ended (nat_lt u x.threads) (if u == t then true else x.finished u) (also (u == t) (x.finished u) (done z))
    by_live false z true Stop = refl

-- an active thread lives, and is not answered as halted
active_lives : (x : Counter) (u : ℕ) → is_active counter x u ≡ true → (x.ended ≡ false) × (lives x u ≡ true)
active_lives x u e = by_test x.ended (lives x u) e
  where
    by_test : (c b : Bool) → (not c && b) ≡ true → (c ≡ false) × (b ≡ true)
    by_test true b h = absurd (cc h)
    by_test false true h = (refl, refl)
    by_test false false h = absurd (cc h)

not_halted : (x : Counter) (r : Request) → is_halted (reply_to x r) ≡ false
not_halted x (Add n) = refl
not_halted x Start = refl
not_halted x (Finish n) = refl
not_halted x Stop = refl

answered : (x : Counter) (u : ℕ) (r : Request) → is_active counter x u ≡ true → is_halted (reply_by x.ended (lives x u) x r) ≡ false
answered x u r e = let a = active_lives x u e in rw (a.0, a.1) (not_halted x r)

live_laws : LiveLaws machine Busy
live_laws = record {
  wants = busy_wants;
  answered = answered;
  live_begun = λ h u replays l. let f = live_begun (language []) (laws []) Beginning (start []) h u replays (active_lives (replayed counter counter.first h) u l).1 in to_state (begin_of Beginning (starts_at Settling) h u) (machine.begin h u) (both_begun h u) f.0 f.1;
  begin_busy = λ h u s e. begin_all Busy AtBeginning (starts_at AtSettling) tt started_busy h u s e;
  quiet_busy = λ w s t turn b made q. quiet_busy w s t turn made q b;
  asked_busy = λ w s t x u r y b made a. asked_busy w s t x u r y made b;
  ended_stays = λ h u t r y s replays begun a d. let f = to_frames (begin_of Beginning (starts_at Settling) h u) (machine.begin h u) (both_begun h u) s begun in stays_ended (replayed counter counter.first h) u t r (begun_low (language []) (laws []) Beginning (start []) h u f.0 replays f.1) d;
}

pub ends_so : (ks w : List ℕ) → Fits w → EndsSo machine (length ks) (run machine ks w).world (run machine ks w).ending
ends_so ks w fits = run_ends_so machine Fits Holds Known run_laws Busy live_laws ks w fits

-- How a run ends: what each ending says of the thread that was chosen.
use Rattle.std.proofs.Common.{◌≡◌, ◌≢◌, ℕ, suc, List, [], ◌∷◌, length, Option, Some, None, refl, ap, ◌∙◌, subst, eqb-true, eq-eqb, lt-ltb}
use Rattle.std.specs.Prelude.{Bool, true, false, slice_index, if◌then◌else◌, ◌==◌, nat_lt}
use Rattle.interaction.specs.declared.turn.What.TheVariants as noted
use Rattle.interaction.specs.Thread.{Want, Loaded}
use Rattle.interaction.specs.Thread as thread
use Rattle.interaction.specs.Object.{is_active, live_threads}
use Rattle.interaction.specs.LooseRun.{IsStuck}
use Rattle.interaction.specs.Run.{Machine, World, Ending, Done, StuckAt, FullAt, Idle, Step, Moves, Ends, chosen, state_of, moved_on, spoken, claimed, turned, thread_turn, chosen_turn, onward, used_up, run_from}
use Rattle.interaction.specs.RunLaws.{ClaimsRight}
use Rattle.interaction.specs.Endings.{IsFull, IsBusy}
use Rattle.interaction.proofs.Turned.{Moved, turned_moved}
use Rattle.interaction.proofs.Choosing.{chosen_lives}

module _ {R Y S X : Type 0} (m : Machine R Y S X) where
  -- why thread u, in the state `s` that wants this, makes no turn
  pub data HowEnds (x : World R Y S X) (u : ℕ) (s : S) (y : Want R Y S) : Ending S → Type 0 where
    as_stuck : IsStuck m.object x.store (slice_index x.words) u y → HowEnds x u s y (StuckAt u s)
    as_full : IsFull (slice_index x.words) y → HowEnds x u s y (FullAt u s)
    as_over : (IsBusy y → ⊥) → HowEnds x u s y (Idle u)
    as_halted : (r : R) → m.object.is_halted (m.object.reply x.store u r) ≡ true → HowEnds x u s y (Idle u)

  ends_as : (x : World R Y S X) (u : ℕ) (s : S) (y : Want R Y S) (a b : Ending S) → ◌≡◌ {A = Step R Y S X} (Ends a) (Ends b) → HowEnds x u s y a → HowEnds x u s y b
  ends_as x u s y a b e h = subst (HowEnds x u s y) (cc e) h

  ask_ends : (x : World R Y S X) (u : ℕ) (s : S) (r : R) (k : Y → S) (e : Ending S) (b : Bool) → m.object.is_improper (m.object.reply x.store u r) ≡ b → (c : Bool) → m.object.is_halted (m.object.reply x.store u r) ≡ c → ◌≡◌ {A = Step R Y S X} (if b then Ends (StuckAt u s) else if c then Ends (Idle u) else Moves (spoken m x u (k (m.object.reply x.store u r)) r (m.object.reply x.store u r))) (Ends e) → HowEnds x u s (thread.Ask r k) e
  ask_ends x u s r k e true is c is' h = ends_as x u s (thread.Ask r k) (StuckAt u s) e h (as_stuck is)
  ask_ends x u s r k e false is true is' h = ends_as x u s (thread.Ask r k) (Idle u) e h (as_halted r is')
  ask_ends x u s r k e false is false is' h = absurd (cc h)

  read_ends : (x : World R Y S X) (u : ℕ) (s : S) (i : ℕ) (k : ℕ → Want R Y S) (e : Ending S) → slice_index x.words i ≢ 0 → HowEnds x u s (k (slice_index x.words i)) e → HowEnds x u s (thread.Read i k) e
  read_ends x u s i k _ nz (as_stuck h) = as_stuck (nz, h)
  read_ends x u s i k _ nz (as_full h) = as_full (nz, h)
  read_ends x u s i k _ nz (as_over h) = as_over (λ b. h (b (slice_index x.words i)))
  read_ends x u s i k _ nz (as_halted r h) = as_halted r h

  -- a thread that makes no turn is stuck, full, over or answered as halted
  pub how_ends : (x : World R Y S X) (u : ℕ) (s : S) (y : Want R Y S) (e : Ending S) → ClaimsRight x.words y → turned m x u s y ≡ Ends e → HowEnds x u s y e
  how_ends x u s (thread.Go a q) e right h = absurd (cc h)
  how_ends x u s (thread.Load a i k) e right h = absurd (cc h)
  how_ends x u s (thread.Read i k) e right h = by_word (slice_index x.words i == 0) refl h (λ nz. how_ends x u s (k (slice_index x.words i)) e (right nz))
    where
      by_word : (b : Bool) → (slice_index x.words i == 0) ≡ b → (if b then Moves (moved_on x u s (Loaded (noted.Load i) i 0) x.words) else turned m x u s (k (slice_index x.words i))) ≡ Ends e → (slice_index x.words i ≢ 0 → turned m x u s (k (slice_index x.words i)) ≡ Ends e → HowEnds x u s (k (slice_index x.words i)) e) → HowEnds x u s (thread.Read i k) e
      by_word true z h' go = absurd (cc h')
      by_word false z h' go = let nz : slice_index x.words i ≢ 0 = λ q. cc (eq-eqb (slice_index x.words i) 0 q, z) in read_ends x u s i k e nz (go nz h')
  how_ends x u s (thread.Claim i put k) e right h = by_range (nat_lt i (length x.words)) refl (put == 0) refl h
    where
      by_range : (b : Bool) → nat_lt i (length x.words) ≡ b → (c : Bool) → (put == 0) ≡ c → (if b then (if c then Ends (StuckAt u s) else claimed x u i put k (slice_index x.words i)) else Ends (StuckAt u s)) ≡ Ends e → HowEnds x u s (thread.Claim i put k) e
      by_range true z true z' h' = absurd (right.1 (eqb-true put 0 z'))
      by_range true z false z' h' = absurd (cc h')
      by_range false z c z' h' = absurd (cc (lt-ltb i (length x.words) right.0, z))
  how_ends x u s (thread.Ask r k) e right h = ask_ends x u s r k e (m.object.is_improper (m.object.reply x.store u r)) refl (m.object.is_halted (m.object.reply x.store u r)) refl h
  how_ends x u s thread.Full e right h = ends_as x u s thread.Full (FullAt u s) e h (as_full tt)
  how_ends x u s thread.Fault e right h = ends_as x u s thread.Fault (StuckAt u s) e h (as_stuck tt)
  how_ends x u s thread.Over e right h = ends_as x u s thread.Over (Idle u) e h (as_over (λ b. b))

  -- What holds before a run, by the count of numbers that are left, and is kept by each turn of an active thread, holds at
  -- its end: either the schedule is used up, or its next number led to the end.
  pub run_ends : (P : ℕ → World R Y S X → Type 0) (Q : World R Y S X → Ending S → Type 0) → ((n : ℕ) (x : World R Y S X) (u : ℕ) (s : S) (x' : World R Y S X) → is_active m.object x.store u ≡ true → state_of m x u ≡ Some s → Moved m x u s (m.want s) x' → P (suc n) x → P n x') → ((x : World R Y S X) → P 0 x → Q x (used_up (live_threads m.object x.store))) → ((n : ℕ) (x : World R Y S X) (k : ℕ) (e : Ending S) → P (suc n) x → chosen_turn m x (chosen (live_threads m.object x.store) k) ≡ Ends e → Q x e) → (ks : List ℕ) (x : World R Y S X) → P (length ks) x → Q (run_from m ks x).world (run_from m ks x).ending
  run_ends P Q step used ended [] x h = used x h
  run_ends P Q step used ended (k ∷ ks) x h = by_choice (chosen (live_threads m.object x.store) k) refl (run_ends P Q step used ended ks)
    where
      end_now : (o : Option ℕ) → chosen (live_threads m.object x.store) k ≡ o → (e : Ending S) → chosen_turn m x o ≡ Ends e → Q x e
      end_now o is e h' = ended (length ks) x k e h (ap (chosen_turn m x) is ∙ h')

      by_step : (o : Step R Y S X) → ((y : World R Y S X) → o ≡ Moves y → P (length ks) y) → ((e : Ending S) → o ≡ Ends e → Q x e) → ((y : World R Y S X) → P (length ks) y → Q (run_from m ks y).world (run_from m ks y).ending) → Q (onward x o (run_from m ks)).world (onward x o (run_from m ks)).ending
      by_step (Moves y) p q go = go y (p y refl)
      by_step (Ends e) p q go = q e refl

      by_state : (u : ℕ) → chosen (live_threads m.object x.store) k ≡ Some u → (o : Option S) → state_of m x u ≡ o → ((y : World R Y S X) → P (length ks) y → Q (run_from m ks y).world (run_from m ks y).ending) → Q (onward x (thread_turn m x u o) (run_from m ks)).world (onward x (thread_turn m x u o) (run_from m ks)).ending
      by_state u is None e go = end_now (Some u) is (Idle u) (ap (thread_turn m x u) e)
      by_state u is (Some s) e go = by_step (turned m x u s (m.want s)) (λ y t. step (length ks) x u s y (chosen_lives m.object x.store k u is) e (turned_moved m x u s (m.want s) y t) h) (λ e' t. end_now (Some u) is e' (ap (thread_turn m x u) e ∙ t)) go

      by_choice : (o : Option ℕ) → chosen (live_threads m.object x.store) k ≡ o → ((y : World R Y S X) → P (length ks) y → Q (run_from m ks y).world (run_from m ks y).ending) → Q (onward x (chosen_turn m x o) (run_from m ks)).world (onward x (chosen_turn m x o) (run_from m ks)).ending
      by_choice None is go = end_now None is Done refl
      by_choice (Some u) is go = by_state u is (state_of m x u) refl go

  -- a world whose next turn ends as stuck
  pub record EndsStuck (x : World R Y S X) (u : ℕ) (s : S) : Type 0 where
    pub state : state_of m x u ≡ Some s
    pub stuck : IsStuck m.object x.store (slice_index x.words) u (m.want s)

  as_stuck_here : (x : World R Y S X) (v : ℕ) (t : S) (u : ℕ) (s : S) → state_of m x v ≡ Some t → HowEnds x v t (m.want t) (StuckAt u s) → EndsStuck x u s
  as_stuck_here x v t _ _ is (as_stuck h) = record { state = is; stuck = h }

  pub chosen_stuck : (x : World R Y S X) → ((u : ℕ) (s : S) → state_of m x u ≡ Some s → ClaimsRight x.words (m.want s)) → (o : Option ℕ) (u : ℕ) (s : S) → chosen_turn m x o ≡ Ends (StuckAt u s) → EndsStuck x u s
  chosen_stuck x right None u s e = absurd (cc e)
  chosen_stuck x right (Some v) u s e = by_state (state_of m x v) refl e
    where
      by_state : (q : Option S) → state_of m x v ≡ q → thread_turn m x v q ≡ Ends (StuckAt u s) → EndsStuck x u s
      by_state None is e' = absurd (cc e')
      by_state (Some t) is e' = as_stuck_here x v t u s is (how_ends x v t (m.want t) (StuckAt u s) (right v t is) e')

  pub used_not_stuck : (ts : List ℕ) (u : ℕ) (s : S) → used_up ts ≡ StuckAt u s → ⊥
  used_not_stuck [] u s e = cc e
  used_not_stuck (t ∷ ts) u s e = cc e

-- One number more of a schedule: what the run comes to, and where the threads stand then. For any machine.
use Rattle.std.proofs.Common.{◌≡◌, ◌∙◌, ℕ, List, [], ◌∷◌, ◌++◌, Option, Some, None, refl, ap}
use Rattle.std.specs.Prelude.{Bool, true, false, if◌then◌else◌, ◌==◌}
use Rattle.interaction.specs.Thread.{Turn}
use Rattle.interaction.specs.Object.{live_threads}
use Rattle.interaction.specs.Run.{Machine, World, Ending, Done, Step, Moves, Ends, StuckAt, Idle, chosen, first_of, state_of, moved_on, spoken, asked, turned, thread_turn, chosen_turn, onward, run_from}

module _ {R Y S X : Type 0} (m : Machine R Y S X) (k : ℕ) (ks : List ℕ) (x : World R Y S X) where
  -- nobody lives
  pub none_step : chosen (live_threads m.object x.store) k ≡ None → run_from m (k ∷ ks) x ≡ record { world = x; ending = Done }
  none_step e = ap (λ o. onward x (chosen_turn m x o) (run_from m ks)) e

  module _ (u : ℕ) (s : S) (choice : chosen (live_threads m.object x.store) k ≡ Some u) (state : state_of m x u ≡ Some s) where
    at_turn : run_from m (k ∷ ks) x ≡ onward x (turned m x u s (m.want s)) (run_from m ks)
    at_turn = ap (λ o. onward x (chosen_turn m x o) (run_from m ks)) choice ∙ ap (λ o. onward x (thread_turn m x u o) (run_from m ks)) state

    stepped : (step : Step R Y S X) → turned m x u s (m.want s) ≡ step → run_from m (k ∷ ks) x ≡ onward x step (run_from m ks)
    stepped step e = at_turn ∙ ap (λ v. onward x v (run_from m ks)) e

    -- a turn
    pub moves_step : (y : World R Y S X) → turned m x u s (m.want s) ≡ Moves y → run_from m (k ∷ ks) x ≡ run_from m ks y
    moves_step y e = stepped (Moves y) e

    -- no turn
    pub ends_step : (end : Ending S) → turned m x u s (m.want s) ≡ Ends end → run_from m (k ∷ ks) x ≡ record { world = x; ending = end }
    ends_step end e = stepped (Ends end) e

module _ {R Y S X : Type 0} (m : Machine R Y S X) (x : World R Y S X) (u : ℕ) (s : S) (r : R) (g : Y → S) (y : Y) (improper halted : Bool) (is_improper : m.object.is_improper y ≡ improper) (is_halted : m.object.is_halted y ≡ halted) where
  -- a request, by what its reply refuses
  pub asked_by : asked m x u s r g y ≡ (if improper then Ends (StuckAt u s) else if halted then Ends (Idle u) else Moves (spoken m x u (g y) r y))
  asked_by =
      ap (λ b. if b then Ends (StuckAt u s) else if m.object.is_halted y then Ends (Idle u) else Moves (spoken m x u (g y) r y)) is_improper
      ∙ ap (λ b. if improper then Ends (StuckAt u s) else if b then Ends (Idle u) else Moves (spoken m x u (g y) r y)) is_halted

module _ {R Y S X : Type 0} (m : Machine R Y S X) (x : World R Y S X) (u v : ℕ) (t : S) where
  by_mover : (b : Bool) (o : Option S) → first_of (if b then Some t else x.moved v) o ≡ (if b then Some t else first_of (x.moved v) o)
  by_mover true o = refl
  by_mover false o = refl

  -- where thread v stands after a turn of thread u
  pub quiet_state : (turn : Turn R Y) (w : List ℕ) → state_of m (moved_on x u t turn w) v ≡ (if v == u then Some t else state_of m x v)
  quiet_state turn w = by_mover (v == u) (m.begin x.history v)

  pub spoken_state : (r : R) (y : Y) → state_of m (spoken m x u t r y) v ≡ (if v == u then Some t else first_of (x.moved v) (m.begin (x.history ++ record { thread = u; request = r; reply = y } ∷ []) v))
  spoken_state r y = by_mover (v == u) (m.begin (x.history ++ record { thread = u; request = r; reply = y } ∷ []) v)

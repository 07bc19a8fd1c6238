-- One number more of a schedule: what the run comes to, and where the threads stand then. For any machine.
use Rattle.std.proofs.Common.{◌≡◌, ◌∙◌, ℕ, List, [], ◌∷◌, ◌++◌, Option, Some, None, refl, ap}
use Rattle.std.specs.Prelude.{Bool, true, false, if◌then◌else◌, ◌==◌}
use Rattle.interaction.specs.declared.turn.What.{What}
use Rattle.interaction.specs.Thread.{Want, Turn, Did, Go, Ask, Fault, Over}
use Rattle.interaction.specs.Object.{live_threads}
use Rattle.interaction.specs.Run.{Machine, World, Moves, Ends, Done, StuckAt, Idle, chosen, first_of, state_of, moved_on, spoken, asked, turned, thread_turn, chosen_turn, onward, run_from}

module _ {R Y S X : Type 0} (m : Machine R Y S X) (k : ℕ) (ks : List ℕ) (x : World R Y S X) where
  -- nobody lives
  pub none_step : chosen (live_threads m.object x.store) k ≡ None → run_from m (k ∷ ks) x ≡ record { world = x; ending = Done }
  none_step e = ap (λ o. onward x (chosen_turn m x o) (run_from m ks)) e

  module _ (u : ℕ) (s : S) (choice : chosen (live_threads m.object x.store) k ≡ Some u) (state : state_of m x u ≡ Some s) where
    at_turn : run_from m (k ∷ ks) x ≡ onward x (turned m x u s (m.want s)) (run_from m ks)
    at_turn = ap (λ o. onward x (chosen_turn m x o) (run_from m ks)) choice ∙ ap (λ o. onward x (thread_turn m x u o) (run_from m ks)) state

    wanting : (w : Want R Y S) → m.want s ≡ w → run_from m (k ∷ ks) x ≡ onward x (turned m x u s w) (run_from m ks)
    wanting w e = at_turn ∙ ap (λ v. onward x (turned m x u s v) (run_from m ks)) e

    pub quiet_step : (a : What) (t : S) → m.want s ≡ Go a t → run_from m (k ∷ ks) x ≡ run_from m ks (moved_on x u t (Did a) x.words)
    quiet_step a t e = wanting (Go a t) e

    pub fault_step : m.want s ≡ Fault → run_from m (k ∷ ks) x ≡ record { world = x; ending = StuckAt u s }
    fault_step e = wanting Fault e

    pub over_step : m.want s ≡ Over → run_from m (k ∷ ks) x ≡ record { world = x; ending = Idle u }
    over_step e = wanting Over e

    asking : (r : R) (g : Y → S) (y : Y) → m.want s ≡ Ask r g → m.object.reply x.store u r ≡ y → run_from m (k ∷ ks) x ≡ onward x (asked m x u s r g y) (run_from m ks)
    asking r g y e f = wanting (Ask r g) e ∙ ap (λ z. onward x (asked m x u s r g z) (run_from m ks)) f

    pub spoken_step : (r : R) (g : Y → S) (y : Y) → m.want s ≡ Ask r g → m.object.reply x.store u r ≡ y → m.object.is_improper y ≡ false → m.object.is_halted y ≡ false →
        run_from m (k ∷ ks) x ≡ run_from m ks (spoken m x u (g y) r y)
    spoken_step r g y e f proper goes =
        asking r g y e f
        ∙ ap (λ b. onward x (if b then Ends (StuckAt u s) else (if m.object.is_halted y then Ends (Idle u) else Moves (spoken m x u (g y) r y))) (run_from m ks)) proper
        ∙ ap (λ b. onward x (if b then Ends (Idle u) else Moves (spoken m x u (g y) r y)) (run_from m ks)) goes

    pub improper_step : (r : R) (g : Y → S) (y : Y) → m.want s ≡ Ask r g → m.object.reply x.store u r ≡ y → m.object.is_improper y ≡ true →
        run_from m (k ∷ ks) x ≡ record { world = x; ending = StuckAt u s }
    improper_step r g y e f bad =
        asking r g y e f
        ∙ ap (λ b. onward x (if b then Ends (StuckAt u s) else (if m.object.is_halted y then Ends (Idle u) else Moves (spoken m x u (g y) r y))) (run_from m ks)) bad

    pub halted_step : (r : R) (g : Y → S) (y : Y) → m.want s ≡ Ask r g → m.object.reply x.store u r ≡ y → m.object.is_improper y ≡ false → m.object.is_halted y ≡ true →
        run_from m (k ∷ ks) x ≡ record { world = x; ending = Idle u }
    halted_step r g y e f proper ended =
        asking r g y e f
        ∙ ap (λ b. onward x (if b then Ends (StuckAt u s) else (if m.object.is_halted y then Ends (Idle u) else Moves (spoken m x u (g y) r y))) (run_from m ks)) proper
        ∙ ap (λ b. onward x (if b then Ends (Idle u) else Moves (spoken m x u (g y) r y)) (run_from m ks)) ended

module _ {R Y S X : Type 0} (m : Machine R Y S X) (x : World R Y S X) (u v : ℕ) (t : S) where
  by_mover : (b : Bool) (o : Option S) → first_of (if b then Some t else x.moved v) o ≡ (if b then Some t else first_of (x.moved v) o)
  by_mover true o = refl
  by_mover false o = refl

  -- where thread v stands after a turn of thread u
  pub quiet_state : (turn : Turn R Y) (w : List ℕ) → state_of m (moved_on x u t turn w) v ≡ (if v == u then Some t else state_of m x v)
  quiet_state turn w = by_mover (v == u) (m.begin x.history v)

  pub spoken_state : (r : R) (y : Y) → state_of m (spoken m x u t r y) v ≡ (if v == u then Some t else first_of (x.moved v) (m.begin (x.history ++ record { thread = u; request = r; reply = y } ∷ []) v))
  spoken_state r y = by_mover (v == u) (m.begin (x.history ++ record { thread = u; request = r; reply = y } ∷ []) v)

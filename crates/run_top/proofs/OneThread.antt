-- With one thread the choice makes no difference: each turn of the run is that of thread 0.
use Rattle.std.proofs.Common.{◌≡◌, ℕ, ◌%◌, List, [], ◌∷◌, ◌++◌, Bool, true, false, not, Option, Some, refl, ap, ◌∙◌, arith}
use Rattle.std.specs.Prelude.{slice_get}
use Rattle.interaction.specs.declared.history.Event.{Event}
use Rattle.interaction.specs.declared.turn.What.{What}
use Rattle.interaction.specs.Thread.{Go, Ask, Fault, Over, Turn, Did, Asked}
use Rattle.interaction.specs.Run.{Machine, Taken, World, Outcome, Done as AllDone, TurnsUsed, StuckAt, Idle, chosen, first_of, with_value, chosen_turn, thread_turn, turned, onward, run_from}
use Rattle.store_object.specs.declared.request.Request.{Request}
use Rattle.store_object.specs.declared.reply.Reply.{Reply}
use Rattle.store_object.specs.declared.reply.Reply.TheVariants.{Done}
use Rattle.store_object.specs.Store.{Store, opening}
use Rattle.run_top.specs.Executed.{IsFirst, prints, leaves}
use Rattle.run_top.specs.Machine.{Thread, want, start, stays_live}
use Rattle.run_top.specs.Run.{machine_of}

-- the store of thread 0 alone
abbrev pub store_of : Bool → Store
store_of live = record opening { finished = not live ∷ [] }

abbrev pub Moves : Type 0
Moves = ℕ → Option Thread

-- a world of thread 0 alone
abbrev pub lone : Moves → Bool → List (Event Request Reply) → List (Taken Request Reply) → World Request Reply Thread Store
lone moved live history turns = record { moved = moved; words = []; store = store_of live; history = history; turns = turns }

abbrev pub taken : Turn Request Reply → Taken Request Reply
taken turn = record { thread = 0; turn = turn }

abbrev pub event : Request → Event Request Reply
event request = record { thread = 0; request = request; reply = Done }

one : (k : ℕ) → chosen (0 ∷ []) k ≡ Some 0
one k = let z : k % 1 ≡ 0 = omega arith in ap (slice_get (0 ∷ [])) z

module _ (image : List ℕ) (words : ℕ) where
  abbrev m : Machine Request Reply Thread Store
  m = machine_of image words

  -- thread 0 is in this state
  abbrev pub IsNow : Moves → Thread → Type 0
  IsNow moved t = first_of (moved 0) (Some (start words)) ≡ Some t

  abbrev pub from : List ℕ → World Request Reply Thread Store → Outcome Request Reply Thread Store
  from ks x = run_from m ks x

  module _ (moved : Moves) (history : List (Event Request Reply)) (turns : List (Taken Request Reply)) (k : ℕ) (ks : List ℕ) (t : Thread) (now : IsNow moved t) where
    its_turn : from (k ∷ ks) (lone moved true history turns) ≡ onward (lone moved true history turns) (turned m (lone moved true history turns) 0 t (want image t)) (run_from m ks)
    its_turn =
        let x = lone moved true history turns in
        ap (λ o. onward x (chosen_turn m x o) (run_from m ks)) (one k) ∙ ap (λ s. onward x (thread_turn m x 0 s) (run_from m ks)) now

    pub did : (what : What) (next : Thread) → want image t ≡ Go what next → from (k ∷ ks) (lone moved true history turns) ≡ from ks (lone (with_value moved 0 (Some next)) true history (turns ++ taken (Did what) ∷ []))
    did what next is =
        let x = lone moved true history turns in
        its_turn ∙ ap (λ w. onward x (turned m x 0 t w) (run_from m ks)) is

    asked_as : (request : Request) (next : Reply → Thread) → IsFirst request → onward (lone moved true history turns) (turned m (lone moved true history turns) 0 t (Ask request next)) (run_from m ks) ≡ from ks (lone (with_value moved 0 (Some (next Done))) (stays_live request) (history ++ event request ∷ []) (turns ++ taken (Asked (record { request = request; reply = Done })) ∷ []))
    asked_as _ next (prints word) = refl
    asked_as _ next leaves = refl

    pub asked : (request : Request) (next : Reply → Thread) → IsFirst request → want image t ≡ Ask request next → from (k ∷ ks) (lone moved true history turns) ≡ from ks (lone (with_value moved 0 (Some (next Done))) (stays_live request) (history ++ event request ∷ []) (turns ++ taken (Asked (record { request = request; reply = Done })) ∷ []))
    asked request next first is =
        let x = lone moved true history turns in
        its_turn ∙ ap (λ w. onward x (turned m x 0 t w) (run_from m ks)) is ∙ asked_as request next first

    pub faulted : want image t ≡ Fault → from (k ∷ ks) (lone moved true history turns) ≡ record { world = lone moved true history turns; ending = StuckAt 0 t }
    faulted is =
        let x = lone moved true history turns in
        its_turn ∙ ap (λ w. onward x (turned m x 0 t w) (run_from m ks)) is

    pub idled : want image t ≡ Over → from (k ∷ ks) (lone moved true history turns) ≡ record { world = lone moved true history turns; ending = Idle 0 }
    idled is =
        let x = lone moved true history turns in
        its_turn ∙ ap (λ w. onward x (turned m x 0 t w) (run_from m ks)) is

  -- no thread lives
  pub over : (moved : Moves) (history : List (Event Request Reply)) (turns : List (Taken Request Reply)) (ks : List ℕ) → from ks (lone moved false history turns) ≡ record { world = lone moved false history turns; ending = AllDone }
  over moved history turns [] = refl
  over moved history turns (k ∷ ks) = refl

  -- the schedule is used up
  pub used : (moved : Moves) (history : List (Event Request Reply)) (turns : List (Taken Request Reply)) → from [] (lone moved true history turns) ≡ record { world = lone moved true history turns; ending = TurnsUsed }
  used moved history turns = refl

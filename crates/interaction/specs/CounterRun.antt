-- One run of the example, turn by turn: both threads fill the same words, and each adds once.
use Rattle.std.specs.Prelude.{◌≡◌, ℕ, List, [], ◌∷◌, length}
use Rattle.interaction.specs.Run.{Outcome, Done, turns_of, claims_in}
use Rattle.interaction.specs.Thread.{Loaded, Claimed, Asked}
use Rattle.interaction.specs.declared.turn.What.TheVariants.{Load as LoadNote}
use Rattle.interaction.specs.CounterObject.{Request, Reply, Counter, Add, Start, Stop, Sum, Begun}
use Rattle.interaction.specs.CounterObject as object
use Rattle.interaction.specs.CounterThread.{State}

-- the numbers that choose: thread 0 alone at first, then one of two, and nobody at the end
abbrev pub schedule : List ℕ
schedule = 0 ∷ 0 ∷ 0 ∷ 1 ∷ 0 ∷ 1 ∷ 0 ∷ 1 ∷ 7 ∷ 4 ∷ 0 ∷ 3 ∷ []

-- thread 1 finds the words that thread 0 put, and adds first; thread 0 is told 14, and stops both
pub record IsAdded (run : Outcome Request Reply State Counter) : Type 0 where
  pub ending : run.ending ≡ Done
  pub words : run.world.words ≡ 7 ∷ 1 ∷ []
  pub claims : claims_in run.world.turns ≡ (0, 7) ∷ (1, 1) ∷ []
  pub turns : length run.world.turns ≡ 11
  pub second : turns_of 1 run.world.turns ≡ Loaded (LoadNote 1) 1 0 ∷ Claimed 0 7 7 ∷ Claimed 1 1 1 ∷ Asked (record { request = Add 7; reply = Sum 7 }) ∷ []
  pub history : run.world.history ≡ record { thread = 0; request = Start; reply = Begun 1 } ∷ record { thread = 1; request = Add 7; reply = Sum 7 } ∷ record { thread = 0; request = Add 7; reply = Sum 14 } ∷ record { thread = 0; request = Stop; reply = object.Done } ∷ []

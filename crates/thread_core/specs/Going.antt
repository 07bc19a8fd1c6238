-- What is asked of a state so that it can make its next turn. This project's own.
use Rattle.std.specs.Prelude.{ℕ, Bool, true, false}
use Rattle.rgctx_template.specs.Catalogue.{CatData}
use Rattle.rgctx_fill.specs.declared.doing.Doing.{Doing}
use Rattle.rgctx_fill.specs.declared.doing.Doing.TheVariants.{Runs, Serves, Fills, Interprets, Throws, Searches, Refuses, Stops, Finishes, Ended}
use Rattle.rgctx_fill.specs.Ready.{IsOn, IsReady}

-- The thread has not ended. A fill is ready, and has not answered.
abbrev pub IsGoing : CatData → (ℕ → ℕ) → Doing → Type 0
IsGoing cat held Runs = Unit {0}
IsGoing cat held Serves = Unit {0}
IsGoing cat held (Fills f) = IsOn f.stage × IsReady cat held f
IsGoing cat held Interprets = Unit {0}
IsGoing cat held (Throws x) = Unit {0}
IsGoing cat held (Searches x) = Unit {0}
IsGoing cat held Refuses = Unit {0}
IsGoing cat held (Stops why) = Unit {0}
IsGoing cat held Finishes = Unit {0}
IsGoing cat held Ended = ⊥

-- whether the thread has ended
abbrev pub has_ended : Doing → Bool
has_ended Runs = false
has_ended Serves = false
has_ended (Fills f) = false
has_ended Interprets = false
has_ended (Throws x) = false
has_ended (Searches x) = false
has_ended Refuses = false
has_ended (Stops why) = false
has_ended Finishes = false
has_ended Ended = true

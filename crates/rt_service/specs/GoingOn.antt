-- Whether a fill is under way, and whether a thread goes on. This project's own.
use Rattle.rgctx_fill.specs.declared.doing.Doing.{Doing}
use Rattle.rgctx_fill.specs.declared.doing.Doing.TheVariants.{Runs, Serves, Fills, Interprets, Throws, Searches, Refuses, Stops, Finishes, Ended}

-- no fill is under way
abbrev pub HasNoFill : Doing → Type 0
HasNoFill Runs = Unit {0}
HasNoFill Serves = Unit {0}
HasNoFill (Fills f) = ⊥
HasNoFill Interprets = Unit {0}
HasNoFill (Throws x) = Unit {0}
HasNoFill (Searches x) = Unit {0}
HasNoFill Refuses = Unit {0}
HasNoFill (Stops why) = Unit {0}
HasNoFill Finishes = Unit {0}
HasNoFill Ended = Unit {0}

-- no fill is under way, and the thread has not ended
abbrev pub IsOnward : Doing → Type 0
IsOnward Runs = Unit {0}
IsOnward Serves = Unit {0}
IsOnward (Fills f) = ⊥
IsOnward Interprets = Unit {0}
IsOnward (Throws x) = Unit {0}
IsOnward (Searches x) = Unit {0}
IsOnward Refuses = Unit {0}
IsOnward (Stops why) = Unit {0}
IsOnward Finishes = Unit {0}
IsOnward Ended = ⊥

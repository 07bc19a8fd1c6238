-- RAISE and THROW, up to the search for a clause. This project's own.
use Rattle.std.specs.Prelude.{ℕ, ◌==◌, ◌&&◌, nat_le, Bool, if◌then◌else◌}
use Rattle.interaction.specs.declared.turn.What.TheVariants as noted
use Rattle.store_object.specs.declared.reply.Reply.{Reply}
use Rattle.store_object.specs.declared.reply.Reply.TheVariants as says
use Rattle.store_object.specs.declared.request.Request.TheVariants as ask
use Rattle.rgctx_fill.specs.declared.doing.Thrown.{Thrown}
use Rattle.rgctx_fill.specs.declared.doing.Doing.TheVariants.{Throws, Searches}
use Rattle.rgctx_fill.specs.ThreadStates.{ImageData, ThreadData, Move, now_doing}
use Rattle.rgctx_fill.specs.ThreadStates as move
use Rattle.rgctx_fill.specs.ServiceReplies.{refuses, answered}
use Rattle.rgctx_fill.specs.NodeReadings.{numbered}
use Rattle.rgctx_fill.specs.StoreServices.{string_leaf, by_reference}

-- the leaves of the classes of exceptions, and that of the one for a null reference
abbrev pub first_exception : ℕ
first_exception = 7

abbrev pub last_exception : ℕ
last_exception = 15

abbrev pub null_reference : ℕ
null_reference = 12

abbrev pub is_exception : ℕ → Bool
is_exception n = nat_le first_exception n && nat_le n last_exception

module _ (s : ThreadData) where
  -- an exception is under way: one action comes, and then the search
  abbrev pub throws : ℕ → ℕ → ThreadData
  throws word kind = now_doing s (Throws (record { word = word; kind = kind }))

  -- the new exception is allocated
  abbrev pub on_raised : ℕ → Reply → ThreadData
  on_raised kind (says.Object number) = throws number kind
  on_raised kind (says.Kind number) = answered s (says.Kind number)
  on_raised kind (says.Word word) = answered s (says.Word word)
  on_raised kind (says.Thread number) = answered s (says.Thread number)
  on_raised kind (says.Ended has_finished) = answered s (says.Ended has_finished)
  on_raised kind says.Unknown = answered s says.Unknown
  on_raised kind says.Done = answered s says.Done
  on_raised kind (says.Stopped why) = answered s (says.Stopped why)
  on_raised kind says.Halted = answered s says.Halted
  on_raised kind says.Improper = answered s says.Improper

  -- the exact type of what is thrown is known
  abbrev pub on_thrown : ℕ → Reply → ThreadData
  on_thrown word (says.Object number) = answered s (says.Object number)
  on_thrown word (says.Kind number) = throws word number
  on_thrown word (says.Word other) = answered s (says.Word other)
  on_thrown word (says.Thread number) = answered s (says.Thread number)
  on_thrown word (says.Ended has_finished) = answered s (says.Ended has_finished)
  on_thrown word says.Unknown = answered s says.Unknown
  on_thrown word says.Done = answered s says.Done
  on_thrown word (says.Stopped why) = answered s (says.Stopped why)
  on_thrown word says.Halted = answered s says.Halted
  on_thrown word says.Improper = answered s says.Improper

  abbrev pub allocates_exception : ℕ → Move
  allocates_exception n = move.Asks (ask.Alloc n 0 0) (on_raised n)

  -- RAISE: x10 the leaf of a class of exceptions
  abbrev pub raises : ℕ → Move
  raises n = numbered s n (move.Reads n (λ word. if is_exception n then allocates_exception n else refuses s))

  -- the action behind the request
  abbrev pub searches : Thrown → Move
  searches x = move.Goes noted.Action (now_doing s (Searches x))

  -- THROW: x10 the reference. Of null it is RAISE of the class for it; a string's exact type is known without a request
  abbrev pub throws_word : ImageData → ℕ → Move
  throws_word im w =
      if w == 0 then raises null_reference
      else by_reference im s w (move.Asks (ask.TypeOf w) (on_thrown w)) (searches (record { word = w; kind = string_leaf }))

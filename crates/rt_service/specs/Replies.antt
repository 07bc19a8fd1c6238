-- What a thread becomes by the reply to its request. This project's own.
use Rattle.std.specs.Prelude.{ℕ, ◌==◌, Option, Some, None, if◌then◌else◌}
use Rattle.store_object.specs.declared.reply.Reply.{Reply}
use Rattle.rv_machine.specs.Registers.{register_of}
use Rattle.rgctx_fill.specs.declared.doing.Doing.{Doing}
use Rattle.rgctx_fill.specs.declared.doing.Doing.TheVariants.{Runs, Serves, Fills, Interprets, Throws, Searches, Refuses, Stops, Finishes, Ended}
use Rattle.rgctx_fill.specs.declared.service.ServiceKind.{ServiceKind}
use Rattle.rgctx_fill.specs.declared.service.ServiceKind.TheVariants as service
use Rattle.rgctx_fill.specs.ThreadStates.{ThreadData, now_doing}
use Rattle.rgctx_fill.specs.ServiceTable.{service_of}
use Rattle.rgctx_fill.specs.ServiceReplies.{answered}
use Rattle.rgctx_fill.specs.ThrowServices.{is_exception, null_reference, on_raised, on_thrown}

module _ (s : ThreadData) (reply : Reply) where
  -- RAISE of a leaf
  abbrev pub raise_replied : ℕ → ThreadData
  raise_replied n = if is_exception n then on_raised s n reply else s

  -- THROW of a reference; of null it is RAISE
  abbrev pub throw_replied : ℕ → ThreadData
  throw_replied w = if w == 0 then raise_replied null_reference else on_thrown s w reply

  -- the request of a service
  abbrev pub service_replied : Option ServiceKind → ThreadData
  service_replied None = s
  service_replied (Some service.Call) = s
  service_replied (Some service.Return) = s
  service_replied (Some service.Raise) = raise_replied (register_of s.core 10)
  service_replied (Some service.Throw) = throw_replied (register_of s.core 10)
  service_replied (Some service.Fill) = s
  service_replied (Some service.FindSlot) = s
  service_replied (Some service.Assignable) = s
  service_replied (Some service.Element) = s
  service_replied (Some service.Alloc) = answered s reply
  service_replied (Some service.TypeOf) = answered s reply
  service_replied (Some service.Length) = answered s reply
  service_replied (Some service.Load) = answered s reply
  service_replied (Some service.Save) = answered s reply
  service_replied (Some service.Exchange) = answered s reply
  service_replied (Some service.CompareExchange) = answered s reply
  service_replied (Some service.Add) = answered s reply
  service_replied (Some service.Print) = answered s reply
  service_replied (Some service.Start) = answered s reply
  service_replied (Some service.Ended) = answered s reply

  -- by who goes on; with the reply to Stop or Finish the thread has ended
  abbrev pub replied_to : Doing → ThreadData
  replied_to Runs = s
  replied_to Serves = service_replied (service_of (register_of s.core 17))
  replied_to (Fills f) = s
  replied_to Interprets = s
  replied_to (Throws x) = s
  replied_to (Searches x) = s
  replied_to Refuses = s
  replied_to (Stops why) = now_doing s Ended
  replied_to Finishes = now_doing s Ended
  replied_to Ended = s

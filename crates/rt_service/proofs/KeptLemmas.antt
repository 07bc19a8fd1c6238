-- By a reply no fill begins.
use Rattle.std.proofs.Common.{◌≡◌, ℕ, ◌==◌, Bool, true, false, Option, Some, None, if◌then◌else◌, subst}
use Rattle.store_object.specs.declared.reply.Reply.{Reply}
use Rattle.store_object.specs.declared.reply.Reply.TheVariants as says
use Rattle.rv_machine.specs.Registers.{register_of}
use Rattle.rgctx_fill.specs.declared.doing.Doing.{Doing}
use Rattle.rgctx_fill.specs.declared.doing.Doing.TheVariants.{Runs, Serves, Fills, Interprets, Throws, Searches, Refuses, Stops, Finishes, Ended}
use Rattle.rgctx_fill.specs.declared.service.ServiceKind.{ServiceKind}
use Rattle.rgctx_fill.specs.declared.service.ServiceKind.TheVariants as service
use Rattle.rgctx_fill.specs.ThreadStates.{ThreadData}
use Rattle.rgctx_fill.specs.ServiceTable.{service_of}
use Rattle.rgctx_fill.specs.ServiceReplies.{answered}
use Rattle.rgctx_fill.specs.ThrowServices.{is_exception, null_reference, on_raised, on_thrown}
use Rattle.rgctx_fill.specs.Turns.{FillData}
use Rattle.rt_service.specs.GoingOn.{HasNoFill}
use Rattle.rt_service.specs.Replies.{raise_replied, throw_replied, service_replied, replied_to}

-- a fill that is under way afterwards was so before
abbrev pub Keeps : ThreadData → ThreadData → Type 0
Keeps s t = (f : FillData) → t.doing ≡ Fills f → s.doing ≡ Fills f

-- none is under way afterwards
without : (s t : ThreadData) → HasNoFill t.doing → Keeps s t
without s t none = λ f is. absurd (subst HasNoFill is none)

module _ (s : ThreadData) where
  by_answer : (reply : Reply) → Keeps s (answered s reply)
  by_answer (says.Object number) = without s (answered s (says.Object number)) tt
  by_answer (says.Kind number) = without s (answered s (says.Kind number)) tt
  by_answer (says.Word word) = without s (answered s (says.Word word)) tt
  by_answer (says.Thread number) = without s (answered s (says.Thread number)) tt
  by_answer (says.Ended has_finished) = without s (answered s (says.Ended has_finished)) tt
  by_answer says.Unknown = without s (answered s says.Unknown) tt
  by_answer says.Done = without s (answered s says.Done) tt
  by_answer (says.Stopped why) = without s (answered s (says.Stopped why)) tt
  by_answer says.Halted = λ f is. is
  by_answer says.Improper = without s (answered s says.Improper) tt

  on_raise : (kind : ℕ) (reply : Reply) → Keeps s (on_raised s kind reply)
  on_raise kind (says.Object number) = without s (on_raised s kind (says.Object number)) tt
  on_raise kind (says.Kind number) = by_answer (says.Kind number)
  on_raise kind (says.Word word) = by_answer (says.Word word)
  on_raise kind (says.Thread number) = by_answer (says.Thread number)
  on_raise kind (says.Ended has_finished) = by_answer (says.Ended has_finished)
  on_raise kind says.Unknown = by_answer says.Unknown
  on_raise kind says.Done = by_answer says.Done
  on_raise kind (says.Stopped why) = by_answer (says.Stopped why)
  on_raise kind says.Halted = by_answer says.Halted
  on_raise kind says.Improper = by_answer says.Improper

  on_throw : (word : ℕ) (reply : Reply) → Keeps s (on_thrown s word reply)
  on_throw word (says.Object number) = by_answer (says.Object number)
  on_throw word (says.Kind number) = without s (on_thrown s word (says.Kind number)) tt
  on_throw word (says.Word other) = by_answer (says.Word other)
  on_throw word (says.Thread number) = by_answer (says.Thread number)
  on_throw word (says.Ended has_finished) = by_answer (says.Ended has_finished)
  on_throw word says.Unknown = by_answer says.Unknown
  on_throw word says.Done = by_answer says.Done
  on_throw word (says.Stopped why) = by_answer (says.Stopped why)
  on_throw word says.Halted = by_answer says.Halted
  on_throw word says.Improper = by_answer says.Improper

  module _ (reply : Reply) where
    by_raise : (number : ℕ) → Keeps s (raise_replied s reply number)
    by_raise number = by_test (is_exception number)
      where
        by_test : (b : Bool) → Keeps s (if b then on_raised s number reply else s)
        by_test true = on_raise number reply
        by_test false = λ f is. is

    by_throw : (word : ℕ) → Keeps s (throw_replied s reply word)
    by_throw word = by_test (word == 0)
      where
        by_test : (b : Bool) → Keeps s (if b then raise_replied s reply null_reference else on_thrown s word reply)
        by_test true = by_raise null_reference
        by_test false = on_throw word reply

    by_service : (kind : Option ServiceKind) → Keeps s (service_replied s reply kind)
    by_service None = λ f is. is
    by_service (Some service.Call) = λ f is. is
    by_service (Some service.Return) = λ f is. is
    by_service (Some service.Raise) = by_raise (register_of s.core 10)
    by_service (Some service.Throw) = by_throw (register_of s.core 10)
    by_service (Some service.Fill) = λ f is. is
    by_service (Some service.FindSlot) = λ f is. is
    by_service (Some service.Assignable) = λ f is. is
    by_service (Some service.Element) = λ f is. is
    by_service (Some service.Alloc) = by_answer reply
    by_service (Some service.TypeOf) = by_answer reply
    by_service (Some service.Length) = by_answer reply
    by_service (Some service.Load) = by_answer reply
    by_service (Some service.Save) = by_answer reply
    by_service (Some service.Exchange) = by_answer reply
    by_service (Some service.CompareExchange) = by_answer reply
    by_service (Some service.Add) = by_answer reply
    by_service (Some service.Print) = by_answer reply
    by_service (Some service.Start) = by_answer reply
    by_service (Some service.Ended) = by_answer reply

    pub no_fill_begins : (doing : Doing) → Keeps s (replied_to s reply doing)
    no_fill_begins Runs = λ f is. is
    no_fill_begins Serves = by_service (service_of (register_of s.core 17))
    no_fill_begins (Fills x) = λ f is. is
    no_fill_begins Interprets = λ f is. is
    no_fill_begins (Throws x) = λ f is. is
    no_fill_begins (Searches x) = λ f is. is
    no_fill_begins Refuses = λ f is. is
    no_fill_begins (Stops why) = without s (replied_to s reply (Stops why)) tt
    no_fill_begins Finishes = without s (replied_to s reply Finishes) tt
    no_fill_begins Ended = λ f is. is

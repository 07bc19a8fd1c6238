-- No service but FILL leads to a fill, and none ends a thread.
use Rattle.std.proofs.Common.{◌≡◌, ◌⊎◌, ⊎_elim, inl, inr, ℕ, ◌==◌, length, Result, Ok, Err, refl, sym, subst}
use Rattle.std.specs.Prelude.{IfOk}
use Rattle.store_object.specs.declared.reply.Reply.{Reply}
use Rattle.store_object.specs.declared.request.Request.TheVariants as ask
use Rattle.rgctx_template.specs.Catalogue.{CatData}
use Rattle.rgctx_fill.specs.declared.thread.Want.{Want}
use Rattle.rgctx_fill.specs.declared.doing.Doing.{Doing}
use Rattle.rgctx_fill.specs.declared.doing.Doing.TheVariants.{Runs, Serves, Fills, Interprets, Throws, Searches, Refuses, Stops, Finishes, Ended}
use Rattle.rgctx_fill.specs.declared.service.ServiceKind.{ServiceKind}
use Rattle.rgctx_fill.specs.declared.service.ServiceKind.TheVariants as service
use Rattle.rgctx_fill.specs.ThreadStates.{ImageData, ThreadData, Move, now_doing}
use Rattle.rgctx_fill.specs.ThreadStates as move
use Rattle.rgctx_fill.specs.ServiceReplies.{refuses, answered}
use Rattle.rgctx_fill.specs.StoreServices.{string_leaf, by_reference}
use Rattle.rgctx_fill.specs.ThrowServices.{is_exception, null_reference, on_raised, on_thrown, allocates_exception, raises, searches, throws_word}
use Rattle.rgctx_fill.specs.Services.{first, second, third, serves_as}
use Rattle.rgctx_fill.specs.Turns.{FillData}
use Rattle.rgctx_fill.specs.Moves.{Span, IsMade}
use Rattle.rt_service.specs.GoingOn.{HasNoFill, IsOnward}
use Rattle.rt_service.specs.Notes.{IsUnderWay}
use Rattle.rt_service.proofs.LeadLemmas.{Leads, Quiet, AnyReply, quiet_made}
use Rattle.rt_service.proofs.ServiceLemmas.{either, numbered_led, slot_led, assignable_led, element_led, call_led, return_led, reference_led, requested}

-- Where a thread is led by each service but FILL: `answered_so`, `raised_so` and `thrown_so` say what holds of its replies.
module _ (P : ThreadData → Type 0) (Q : (Reply → ThreadData) → Type 0) (same : (t : ThreadData) → IsOnward t.doing → P t) (im : ImageData) (s : ThreadData) (answered_so : Q (answered s)) (raised_so : (n : ℕ) → Q (on_raised s n)) (thrown_so : (w : ℕ) → Q (on_thrown s w)) where
  abbrev LeadsOn : Move → Type 0
  LeadsOn m = Leads P Q m

  raise_led : (n : ℕ) → LeadsOn (raises s n)
  raise_led n = numbered_led P Q same s n _ (λ word. either P Q same (is_exception n) (allocates_exception s n) (refuses s) (raised_so n) tt)

  throw_led : (w : ℕ) → LeadsOn (throws_word s im w)
  throw_led w = either P Q same (w == 0) (raises s null_reference) (by_reference im s w (move.Asks (ask.TypeOf w) (on_thrown s w)) (searches s (record { word = w; kind = string_leaf })))
      (raise_led null_reference)
      (reference_led P Q same s im w (move.Asks (ask.TypeOf w) (on_thrown s w)) (searches s (record { word = w; kind = string_leaf })) (thrown_so w) (same (now_doing s (Searches (record { word = w; kind = string_leaf }))) tt))

  pub service_led : (kind : ServiceKind) → (kind ≡ service.Fill) ⊎ LeadsOn (serves_as im s kind)
  service_led service.Call = inr (call_led P Q same s im (first im s) (second im s) (third im s))
  service_led service.Return = inr (return_led P Q same s (length s.stack.bases))
  service_led service.Raise = inr (raise_led (first im s))
  service_led service.Throw = inr (throw_led (first im s))
  service_led service.Fill = inl refl
  service_led service.FindSlot = inr (slot_led P Q same s im (first im s) (second im s) (third im s))
  service_led service.Assignable = inr (assignable_led P Q same s im (first im s) (second im s))
  service_led service.Element = inr (element_led P Q same s im (first im s))
  service_led service.Alloc = inr (requested P Q same s im answered_so (first im s) (second im s) (third im s)).0
  service_led service.TypeOf = inr (requested P Q same s im answered_so (first im s) (second im s) (third im s)).1
  service_led service.Length = inr (requested P Q same s im answered_so (first im s) (second im s) (third im s)).2
  service_led service.Load = inr (requested P Q same s im answered_so (first im s) (second im s) (third im s)).3
  service_led service.Save = inr (requested P Q same s im answered_so (first im s) (second im s) (third im s)).4
  service_led service.Exchange = inr (requested P Q same s im answered_so (first im s) (second im s) (third im s)).5
  service_led service.CompareExchange = inr (requested P Q same s im answered_so (first im s) (second im s) (third im s)).6
  service_led service.Add = inr (requested P Q same s im answered_so (first im s) (second im s) (third im s)).7
  service_led service.Print = inr (requested P Q same s im answered_so (first im s) (second im s) (third im s)).8
  service_led service.Start = inr (requested P Q same s im answered_so (first im s) (second im s) (third im s)).9
  service_led service.Ended = inr (requested P Q same s im answered_so (first im s) (second im s) (third im s)).10

pub no_fill_onward : (d : Doing) → IsOnward d → HasNoFill d
no_fill_onward Runs on = tt
no_fill_onward Serves on = tt
no_fill_onward (Fills f) on = absurd on
no_fill_onward Interprets on = tt
no_fill_onward (Throws x) on = tt
no_fill_onward (Searches x) on = tt
no_fill_onward Refuses on = tt
no_fill_onward (Stops why) on = tt
no_fill_onward Finishes on = tt
no_fill_onward Ended on = absurd on

pub quiet_as : (im : ImageData) (s : ThreadData) (kind : ServiceKind) → (kind ≡ service.Fill) ⊎ Leads Quiet AnyReply (serves_as im s kind)
quiet_as im s kind = service_led Quiet AnyReply (λ t on. no_fill_onward t.doing on) im s tt (λ n. tt) (λ w. tt) kind

-- a fill is under way behind the turn only where the service is FILL
pub under_way : {E : Type 0} (im : ImageData) (cat : CatData) (h : Span) (s new : ThreadData) (held : ℕ → ℕ) (kind : ServiceKind) (r : Result Want E) (f : FillData) → s.doing ≡ Serves
    → (kind ≡ service.Fill → new.doing ≡ Fills f → IsUnderWay cat held f) → IfOk r (λ said. IsMade cat h s (serves_as im s kind) said new) → IfOk r (λ said. new.doing ≡ Fills f → IsUnderWay cat held f)
under_way im cat h s new held kind (Err e) f was filled made = tt
under_way im cat h s new held kind (Ok said) f was filled made = ⊎_elim filled
    (λ leads is. absurd (subst HasNoFill is (quiet_made cat h s said new (serves_as im s kind) leads made (subst HasNoFill (sym was) tt))))
    (quiet_as im s kind)

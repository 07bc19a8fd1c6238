-- The reply to a request leads to the state that the turn says, whatever words were read before the request.
use Rattle.std.proofs.Common.{ℕ, ◌%◌, ◌==◌, Bool, true, false, length, slice_get, Option, Some, None, if◌then◌else◌, refl}
use Rattle.il_model.specs.declared.entry.Entry.{Entry}
use Rattle.il_model.specs.declared.layout.Limit.{Limit}
use Rattle.store_object.specs.declared.reply.Reply.{Reply}
use Rattle.store_object.specs.declared.request.Request.TheVariants as ask
use Rattle.rv_isa.specs.declared.instr.Instr.{Instr}
use Rattle.rv_isa.specs.Reading.{decode_of}
use Rattle.rgctx_words.specs.Stacks.{StackWords}
use Rattle.rv_machine.specs.declared.effect.Effect.{Effect}
use Rattle.rv_machine.specs.declared.effect.Effect.TheVariants as effect
use Rattle.rv_machine.specs.declared.size.Size.{Size}
use Rattle.rv_machine.specs.Registers.{register_of}
use Rattle.rv_machine.specs.Effect.{effect_of}
use Rattle.rv_machine.specs.Steps.{bytes_of, fetched, stored}
use Rattle.rgctx_fill.specs.declared.doing.Doing.{Doing}
use Rattle.rgctx_fill.specs.declared.doing.Doing.TheVariants.{Runs, Serves, Fills, Interprets, Throws, Searches, Refuses, Stops, Finishes, Ended}
use Rattle.rgctx_fill.specs.declared.service.ServiceKind.{ServiceKind}
use Rattle.rgctx_fill.specs.declared.service.ServiceKind.TheVariants as service
use Rattle.rgctx_fill.specs.declared.spelled.NodeTree.{NodeTree}
use Rattle.rgctx_fill.specs.declared.stage.FillNext.{FillNext}
use Rattle.rgctx_fill.specs.declared.stage.FillNext.TheVariants as next
use Rattle.rgctx_fill.specs.Turns.{FillData, next_of}
use Rattle.rgctx_fill.specs.Templates.{tree_template}
use Rattle.rgctx_fill.specs.NamedValues.{entry_at}
use Rattle.rgctx_fill.specs.Starting.{limit_named}
use Rattle.rgctx_fill.specs.Accesses.{frame_read, frame_written}
use Rattle.rgctx_fill.specs.ThreadStates.{ImageData, ThreadData, Move, with_stack, now_doing}
use Rattle.rgctx_fill.specs.ThreadStates as move
use Rattle.rgctx_fill.specs.MachineTurns.{context_of, loads_frame, loads_from, stores, does, decoded, at_word}
use Rattle.rgctx_fill.specs.ServiceTable.{service_of}
use Rattle.rgctx_fill.specs.ServiceReplies.{refuses, answered}
use Rattle.rgctx_fill.specs.StoreServices.{string_leaf, by_reference}
use Rattle.rgctx_fill.specs.ThrowServices.{is_exception, null_reference, on_raised, on_thrown, allocates_exception, raises, searches, throws_word}
use Rattle.rgctx_fill.specs.FillServices.{fills_next, begins_within, begins_entry, begins_at, fills}
use Rattle.rgctx_fill.specs.Services.{first, second, third, serves_as, serves_if, serves}
use Rattle.rgctx_fill.specs.ThreadTurns.{move_of}
use Rattle.rgctx_fill.specs.Moves.{IsReplied}
use Rattle.rt_service.specs.GoingOn.{IsOnward}
use Rattle.rt_service.proofs.LeadLemmas.{Leads, Any, Gives, replied_of}
use Rattle.rt_service.proofs.ServiceLemmas.{numbered_led, tree_led, slot_led, assignable_led, element_led, call_led, return_led, reference_led, requested}
use Rattle.rt_service.specs.Replies.{raise_replied, throw_replied, service_replied, replied_to}

module _ (reply : Reply) (new : ThreadData) where
  abbrev Replied : Move → Type 0
  Replied m = IsReplied m reply new

  either : (b : Bool) (m n : Move) → Replied m → Replied n → Replied (if b then m else n)
  either true m n p q = p
  either false m n p q = q

  abbrev Led : Move → Type 0
  Led m = Leads Any (Gives reply new) m

  any : (t : ThreadData) → IsOnward t.doing → Any t
  any t none = tt

  module _ (s : ThreadData) where
    module _ (im : ImageData) where
      begun_led : (node number : ℕ) (spells : NodeTree) (e : Entry) (limit : Option Limit) → Led (begins_within im s node number spells e limit)
      begun_led node number spells e None = tt
      begun_led node number spells e (Some limit) = tt

      entry_led : (node number : ℕ) (spells : NodeTree) (e : Option Entry) → Led (begins_entry im s node number spells e)
      entry_led node number spells None = tt
      entry_led node number spells (Some e) = begun_led node number spells (entry_at spells e) (limit_named im.cat.program spells (entry_at spells e))

      fill_led : (node number : ℕ) → Led (fills im s node number)
      fill_led node number = tree_led Any (Gives reply new) any s node (begins_at im s node number) (λ spells. entry_led node number spells (slice_get (tree_template im.cat spells) number))

    fill_on_replied : (f : FillData) (n : FillNext) → Replied (fills_next s f n)
    fill_on_replied f (next.Load i) = tt
    fill_on_replied f (next.Claim i word) = tt
    fill_on_replied f (next.Full r key) = tt
    fill_on_replied f next.Nothing = tt

    -- Machine code -----------------------------------------------------------

    module _ (word : ℕ) where
      frame_loaded : (rd : ℕ) (size : Size) (sign : Bool) (address : ℕ) (found : Option ℕ) → Replied (loads_frame s word rd size sign address found)
      frame_loaded rd size sign address None = tt
      frame_loaded rd size sign address (Some found) = tt

      loaded_from : (rd : ℕ) (size : Size) (sign : Bool) (address : ℕ) (i : Option ℕ) → Replied (loads_from s word rd size sign address i)
      loaded_from rd size sign address None = frame_loaded rd size sign address (frame_read size s.stack address)
      loaded_from rd size sign address (Some i) = tt

      stored_at : (address : ℕ) (stack : Option StackWords) → Replied (stores s word address stack)
      stored_at address None = tt
      stored_at address (Some stack) = tt

      done : (e : Effect) → Replied (does s word e)
      done (effect.Sets rd w) = tt
      done (effect.Loads rd size sign address) = either (address % bytes_of size == 0) _ _ (loaded_from rd size sign address (context_of s size address)) tt
      done (effect.Stores size address w) = either (address % bytes_of size == 0) _ _ (stored_at address (frame_written size s.stack address (stored size w))) tt
      done (effect.Goes rd target) = tt
      done effect.Calls = tt
      done effect.Breaks = tt

      decoded_one : (i : Option Instr) → Replied (decoded s word i)
      decoded_one None = tt
      decoded_one (Some i) = done (effect_of i s.core)

    fetched_one : (word : Option ℕ) → Replied (at_word s word)
    fetched_one None = tt
    fetched_one (Some word) = decoded_one word (decode_of word)

-- By service ------------------------------------------------------------------

module _ (im : ImageData) (s : ThreadData) (reply : Reply) where
  abbrev GivesTo : ThreadData → Move → Type 0
  GivesTo new m = Leads Any (Gives reply new) m

  raise_is : (n : ℕ) → GivesTo (raise_replied s reply n) (raises s n)
  raise_is n = numbered_led Any (Gives reply (raise_replied s reply n)) (any reply (raise_replied s reply n)) s n _ (λ word. by_test (is_exception n))
    where
      by_test : (b : Bool) → GivesTo (if b then on_raised s n reply else s) (if b then allocates_exception s n else refuses s)
      by_test true = refl
      by_test false = tt

  throw_is : (w : ℕ) → GivesTo (throw_replied s reply w) (throws_word s im w)
  throw_is w = by_test (w == 0)
    where
      thrown : Move
      thrown = by_reference im s w (move.Asks (ask.TypeOf w) (on_thrown s w)) (searches s (record { word = w; kind = string_leaf }))

      by_test : (b : Bool) → GivesTo (if b then raise_replied s reply null_reference else on_thrown s w reply) (if b then raises s null_reference else thrown)
      by_test true = raise_is null_reference
      by_test false = reference_led Any (Gives reply (on_thrown s w reply)) (any reply (on_thrown s w reply)) s im w (move.Asks (ask.TypeOf w) (on_thrown s w)) (searches s (record { word = w; kind = string_leaf })) refl tt

  service_is : (kind : ServiceKind) → GivesTo (service_replied s reply (Some kind)) (serves_as im s kind)
  service_is service.Call = call_led Any (Gives reply s) (any reply s) s im (first im s) (second im s) (third im s)
  service_is service.Return = return_led Any (Gives reply s) (any reply s) s (length s.stack.bases)
  service_is service.Raise = raise_is (first im s)
  service_is service.Throw = throw_is (first im s)
  service_is service.Fill = fill_led reply s s im (first im s) (second im s)
  service_is service.FindSlot = slot_led Any (Gives reply s) (any reply s) s im (first im s) (second im s) (third im s)
  service_is service.Assignable = assignable_led Any (Gives reply s) (any reply s) s im (first im s) (second im s)
  service_is service.Element = element_led Any (Gives reply s) (any reply s) s im (first im s)
  service_is service.Alloc = (requested Any (Gives reply (answered s reply)) (any reply (answered s reply)) s im refl (first im s) (second im s) (third im s)).0
  service_is service.TypeOf = (requested Any (Gives reply (answered s reply)) (any reply (answered s reply)) s im refl (first im s) (second im s) (third im s)).1
  service_is service.Length = (requested Any (Gives reply (answered s reply)) (any reply (answered s reply)) s im refl (first im s) (second im s) (third im s)).2
  service_is service.Load = (requested Any (Gives reply (answered s reply)) (any reply (answered s reply)) s im refl (first im s) (second im s) (third im s)).3
  service_is service.Save = (requested Any (Gives reply (answered s reply)) (any reply (answered s reply)) s im refl (first im s) (second im s) (third im s)).4
  service_is service.Exchange = (requested Any (Gives reply (answered s reply)) (any reply (answered s reply)) s im refl (first im s) (second im s) (third im s)).5
  service_is service.CompareExchange = (requested Any (Gives reply (answered s reply)) (any reply (answered s reply)) s im refl (first im s) (second im s) (third im s)).6
  service_is service.Add = (requested Any (Gives reply (answered s reply)) (any reply (answered s reply)) s im refl (first im s) (second im s) (third im s)).7
  service_is service.Print = (requested Any (Gives reply (answered s reply)) (any reply (answered s reply)) s im refl (first im s) (second im s) (third im s)).8
  service_is service.Start = (requested Any (Gives reply (answered s reply)) (any reply (answered s reply)) s im refl (first im s) (second im s) (third im s)).9
  service_is service.Ended = (requested Any (Gives reply (answered s reply)) (any reply (answered s reply)) s im refl (first im s) (second im s) (third im s)).10

  any_service_is : (kind : Option ServiceKind) → GivesTo (service_replied s reply kind) (serves_if im s kind)
  any_service_is None = tt
  any_service_is (Some kind) = service_is kind

  pub reply_is : (doing : Doing) → IsReplied (move_of im s doing) reply (replied_to s reply doing)
  reply_is Runs = fetched_one reply s s (fetched im.code s.core.pc)
  reply_is Serves = replied_of reply (service_replied s reply (service_of (register_of s.core 17))) (serves im s (register_of s.core 17)) (any_service_is (service_of (register_of s.core 17)))
  reply_is (Fills f) = fill_on_replied reply s s f (next_of f)
  reply_is Interprets = tt
  reply_is (Throws x) = tt
  reply_is (Searches x) = tt
  reply_is Refuses = tt
  reply_is (Stops why) = refl
  reply_is Finishes = refl
  reply_is Ended = tt

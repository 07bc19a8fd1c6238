-- No turn but that of a fill claims a word.
use Rattle.std.proofs.Common.{◌≡◌, ◌⊎◌, ⊎_elim, ℕ, ◌==◌, ◌%◌, Bool, true, false, if◌then◌else◌, Option, Some, None, sym, subst}
use Rattle.std.specs.Prelude.{slice_get}
use Rattle.il_model.specs.declared.entry.Entry.{Entry}
use Rattle.il_model.specs.declared.layout.Limit.{Limit}
use Rattle.rv_isa.specs.declared.instr.Instr.{Instr}
use Rattle.rv_isa.specs.Reading.{decode_of}
use Rattle.rv_machine.specs.declared.effect.Effect.{Effect}
use Rattle.rv_machine.specs.declared.effect.Effect.TheVariants.{Sets, Loads, Stores, Goes, Calls, Breaks}
use Rattle.rv_machine.specs.declared.size.Size.{Size}
use Rattle.rv_machine.specs.Effect.{effect_of}
use Rattle.rv_machine.specs.Registers.{register_of}
use Rattle.rv_machine.specs.Steps.{fetched, bytes_of, stored}
use Rattle.mn_outside.specs.declared.machine.FaultCause.TheVariants.{Misaligned}
use Rattle.store_object.specs.declared.reply.Reply.{Reply}
use Rattle.rgctx_words.specs.Stacks.{StackWords}
use Rattle.rgctx_fill.specs.declared.doing.Doing.{Doing}
use Rattle.rgctx_fill.specs.declared.doing.Doing.TheVariants.{Runs, Serves, Fills, Interprets, Throws, Searches, Refuses, Stops, Finishes, Ended}
use Rattle.rgctx_fill.specs.declared.service.ServiceKind.{ServiceKind}
use Rattle.rgctx_fill.specs.declared.service.ServiceKind.TheVariants as service
use Rattle.rgctx_fill.specs.declared.spelled.NodeTree.{NodeTree}
use Rattle.rgctx_fill.specs.Accesses.{frame_read, frame_written}
use Rattle.rgctx_fill.specs.FillServices.{begins_within, begins_entry, begins_at, fills}
use Rattle.rgctx_fill.specs.MachineTurns.{faults, context_of, loads_frame, loads_from, stores, does, decoded, at_word}
use Rattle.rgctx_fill.specs.NamedValues.{entry_at}
use Rattle.rgctx_fill.specs.Services.{first, second, serves_as, serves_if}
use Rattle.rgctx_fill.specs.ServiceTable.{service_of}
use Rattle.rgctx_fill.specs.Starting.{limit_named}
use Rattle.rgctx_fill.specs.Templates.{tree_template}
use Rattle.rgctx_fill.specs.ThreadStates.{ImageData, ThreadData, Move}
use Rattle.rgctx_fill.specs.ThreadStates as move
use Rattle.rgctx_fill.specs.ThreadTurns.{move_of}
use Rattle.rt_service.specs.GoingOn.{HasNoFill, IsOnward}
use Rattle.rt_service.proofs.LeadLemmas.{Leads, Any, Quiet, AnyReply}
use Rattle.rt_service.proofs.QuietLemmas.{quiet_as}
use Rattle.rt_service.proofs.ServiceLemmas.{tree_led}

-- whatever words are read first, the turn claims none
abbrev pub IsTame : Move → Type 0
IsTame (move.Goes what t) = Unit {0}
IsTame (move.Reads i next) = (word : ℕ) → IsTame (next word)
IsTame (move.Loads what i next) = Unit {0}
IsTame (move.Claims i word next) = ⊥
IsTame (move.Asks request next) = Unit {0}
IsTame (move.IsFull region key) = Unit {0}
IsTame (move.Faults fault) = Unit {0}
IsTame move.IsOver = Unit {0}

led_tame : (P : ThreadData → Type 0) (Q : (Reply → ThreadData) → Type 0) (m : Move) → Leads P Q m → IsTame m
led_tame P Q (move.Goes what t) p = tt
led_tame P Q (move.Reads i next) p = λ word. led_tame P Q (next word) (p word)
led_tame P Q (move.Loads what i next) p = tt
led_tame P Q (move.Claims i word next) p = p
led_tame P Q (move.Asks request next) p = tt
led_tame P Q (move.IsFull region key) p = tt
led_tame P Q (move.Faults fault) p = tt
led_tame P Q move.IsOver p = tt

-- ---- machine code

module _ (s : ThreadData) (word : ℕ) where
  frame_tame : (rd : ℕ) (size : Size) (sign : Bool) (address : ℕ) (answer : Option ℕ) → IsTame (loads_frame s word rd size sign address answer)
  frame_tame rd size sign address None = tt
  frame_tame rd size sign address (Some found) = tt

  from_tame : (rd : ℕ) (size : Size) (sign : Bool) (address : ℕ) (place : Option ℕ) → IsTame (loads_from s word rd size sign address place)
  from_tame rd size sign address None = frame_tame rd size sign address (frame_read size s.stack address)
  from_tame rd size sign address (Some i) = tt

  stores_tame : (address : ℕ) (o : Option StackWords) → IsTame (stores s word address o)
  stores_tame address None = tt
  stores_tame address (Some k) = tt

  if_tame : (b : Bool) (m n : Move) → IsTame m → IsTame n → IsTame (if b then m else n)
  if_tame true m n p q = p
  if_tame false m n p q = q

  does_tame : (e : Effect) → IsTame (does s word e)
  does_tame (Sets rd w) = tt
  does_tame (Loads rd size sign address) =
      if_tame (address % bytes_of size == 0) (loads_from s word rd size sign address (context_of s size address)) (faults s (Misaligned address)) (from_tame rd size sign address (context_of s size address)) tt
  does_tame (Stores size address w) =
      if_tame (address % bytes_of size == 0) (stores s word address (frame_written size s.stack address (stored size w))) (faults s (Misaligned address)) (stores_tame address (frame_written size s.stack address (stored size w))) tt
  does_tame (Goes rd target) = tt
  does_tame Calls = tt
  does_tame Breaks = tt

  decoded_tame : (o : Option Instr) → IsTame (decoded s word o)
  decoded_tame None = tt
  decoded_tame (Some i) = does_tame (effect_of i s.core)

word_tame : (s : ThreadData) (o : Option ℕ) → IsTame (at_word s o)
word_tame s None = tt
word_tame s (Some word) = decoded_tame s word (decode_of word)

-- ---- services

module _ (im : ImageData) (s : ThreadData) where
  any : (t : ThreadData) → IsOnward t.doing → Any t
  any t none = tt

  abbrev LeadsAny : Move → Type 0
  LeadsAny m = Leads Any AnyReply m

  within_led : (node number : ℕ) (t : NodeTree) (e : Entry) (limit : Option Limit) → LeadsAny (begins_within im s node number t e limit)
  within_led node number t e None = tt
  within_led node number t e (Some limit) = tt

  entry_led : (node number : ℕ) (t : NodeTree) (e : Option Entry) → LeadsAny (begins_entry im s node number t e)
  entry_led node number t None = tt
  entry_led node number t (Some e) = within_led node number t (entry_at t e) (limit_named im.cat.program t (entry_at t e))

  fill_led : (node number : ℕ) → LeadsAny (fills im s node number)
  fill_led node number = tree_led Any AnyReply any s node (begins_at im s node number) (λ t. entry_led node number t (slice_get (tree_template im.cat t) number))

  as_tame : (kind : ServiceKind) → (kind ≡ service.Fill) ⊎ Leads Quiet AnyReply (serves_as im s kind) → IsTame (serves_as im s kind)
  as_tame kind quiet = ⊎_elim
      (λ (e : kind ≡ service.Fill). subst (λ k. IsTame (serves_as im s k)) (sym e) (led_tame Any AnyReply (fills im s (first im s) (second im s)) (fill_led (first im s) (second im s))))
      (λ (p : Leads Quiet AnyReply (serves_as im s kind)). led_tame Quiet AnyReply (serves_as im s kind) p)
      quiet

  kind_tame : (o : Option ServiceKind) → IsTame (serves_if im s o)
  kind_tame None = tt
  kind_tame (Some kind) = as_tame kind (quiet_as im s kind)

  -- who goes on is no fill
  pub move_tame : (d : Doing) → HasNoFill d → IsTame (move_of im s d)
  move_tame Runs none = word_tame s (fetched im.code s.core.pc)
  move_tame Serves none = kind_tame (service_of (register_of s.core 17))
  move_tame (Fills f) none = absurd none
  move_tame Interprets none = tt
  move_tame (Throws x) none = tt
  move_tame (Searches x) none = tt
  move_tame Refuses none = tt
  move_tame (Stops why) none = tt
  move_tame Finishes none = tt
  move_tame Ended none = tt

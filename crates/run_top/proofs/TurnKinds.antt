-- What kinds of turns the machine has, whatever the image.
use Rattle.std.proofs.Common.{◌≡◌, ℕ, ◌+◌, ◌*◌, List, Bool, true, false, Option, Some, None, refl, subst, arith}
use Rattle.std.specs.Prelude.{◌==◌, if◌then◌else◌}
use Rattle.rv_isa.specs.declared.instr.Instr.{Instr}
use Rattle.rv_isa.specs.Reading.{decode_of}
use Rattle.interaction.specs.declared.turn.What.{What}
use Rattle.interaction.specs.declared.turn.What.TheVariants as noted
use Rattle.interaction.specs.Thread.{Go, Ask, Fault, Over}
use Rattle.store_object.specs.declared.request.Form.TheVariants.{Number}
use Rattle.store_object.specs.declared.request.Request.{Request}
use Rattle.store_object.specs.declared.request.Request.TheVariants.{Print, Finish}
use Rattle.store_object.specs.declared.reply.Reply.{Reply}
use Rattle.run_top.specs.declared.machine.Mode.{Mode}
use Rattle.run_top.specs.declared.machine.Mode.TheVariants.{Code, Service, Leaving, Gone}
use Rattle.run_top.specs.declared.machine.Effect.{Effect}
use Rattle.run_top.specs.declared.machine.Effect.TheVariants.{Sets, Loads, Stores, Calls, Breaks}
use Rattle.run_top.specs.Executed.{IsExecuted, IsFirst}
use Rattle.run_top.specs.Executed as first
use Rattle.run_top.specs.Machine.{Thread, Wish, register, with_mode, frame_place, code_place, effect_of, loaded, stored, performed, decoded, fetched, fetch, want_in, want}

-- the kinds of a turn of a thread
pub data Kind (image : List ℕ) (t : Thread) : Wish → Type 0 where
  goes : {what : What} {next : Thread} → IsExecuted image what → (next.mode ≡ Gone → ⊥) → Kind image t (Go what next)
  prints : {word : ℕ} {next : Reply → Thread} → ((y : Reply) → (next y).mode ≡ Gone → ⊥) → Kind image t (Ask (Print Number word) next)
  leaves : {next : Reply → Thread} → Kind image t (Ask Finish next)
  faults : Kind image t Fault
  over : t.mode ≡ Gone → Kind image t Over

placed : (pc i : ℕ) → code_place pc ≡ Some i → pc ≡ 65536 + 4 * i
placed pc i h = grind arith

module _ (image : List ℕ) (t : Thread) (in_code : t.mode ≡ Code) (what : What) (executed : IsExecuted image what) where
  stays : t.mode ≡ Gone → ⊥
  stays h = cc

  loads_so : (rd : ℕ) (o : Option ℕ) → Kind image t (loaded what t rd o)
  loads_so rd None = faults
  loads_so rd (Some place) = goes executed stays

  stores_so : (value : ℕ) (o : Option ℕ) → Kind image t (stored what t value o)
  stores_so value None = faults
  stores_so value (Some place) = goes executed stays

  performs_so : (effect : Effect) → Kind image t (performed what t effect)
  performs_so (Sets rd value) = goes executed stays
  performs_so (Loads rd address) = loads_so rd (frame_place _ address)
  performs_so (Stores address value) = stores_so value (frame_place _ address)
  performs_so Calls = goes executed (λ h. cc h)
  performs_so Breaks = faults

module _ (image : List ℕ) (t : Thread) (in_code : t.mode ≡ Code) where
  decodes_so : (word : ℕ) (o : Option Instr) → IsExecuted image (noted.Instr t.pc word) → Kind image t (decoded word t o)
  decodes_so word None h = faults
  decodes_so word (Some instr) h = performs_so image t in_code (noted.Instr t.pc word) h (effect_of instr t.x)

  fetches_so : (p o : Option ℕ) → code_place t.pc ≡ p → fetch image p ≡ o → Kind image t (fetched t o)
  fetches_so p None e h = faults
  fetches_so None (Some word) e h = absurd (cc h)
  fetches_so (Some i) (Some word) e h = decodes_so word (decode_of word) (i, placed t.pc i e, h)

serves_so : (image : List ℕ) (t : Thread) (a b c : Bool) → Kind image t (if a then (if b then Ask (Print Number (register t.x 10)) (λ reply. with_mode t Code) else Fault) else (if c then Go noted.Action (with_mode t Leaving) else Fault))
serves_so image t true true c = prints (λ y h. cc h)
serves_so image t true false c = faults
serves_so image t false b true = goes tt (λ h. cc h)
serves_so image t false b false = faults

kind_in : (image : List ℕ) (t : Thread) (mode : Mode) → t.mode ≡ mode → Kind image t (want_in mode image t)
kind_in image t Code e = fetches_so image t e (code_place t.pc) (fetch image (code_place t.pc)) refl refl
kind_in image t Service e = serves_so image t (register t.x 17 == 24) (register t.x 11 == 0) (register t.x 17 == 2)
kind_in image t Leaving e = leaves
kind_in image t Gone e = over e

-- each turn is of one of these kinds
pub kind_of : (image : List ℕ) (t : Thread) → Kind image t (want image t)
kind_of image t = kind_in image t t.mode refl

asks_first : (image : List ℕ) (t : Thread) (w : Wish) (r : Request) (next : Reply → Thread) → Kind image t w → w ≡ Ask r next → IsFirst r
asks_first image t _ r next (goes e g) is = absurd (cc is)
asks_first image t _ r next (prints {word = word} g) is = let same : Print Number word ≡ r = cc is in subst IsFirst same (first.prints word)
asks_first image t _ r next leaves is = let same : Finish ≡ r = cc is in subst IsFirst same first.leaves
asks_first image t _ r next faults is = absurd (cc is)
asks_first image t _ r next (over g) is = absurd (cc is)

-- a request is one of the first form
pub its_request : (image : List ℕ) (t : Thread) (r : Request) (next : Reply → Thread) → want image t ≡ Ask r next → IsFirst r
its_request image t r next is = asks_first image t (want image t) r next (kind_of image t) is

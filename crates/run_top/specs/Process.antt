-- The unshared program of one thread: what each instruction means, as a tree. After ECMA-335, Partition III.
use Rattle.std.specs.Prelude.{ℕ, ◌+◌, List, [], ◌∷◌, Option, Some, None, slice_get}
use Rattle.run_top.specs.declared.first.FirstOp.{FirstOp}
use Rattle.run_top.specs.declared.first.FirstOp.TheVariants.{Push, Add, Print as PrintOp, Ret}
use Rattle.interaction.specs.declared.history.Event.{Event}
use Rattle.interaction.specs.Process.{Act, Next, Ask, Over, Stuck, Naming}
use Rattle.interaction.specs.Starts.{begin_of, as_process}
use Rattle.store_object.specs.declared.request.Form.TheVariants.{Number}
use Rattle.store_object.specs.declared.request.Request.{Request}
use Rattle.store_object.specs.declared.request.Request.TheVariants.{Print, Finish}
use Rattle.store_object.specs.declared.reply.Reply.{Reply}
use Rattle.store_object.specs.declared.reply.Reply.TheVariants as says
use Rattle.run_top.specs.Values.{int32_word, int32_sum}

-- where a thread is: an instruction, counted from 0, and the stack, its top first
pub record Frame : Type 0 where
  pub place : ℕ
  pub stack : List ℕ

-- what is left of an instruction: programs of this form settle nothing and spell no type
abbrev pub Doing : Type 0
Doing = Act ⊥ ⊥ Request Reply Frame

-- the next instruction, at this stack
abbrev pub next : ℕ → List ℕ → Doing
next place stack = Next (record { place = place + 1; stack = stack })

-- an instruction at a stack; where it doesn't find its operands there is no rule
abbrev pub act_of : Option FirstOp → ℕ → List ℕ → Doing
act_of (Some (Push n)) place stack = next place (int32_word n ∷ stack)
act_of (Some Add) place (y ∷ x ∷ stack) = next place (int32_sum x y ∷ stack)
act_of (Some PrintOp) place (x ∷ stack) = Ask (Print Number x) (λ reply. next place stack)
act_of (Some Ret) place [] = Ask Finish (λ reply. Over)
act_of op place stack = Stuck

abbrev pub meaning : List FirstOp → Frame → Doing
meaning ops frame = act_of (slice_get ops frame.place) frame.place frame.stack

-- nothing is named
abbrev pub naming : Naming ⊥ ⊥
naming = record { value_of = λ mention. None; tree_at = λ number. None }

-- Main at its first instruction
abbrev pub main : Frame
main = record { place = 0; stack = [] }

-- the thread that a reply starts, in this place
abbrev pub begun : {A : Type 0} → A → Reply → Option (ℕ × A)
begun place (says.Object object) = None
begun place (says.Kind kind) = None
begun place (says.Word word) = None
begun place (says.Thread thread) = Some (thread, place)
begun place (says.Ended has_finished) = None
begun place says.Unknown = None
begun place says.Done = None
begun place (says.Stopped why) = None
begun place says.Halted = None
begun place says.Improper = None

-- the thread that a request with its reply starts; the reply alone tells
abbrev pub starts : {A : Type 0} → A → Request → Reply → Option (ℕ × A)
starts place request reply = begun place reply

-- Where a history begins a thread: thread 0 in Main. Another one would begin there too; no program of this form starts one.
abbrev pub begin : List (Event Request Reply) → ℕ → Option Doing
begin history thread = as_process (begin_of main (starts main) history thread)

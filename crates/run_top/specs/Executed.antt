-- What is said of every run of an image.
use Rattle.std.specs.Prelude.{◌≡◌, ℕ, ◌+◌, ◌*◌, List, Bool, true, false, length, Some, slice_get, All}
use Rattle.interaction.specs.declared.history.Event.{Event}
use Rattle.interaction.specs.declared.turn.What.{What}
use Rattle.interaction.specs.declared.turn.What.TheVariants as noted
use Rattle.store_object.specs.declared.ending.Ending.{Ending}
use Rattle.store_object.specs.declared.ending.Ending.TheVariants as kept
use Rattle.store_object.specs.declared.reply.Reply.{Reply}
use Rattle.store_object.specs.declared.reply.Reply.TheVariants as says
use Rattle.store_object.specs.declared.request.Form.TheVariants.{Number}
use Rattle.store_object.specs.declared.request.Request.{Request}
use Rattle.store_object.specs.declared.request.Request.TheVariants.{Print, Finish}
use Rattle.store_object.specs.Replay.{replayed}
use Rattle.store_object.specs.Store.{is_live}
use Rattle.run_top.specs.declared.record.Turn.{Turn}

-- an executed word is a code word of the image, noted with its address; no word of the context is read or claimed
abbrev pub IsExecuted : List ℕ → What → Type 0
IsExecuted image (noted.Instr pc word) = (i : ℕ) × (pc ≡ 65536 + 4 * i) × (slice_get image i ≡ Some word)
IsExecuted image noted.Action = Unit {0}
IsExecuted image (noted.Load i) = ⊥
IsExecuted image (noted.Claim i) = ⊥

abbrev pub AllExecuted : List ℕ → List Turn → Type 0
AllExecuted image turns = All (λ t. IsExecuted image t.what) turns

-- what a program of this form asks for: numbers are printed, and the thread ends
pub data IsFirst : Request → Type 0 where
  prints : (word : ℕ) → IsFirst (Print Number word)
  leaves : IsFirst Finish

-- thread 0 asks for it, and it is done
pub record IsFirstEvent (e : Event Request Reply) : Type 0 where
  pub thread : e.thread ≡ 0
  pub request : IsFirst e.request
  pub reply : e.reply ≡ says.Done

abbrev pub AllFirst : List (Event Request Reply) → Type 0
AllFirst history = All IsFirstEvent history

-- whether thread 0 is live after a history
abbrev pub lives_after : List (Event Request Reply) → Bool
lives_after history = is_live (replayed history) 0

-- Turns exactly where there are as many turns as the limit and the thread is live; Done exactly where it has finished;
-- and nothing else
abbrev pub EndsSo : ℕ → List Turn → List (Event Request Reply) → Ending → Type 0
EndsSo limit turns history kept.Done = lives_after history ≡ false
EndsSo limit turns history (kept.Uncaught kind) = ⊥
EndsSo limit turns history kept.Turns = (length turns ≡ limit) × (lives_after history ≡ true)
EndsSo limit turns history (kept.Stopped why) = ⊥
EndsSo limit turns history (kept.Full region key) = ⊥
EndsSo limit turns history (kept.Fault fault) = ⊥

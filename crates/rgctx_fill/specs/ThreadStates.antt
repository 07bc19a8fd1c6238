-- The state of a thread, and what its next turn is. This project's own.
use Rattle.std.specs.Prelude.{ℕ, List}
use Rattle.mn_outside.specs.declared.machine.MachineFault.{MachineFault}
use Rattle.mn_outside.specs.declared.places.Region.{Region}
use Rattle.interaction.specs.declared.turn.What.{What}
use Rattle.interaction.specs.Thread.{Want}
use Rattle.interaction.specs.Thread as thread
use Rattle.store_object.specs.declared.request.Request.{Request}
use Rattle.store_object.specs.declared.reply.Reply.{Reply}
use Rattle.rgctx_template.specs.Catalogue.{CatData, data_of}
use Rattle.rgctx_words.specs.Stacks.{StackWords}
use Rattle.rv_machine.specs.declared.registers.Core.{Core}
use Rattle.rgctx_fill.specs.declared.doing.Doing.{Doing}
use Rattle.rgctx_fill.specs.declared.image.FrameCount.{FrameCount}
use Rattle.rgctx_fill.specs.declared.image.ImageView.{ImageView}

-- what turns are taken over: a catalogue, the code words of its bodies, and the counts for an interpreted frame of each method, by its number
pub record ImageData : Type 0 where
  pub cat : CatData
  pub code : List ℕ
  pub frames : List FrameCount

abbrev pub image_of : ImageView → ImageData
image_of view = record { cat = data_of view.cat; code = view.code.now; frames = view.frames.now }

-- a thread's core, its frames, and who goes on
pub record ThreadData : Type 0 where
  pub core : Core
  pub stack : StackWords
  pub doing : Doing

-- The next turn: a private one; one that needs a node's word first; the load or the claim of a word; a request; or why there is none.
pub data Move : Type 0 where
  Goes : What → ThreadData → Move
  Reads : ℕ → (ℕ → Move) → Move
  Loads : What → ℕ → (ℕ → ThreadData) → Move
  Claims : ℕ → ℕ → (ℕ → ThreadData) → Move
  Asks : Request → (Reply → ThreadData) → Move
  IsFull : Region → ℕ → Move
  Faults : MachineFault → Move
  IsOver : Move

-- the same without what it is full of, and without the cause of a fault
abbrev pub plain : Move → Want Request Reply ThreadData
plain (Goes what s) = thread.Go what s
plain (Reads i next) = thread.Read i (λ word. plain (next word))
plain (Loads what i next) = thread.Load what i next
plain (Claims i put next) = thread.Claim i put next
plain (Asks request next) = thread.Ask request next
plain (IsFull region key) = thread.Full
plain (Faults fault) = thread.Fault
plain IsOver = thread.Over

-- the state with another core, or with other frames, or where another goes on
abbrev pub with_core : ThreadData → Core → ThreadData
with_core s core = record s { core = core }

abbrev pub with_stack : ThreadData → StackWords → ThreadData
with_stack s stack = record s { stack = stack }

abbrev pub now_doing : ThreadData → Doing → ThreadData
now_doing s doing = record s { doing = doing }

-- The end of a newobj's code, behind the return of its constructor: it puts what was made into the place of the result. This project's own.
use Rattle.std.specs.Prelude.{◌≡◌, ℕ, suc, ◌+◌, ◌*◌, ◌^◌, ◌<◌, ◌≤◌, length, slice_index}
use Rattle.interaction.specs.declared.turn.What.{What}
use Rattle.interaction.specs.Thread as thread
use Rattle.cil_flow.specs.declared.plan.Plan.{Plan}
use Rattle.rgctx_words.specs.Memory.{Only}
use Rattle.rgctx_words.specs.Frames.{frame_address, most_words, most_frames}
use Rattle.rgctx_words.specs.Stacks.{mem_of}
use Rattle.rv_machine.specs.Registers.{register_of}
use Rattle.rgctx_fill.specs.declared.doing.Doing.TheVariants.{Runs}
use Rattle.rgctx_fill.specs.ThreadStates.{ImageData, ThreadData}
use Rattle.rgctx_fill.specs.ThreadTurns.{want}

-- so many private turns lead from one state to another
pub data Walk (im : ImageData) : ℕ → ThreadData → ThreadData → Type 0 where
  stays : {s : ThreadData} → Walk im 0 s s
  walks : {n : ℕ} {s t : ThreadData} (what : What) (u : ThreadData) → want im s ≡ thread.Go what u → Walk im n u t → Walk im (suc n) s t

-- words and registers have 64 bits
pub record IsSized (s : ThreadData) : Type 0 where
  pub registers : length s.core.x ≡ 32
  pub register : (r : ℕ) → register_of s.core r < 2 ^ 64
  pub word : (i : ℕ) → mem_of s.stack i < 2 ^ 64

-- a thread runs code at an address, in a frame of this plan that begins at this word
pub record RunsIn (k : Plan) (base pc : ℕ) (s : ThreadData) : Type 0 where
  pub goes : s.doing ≡ Runs
  pub here : s.core.pc ≡ pc
  pub copy : register_of s.core 8 ≡ frame_address base
  pub inside : base + k.frame ≤ length s.stack.words
  pub few : length s.stack.words ≤ most_words * most_frames
  pub sized : IsSized s

-- how many turns it takes at most
abbrev pub most_turns : ℕ
most_turns = 256

-- The thread comes to another address in the same frame, with the first words of the scratch words in a place, and no other word changed.
pub record Puts (im : ImageData) (k : Plan) (base place many next : ℕ) (s : ThreadData) : Type 0 where
  pub t : ThreadData
  pub turns : ℕ
  pub quick : turns ≤ most_turns
  pub walk : Walk im turns s t
  pub goes : t.doing ≡ Runs
  pub here : t.core.pc ≡ next
  pub copy : register_of t.core 8 ≡ register_of s.core 8
  pub bases : t.stack.bases ≡ s.stack.bases
  pub count : length t.stack.words ≡ length s.stack.words
  pub only : Only (mem_of s.stack) (mem_of t.stack) (base + slice_index k.offsets place) (slice_index k.widths place)
  pub words : (j : ℕ) → j < many → mem_of t.stack (base + slice_index k.offsets place + j) ≡ mem_of s.stack (base + k.scratch + j)
  pub sized : IsSized t

-- the code between two addresses does so in every frame of this plan
abbrev pub PutsBuilt : ImageData → Plan → (place many from next : ℕ) → Type 0
PutsBuilt im k place many from next = (base : ℕ) (s : ThreadData) → RunsIn k base from s → Puts im k base place many next s

-- A return in words of the stack: whose frame goes on, and where. This project's own.
use Rattle.std.specs.Prelude.{◌≡◌, ℕ, ◌+◌, ◌-◌, ◌<◌, ◌==◌, if◌then◌else◌, length}
use Rattle.rgctx_words.specs.Frames.{frame_address, caller_word, back_word}
use Rattle.rgctx_words.specs.Stacks.{StackWords, mem_of, base_of}
use Rattle.crossings.specs.declared.call.Left.{Left}
use Rattle.crossings.specs.declared.call.Left.TheVariants.{Machine, Interp, Last}

-- the level of the current frame, where there is one
abbrev pub current_level : StackWords → ℕ
current_level s = length s.bases - 1

-- a header word of the current frame
abbrev pub current_word : StackWords → ℕ → ℕ
current_word s k = mem_of s (base_of s (current_level s) + k)

-- the frame of this level called the current one: it stands below, and word 0 is its address
pub record IsCaller (s : StackWords) (level : ℕ) : Type 0 where
  pub below : level < current_level s
  pub is : frame_address (base_of s level) ≡ current_word s caller_word

-- there is a frame, and word 0 of the current one, unless it is the only one, names a frame below
pub record HasCaller (s : StackWords) : Type 0 where
  pub frames : 0 < length s.bases
  pub caller : 1 < length s.bases → (level : ℕ) × IsCaller s level

-- what goes on at a return pc
abbrev pub goes_back : ℕ → Left
goes_back back = if back == 0 then Interp else Machine back

-- what goes on after a return
abbrev pub left : StackWords → Left
left s = if length s.bases == 1 then Last else goes_back (current_word s back_word)

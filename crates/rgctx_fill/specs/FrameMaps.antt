-- How the frames of a process lie in a thread's frame words: by level, and within a frame by place. This project's own.
use Rattle.std.specs.Prelude.{◌≡◌, ◌≢◌, ◌⊎◌, ℕ, suc, ◌+◌, ◌*◌, ◌^◌, ◌<◌, ◌≤◌, List, length, slice_index, Option, Some, None}
use Rattle.rgctx_words.specs.Memory.{put}
use Rattle.rgctx_words.specs.Frames.{frame_address, scratch_words}
use Rattle.cil_flow.specs.declared.plan.Plan.{Plan}
use Rattle.cil_flow.specs.FramePlans.{IsPlan}
use Rattle.cil_meaning.specs.Values.{Pointer, Null, InFrame, InFresh, InObject, InStatic, Value, Plain, Managed}

-- by level: the frame word at which a frame begins, and the plan of its places
pub record FrameMap : Type 0 where
  pub base : ℕ → ℕ
  pub plan : ℕ → Plan

-- how many places a frame has, how wide one is, and its first word
abbrev pub place_count : FrameMap → ℕ → ℕ
place_count g l = length (g.plan l).offsets

abbrev pub width_at : FrameMap → ℕ → ℕ → ℕ
width_at g l p = slice_index (g.plan l).widths p

abbrev pub spot : FrameMap → ℕ → ℕ → ℕ
spot g l p = g.base l + slice_index (g.plan l).offsets p

-- the word after the last one of a frame
abbrev pub frame_end : FrameMap → ℕ → ℕ
frame_end g l = g.base l + (g.plan l).frame

-- the first of a frame's scratch words
abbrev pub scratch_at : FrameMap → ℕ → ℕ
scratch_at g l = g.base l + (g.plan l).scratch

-- a managed pointer as one word; the struct that a frame has built stands in its scratch words
abbrev pub pointer_word : FrameMap → Pointer → ℕ
pointer_word g Null = 0
pointer_word g (InFrame l p k) = frame_address (spot g l p + k)
pointer_word g (InFresh l k) = frame_address (scratch_at g l + k)
pointer_word g (InObject object index) = 2 ^ 62 + object * 2 ^ 24 + index
pointer_word g (InStatic kind index) = 2 ^ 63 + kind * 2 ^ 24 + index

-- how many words a value takes, and each of them
abbrev pub size_of : Value → ℕ
size_of (Plain kind words) = length words
size_of (Managed q) = 1

abbrev pub word_in : FrameMap → Value → ℕ → ℕ
word_in g (Plain kind words) j = slice_index words j
word_in g (Managed q) j = pointer_word g q

-- A pointer in the frame of a level leads into that frame or one below it, or to no frame. One to an empty struct has no word.
abbrev pub PointsDown : FrameMap → ℕ → Pointer → Type 0
PointsDown g l Null = Unit {0}
PointsDown g l (InFrame m p k) = (m ≤ l) × (p < place_count g m) × (k ≤ width_at g m p)
PointsDown g l (InFresh m k) = (m ≤ l) × (k ≤ scratch_words)
PointsDown g l (InObject object index) = Unit {0}
PointsDown g l (InStatic kind index) = Unit {0}

abbrev pub Leads : FrameMap → ℕ → Value → Type 0
Leads g l (Plain kind words) = Unit {0}
Leads g l (Managed q) = PointsDown g l q

-- the value lies in a place of the frame of a level
pub record Lies (g : FrameMap) (mem : ℕ → ℕ) (l p : ℕ) (v : Value) : Type 0 where
  pub fits : size_of v ≤ width_at g l p
  pub leads : Leads g l v
  pub words : (j : ℕ) → j < size_of v → mem (spot g l p + j) ≡ word_in g v j

-- a place without a value, as one past the stack's depth, may hold anything
abbrev pub Holds : FrameMap → (ℕ → ℕ) → ℕ → ℕ → Option Value → Type 0
Holds g mem l p None = Unit {0}
Holds g mem l p (Some v) = Lies g mem l p v

-- The header words that are kept: caller, return pc, method, result, instruction and length. That of the instruction is free in
-- the current frame. The last two words of a header are free in each.
pub record IsKept (top l k : ℕ) : Type 0 where
  pub word : k < 6
  pub instr : l ≡ top → k ≢ 4

-- the words of the struct that a frame has built, which begin at its scratch words
pub record HasBuilt (g : FrameMap) (mem : ℕ → ℕ) (l : ℕ) (words : List ℕ) : Type 0 where
  pub fits : length words ≤ scratch_words
  pub lie : (j : ℕ) → j < length words → mem (scratch_at g l + j) ≡ slice_index words j

-- The frames of the levels up to `top` lie one behind the other, up to the word `end`, each with these header words, these values
-- in its places, and these words of a struct that it has built. Past the end all is 0.
pub record Stacked (g : FrameMap) (head : ℕ → ℕ → ℕ) (mem : ℕ → ℕ) (end top : ℕ) (value : ℕ → ℕ → Option Value) (fresh : ℕ → List ℕ) : Type 0 where
  pub plans : (l : ℕ) → l ≤ top → IsPlan (g.plan l)
  pub next : (l : ℕ) → l < top → g.base (suc l) ≡ frame_end g l
  pub ends : end ≡ frame_end g top
  pub heads : (l k : ℕ) → l ≤ top → IsKept top l k → mem (g.base l + k) ≡ head l k
  pub held : (l p : ℕ) → l ≤ top → p < place_count g l → Holds g mem l p (value l p)
  pub built : (l : ℕ) → l ≤ top → HasBuilt g mem l (fresh l)
  pub clear : (i : ℕ) → end ≤ i → mem i ≡ 0

-- the maps agree up to this level
pub record Agree (g h : FrameMap) (top : ℕ) : Type 0 where
  pub base : (l : ℕ) → l ≤ top → h.base l ≡ g.base l
  pub plan : (l : ℕ) → l ≤ top → h.plan l ≡ g.plan l

-- another value in a place of the frame of a level
abbrev pub with_value : ℕ → ℕ → Option Value → (ℕ → ℕ → Option Value) → ℕ → ℕ → Option Value
with_value l p v value = put l (put p v (value l)) value

-- words of the current frame that no place and no kept header word has: scratch and list, the instruction, the last two of the header
abbrev pub IsFree : FrameMap → ℕ → ℕ → ℕ → Type 0
IsFree g top at many = (((scratch_at g top ≤ at) × (at + many ≤ frame_end g top)) ⊎ ((at ≡ g.base top + 4) × (many ≡ 1))) ⊎ ((g.base top + 6 ≤ at) × (at + many ≤ g.base top + 8))

-- A new frame: header words, and zeros behind them. All below it is as before.
pub record Entered (g h : FrameMap) (head head' : ℕ → ℕ → ℕ) (mem mem' : ℕ → ℕ) (end end' top : ℕ) : Type 0 where
  pub agree : Agree g h top
  pub legal : IsPlan (h.plan (suc top))
  pub base : h.base (suc top) ≡ end
  pub size : end' ≡ end + (h.plan (suc top)).frame
  pub header : (k : ℕ) → k < 6 → mem' (end + k) ≡ head' (suc top) k
  pub same : (l k : ℕ) → l ≤ top → head' l k ≡ head l k
  pub kept : (i : ℕ) → i < end → mem' i ≡ mem i
  pub zero : (i : ℕ) → end + 8 ≤ i → mem' i ≡ 0

-- a value of zeros, or none
abbrev pub IsBlank : ℕ → Option Value → Type 0
IsBlank most None = Unit {0}
IsBlank most (Some (Plain kind words)) = (length words ≤ most) × ((j : ℕ) → j < length words → slice_index words j ≡ 0)
IsBlank most (Some (Managed q)) = (1 ≤ most) × (q ≡ Null)

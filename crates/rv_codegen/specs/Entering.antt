-- The entry of a body: where a thread stands when its frame is new, and what the copy of the arguments owes. This project's own.
use Rattle.std.specs.Prelude.{◌≡◌, ℕ, zero, suc, ◌+◌, ◌*◌, ◌/◌, ◌%◌, ◌^◌, ◌<◌, ◌≤◌, ◌==◌, ◌&&◌, nat_lt, nat_le, if◌then◌else◌, List, length, Option, Some, None}
use Rattle.cil_meaning.specs.Values.{Value}
use Rattle.cil_meaning.specs.Frames.{Frame, Frames, Nothing}
use Rattle.cil_meaning.specs.Groups.{Argument}
use Rattle.rgctx_words.specs.Frames.{frame_address}
use Rattle.rgctx_words.specs.Stacks.{mem_of, base_of}
use Rattle.rv_isa.specs.Assembly.{word_count}
use Rattle.rv_machine.specs.Registers.{register_of}
use Rattle.rgctx_fill.specs.declared.doing.Doing.TheVariants.{Runs}
use Rattle.rgctx_fill.specs.ThreadStates.{ImageData, ThreadData}
use Rattle.rgctx_fill.specs.FrameMaps.{size_of, word_in, Leads, Stacked}
use Rattle.rgctx_fill.specs.Constructed.{Walk}
use Rattle.rgctx_fill.specs.Standing.{Compiled, Runner, ByRow, level_of, value_at, fresh_at, map_of, Headed, Around, Together}
use Rattle.rv_codegen.specs.PlainItems.{BodyData, argument_count, width_of, place_type, is_bool_place, is_unboxed, entry_items}
use Rattle.rv_codegen.specs.Carried.{StandFrom, code_address, IsBodyOf}

-- the word of the object of a struct's method: a box's number becomes the pointer to its word 0
abbrev pub unboxed : ℕ → ℕ
unboxed word = if word / 2 ^ 30 == 0 then (if word == 0 then word else 2 ^ 62 + word * 2 ^ 24) else word

-- a word of an argument, as its place keeps it
abbrev pub adapted : BodyData → ℕ → ℕ → ℕ
adapted b n word = if is_bool_place (place_type b (Argument n)) then word % 256 else (if is_unboxed b n then unboxed word else word)

-- the values without those in the current frame's places from one number on up to another
abbrev pub forgets : (top first last : ℕ) → (ℕ → ℕ → Option Value) → ℕ → ℕ → Option Value
forgets top first last value l p = if l == top && (nat_le first p && nat_lt p last) then None else value l p

-- how many words the places of so many arguments have, from one on
abbrev pub argument_words : BodyData → (count first : ℕ) → ℕ
argument_words b zero first = 0
argument_words b (suc n) first = width_of b first + argument_words b n (first + 1)

-- A thread stands at a body's entry, in a new frame. The frames are those of the process once the arguments are copied: until then
-- their places may hold anything. x12 is the address of a list with the address of each argument, whose words lie in the frames below.
pub record IsEntering (b : BodyData) (im : ImageData) (w : ℕ → ℕ) (c : Compiled) (row from : ℕ) (fs : Frames) (s : ThreadData) : Type 0 where
  pub top : ℕ
  pub runner : ℕ → Runner
  pub node : ℕ → ℕ
  pub head : ℕ → ℕ → ℕ
  pub around : Around im w c runner node fs s top
  pub headed : Headed im c runner node (map_of c runner s.stack) fs head top
  pub stacked : Stacked (map_of c runner s.stack) head (mem_of s.stack) (length s.stack.words) top (forgets top 0 (argument_count b) (value_at fs)) (fresh_at fs)
  pub calm : (f : Frame) → level_of fs.frames top ≡ Some f → f.awaits ≡ Nothing
  pub goes : s.doing ≡ Runs
  pub compiled : runner top ≡ ByRow row
  pub here : s.core.pc ≡ code_address from
  pub first : (f : Frame) → level_of fs.frames top ≡ Some f → f.at ≡ 0
  pub list : ℕ
  pub listed_at : register_of s.core 12 ≡ frame_address list
  pub list_below : list + argument_count b ≤ base_of s.stack top
  pub address : ℕ → ℕ
  pub listed : (n : ℕ) → n < argument_count b → mem_of s.stack (list + n) ≡ frame_address (address n)
  pub below : (n : ℕ) → n < argument_count b → address n + width_of b n ≤ base_of s.stack top
  pub fits : (n : ℕ) (v : Value) → n < argument_count b → value_at fs top n ≡ Some v → size_of v ≤ width_of b n
  pub leads : (n : ℕ) (v : Value) → n < argument_count b → value_at fs top n ≡ Some v → Leads (map_of c runner s.stack) top v
  pub words : (n i : ℕ) (v : Value) → n < argument_count b → value_at fs top n ≡ Some v → i < size_of v → adapted b n (mem_of s.stack (address n + i)) ≡ word_in (map_of c runner s.stack) v i

-- The entry's code comes to the code of instruction 0, where both stand together with the copied arguments, by private turns alone:
-- four at most for each argument, and twelve for each of its words.
pub record Copies (b : BodyData) (im : ImageData) (w : ℕ → ℕ) (c : Compiled) (fs : Frames) (s : ThreadData) : Type 0 where
  pub t : ThreadData
  pub turns : ℕ
  pub quick : turns ≤ 4 * argument_count b + 12 * argument_words b (argument_count b) 0
  pub walk : Walk im turns s t
  pub together : Together im w c fs t

-- wherever the entry's items are assembled, right before the code of instruction 0
abbrev pub EntryIsCarried : BodyData → Type 0
EntryIsCarried b =
    (im : ImageData) (c : Compiled) (row from : ℕ) (places : List (Option ℕ)) → IsBodyOf b im c row places → argument_count b ≤ length b.plan.offsets → argument_count b < 256
    → StandFrom im places from (entry_items b) → c.pc row 0 ≡ code_address (from + word_count (entry_items b))
    → (w : ℕ → ℕ) (fs : Frames) (s : ThreadData) → IsEntering b im w c row from fs s → Copies b im w c fs s

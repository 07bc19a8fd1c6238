-- A call in words of the stack: where arguments are listed, the frame that a callee begins with, and what goes on. This project's own.
use Rattle.std.specs.Prelude.{ℕ, ◌+◌, ◌-◌, ◌*◌, ◌/◌, ◌%◌, ◌<◌, ◌≤◌, ◌==◌, ◌&&◌, nat_lt, Bool, if◌then◌else◌, List, [], ◌∷◌, ◌++◌, length, map, slice_index, Option, Some, None, IsSome}
use Rattle.std.specs.List.{range_with_len}
use Rattle.il_model.specs.declared.key.BodyRow.{BodyRow}
use Rattle.rgctx_words.specs.declared.frame.NewFrame.{NewFrame}
use Rattle.rgctx_words.specs.Frames.{frame_index, header, header_count, place_words, interpreted_length, most_words, most_frames}
use Rattle.rgctx_words.specs.Stacks.{StackWords, current_address, entered}
use Rattle.crossings.specs.declared.call.CallWords.{CallWords}
use Rattle.crossings.specs.declared.call.Entered.{Entered}
use Rattle.crossings.specs.declared.call.Entered.TheVariants.{Machine, Interp, Deep}

-- ---- arguments, as their caller has them, among the words of the frames

abbrev pub word_in : List ℕ → Option ℕ → ℕ
word_in words (Some i) = slice_index words i
word_in words None = 0

-- the frame word that begins at an address; 0 where none does
abbrev pub word_at : List ℕ → ℕ → ℕ
word_at words address = word_in words (frame_index (length words) address)

-- so many words lie in the frames from an address on. Where there are none, the address may be any
pub record Lies (words : List ℕ) (address count : ℕ) : Type 0 where
  pub each : (j : ℕ) → j < count → IsSome (frame_index (length words) (address + 8 * j))

-- the address of an argument, by its number, in the list at an address
abbrev pub argument_at : List ℕ → ℕ → ℕ → ℕ
argument_at words list i = word_at words (list + 8 * i)

-- a word of an argument, by the numbers of both
abbrev pub argument_word : List ℕ → ℕ → ℕ → ℕ → ℕ
argument_word words list i j = word_at words (argument_at words list i + 8 * j)

-- a list has the address of each argument, and each has as many words there as its width says
pub record AreListed (words : List ℕ) (list : ℕ) (widths : List ℕ) : Type 0 where
  pub addresses : Lies words list (length widths)
  pub each : (i : ℕ) → i < length widths → Lies words (argument_at words list i) (slice_index widths i)

-- ---- the callee's frame

-- the most places of a method, and the most arguments of a call in its body
abbrev pub most_places : ℕ
most_places = 120

-- the arguments that a callee may have: no more than it has places, each of at most 16 words
pub record AreWidths (widths : List ℕ) (places : ℕ) : Type 0 where
  pub few : length widths ≤ places
  pub each : (i : ℕ) → i < length widths → slice_index widths i ≤ place_words

-- the frame of a body has room for its header, and is not too long
pub record IsBodyFrame (words : ℕ) : Type 0 where
  pub low : header_count ≤ words
  pub high : words ≤ most_words

-- what a callee's frame of this length begins with
abbrev pub callee_frame : CallWords → ℕ → NewFrame
callee_frame call words = record { back = call.back; node = call.node; target = call.result; words = words }

-- whether place i of an interpreted frame has an argument's word at j
abbrev pub has_word : List ℕ → ℕ → ℕ → Bool
has_word widths i j = nat_lt i (length widths) && nat_lt j (slice_index widths i)

-- the words of an interpreted callee's frame, by number: the header; then 16 words a place, an argument's at the place's beginning; zeros elsewhere
abbrev pub place_word : List ℕ → ℕ → List ℕ → ℕ → ℕ → ℕ
place_word words list widths i j = if has_word widths i j then argument_word words list i j else 0

abbrev pub interpreted_word : StackWords → ℕ → List ℕ → NewFrame → ℕ → ℕ
interpreted_word s list widths f k =
    if nat_lt k header_count then header (current_address s) f k
    else place_word s.words list widths ((k - header_count) / place_words) ((k - header_count) % place_words)

-- the words of a callee's frame, by number: a body's frame has zeros behind its header
abbrev pub callee_word : StackWords → CallWords → Option BodyRow → ℕ → ℕ → List ℕ → ℕ → ℕ
callee_word s call (Some row) places list widths = header (current_address s) (callee_frame call row.frame)
callee_word s call None places list widths = interpreted_word s call.list widths (callee_frame call (interpreted_length places list))

-- the stack with a frame on top that has these words by number
abbrev pub with_frame : StackWords → ℕ → (ℕ → ℕ) → StackWords
with_frame s count word = record {
  words = s.words ++ map word (range_with_len 0 count);
  bases = s.bases ++ length s.words ∷ [];
}

abbrev pub called_interpreted : StackWords → CallWords → ℕ → List ℕ → StackWords
called_interpreted s call count widths = with_frame s count (interpreted_word s call.list widths (callee_frame call count))

-- the stack after a call that is not too deep. A body copies its arguments itself, from the list; the interpreter finds them in its places
abbrev pub called : StackWords → CallWords → Option BodyRow → ℕ → ℕ → List ℕ → StackWords
called s call (Some row) places list widths = entered s (callee_frame call row.frame)
called s call None places list widths = called_interpreted s call (interpreted_length places list) widths

-- the stack after a call
abbrev pub after_call : StackWords → CallWords → Option BodyRow → ℕ → ℕ → List ℕ → StackWords
after_call s call row places list widths = if length s.bases == most_frames then s else called s call row places list widths

-- ---- what goes on

-- the address of a code word, in bytes
abbrev pub code_address : ℕ → ℕ
code_address i = 0x10000 + 4 * i

abbrev pub goes_on : Option BodyRow → Entered
goes_on (Some row) = Machine (code_address row.entry)
goes_on None = Interp

abbrev pub entered_as : StackWords → Option BodyRow → Entered
entered_as s row = if length s.bases == most_frames then Deep else goes_on row

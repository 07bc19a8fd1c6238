-- Frames in words: where they lie, their header, and the places of an interpreted frame. This project's own.
use Rattle.std.specs.Prelude.{ℕ, ◌+◌, ◌*◌, List, [], ◌∷◌, slice_index, Option}
use Rattle.rgctx_words.specs.declared.frame.NewFrame.{NewFrame}
use Rattle.rgctx_words.specs.Regions.{unit_at}

-- the address of a thread's first frame word
unfoldable pub frames_at : ℕ
frames_at = 0x40000000

-- the address of a frame word
abbrev pub frame_address : ℕ → ℕ
frame_address i = frames_at + 8 * i

-- the frame word that begins at an address, of so many
abbrev pub frame_index : ℕ → ℕ → Option ℕ
frame_index end address = unit_at frames_at 8 end address

-- the words of a header, by name: the caller's frame, the return pc, the method's node, where the result goes, the CIL instruction, and the frame's length
abbrev pub caller_word : ℕ
caller_word = 0

abbrev pub back_word : ℕ
back_word = 1

abbrev pub method_word : ℕ
method_word = 2

abbrev pub result_word : ℕ
result_word = 3

abbrev pub instr_word : ℕ
instr_word = 4

abbrev pub length_word : ℕ
length_word = 5

-- the words of a header; the last two are zero
abbrev pub header_count : ℕ
header_count = 8

abbrev pub header_words : ℕ → NewFrame → List ℕ
header_words caller f = caller ∷ f.back ∷ f.node ∷ f.target ∷ 0 ∷ f.words ∷ 0 ∷ 0 ∷ []

-- a new frame's words by number: its header, then zeros
abbrev pub header : ℕ → NewFrame → ℕ → ℕ
header caller f k = slice_index (header_words caller f) k

-- a frame has at most so many words, and a thread at most so many frames
abbrev pub most_words : ℕ
most_words = 2064

abbrev pub most_frames : ℕ
most_frames = 1024

-- each place of an interpreted frame has as many words as the largest value
abbrev pub place_words : ℕ
place_words = 16

abbrev pub scratch_words : ℕ
scratch_words = 16

-- where, in words from the frame's beginning, a place of an interpreted frame lies, and what follows the places
abbrev pub place_offset : ℕ → ℕ
place_offset place = header_count + place_words * place

abbrev pub scratch_offset : ℕ → ℕ
scratch_offset places = place_offset places

abbrev pub list_offset : ℕ → ℕ
list_offset places = scratch_offset places + scratch_words

abbrev pub interpreted_length : ℕ → ℕ → ℕ
interpreted_length places list = list_offset places + list

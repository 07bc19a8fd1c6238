-- What a thread's loads and stores reach: its frames in any size, and context words by loads of eight bytes. This project's own.
use Rattle.std.specs.Prelude.{ℕ, ◌+◌, ◌-◌, ◌*◌, ◌/◌, ◌%◌, ◌^◌, Option, option_map}
use Rattle.rgctx_words.specs.Regions.{unit_at}
use Rattle.rgctx_words.specs.Frames.{frames_at}
use Rattle.rgctx_words.specs.Stacks.{StackWords, mem_of, with_word}
use Rattle.std.specs.Prelude.{length}
use Rattle.rv_machine.specs.declared.size.Size.{Size}
use Rattle.rv_machine.specs.declared.size.Size.TheVariants.{One, Two, Four, Eight}

-- the bytes of a word, so many at a time: piece k of it, and the word with another one
abbrev pub piece_of : ℕ → ℕ → ℕ → ℕ
piece_of bytes k word = word / 2 ^ (8 * bytes * k) % 2 ^ (8 * bytes)

abbrev pub with_piece : ℕ → ℕ → ℕ → ℕ → ℕ
with_piece bytes k new word = word - piece_of bytes k word * 2 ^ (8 * bytes * k) + new * 2 ^ (8 * bytes * k)

-- which unit of so many bytes of the frames begins at an address: there are eight bytes in a word
abbrev pub unit_of : ℕ → StackWords → ℕ → Option ℕ
unit_of bytes stack address = unit_at frames_at bytes (length stack.words * (8 / bytes)) address

-- unit number u, of so many bytes, lies in word u / (8 / bytes)
abbrev pub unit_read : ℕ → StackWords → ℕ → ℕ
unit_read bytes stack u = piece_of bytes (u % (8 / bytes)) (mem_of stack (u / (8 / bytes)))

abbrev pub unit_written : ℕ → StackWords → ℕ → ℕ → StackWords
unit_written bytes stack new u = with_word stack (u / (8 / bytes)) (with_piece bytes (u % (8 / bytes)) new (mem_of stack (u / (8 / bytes))))

-- what a load reads in the frames
abbrev pub frame_read : Size → StackWords → ℕ → Option ℕ
frame_read Eight stack address = option_map (mem_of stack) (unit_of 8 stack address)
frame_read Four stack address = option_map (unit_read 4 stack) (unit_of 4 stack address)
frame_read Two stack address = option_map (unit_read 2 stack) (unit_of 2 stack address)
frame_read One stack address = option_map (unit_read 1 stack) (unit_of 1 stack address)

-- the frames after a store
abbrev pub frame_written : Size → StackWords → ℕ → ℕ → Option StackWords
frame_written Eight stack address new = option_map (λ i. with_word stack i new) (unit_of 8 stack address)
frame_written Four stack address new = option_map (unit_written 4 stack new) (unit_of 4 stack address)
frame_written Two stack address new = option_map (unit_written 2 stack new) (unit_of 2 stack address)
frame_written One stack address new = option_map (unit_written 1 stack new) (unit_of 1 stack address)

-- The instructions that load, store and move words of the current frame, whose address x8 holds. This project's own.
use Rattle.std.specs.Prelude.{ℕ, zero, suc, ◌+◌, ◌*◌, ◌/◌, ◌%◌, nat_lt, Bool, if◌then◌else◌, List, [], ◌∷◌, ◌++◌}
use Rattle.rv_isa.specs.declared.instr.Instr.{Instr}
use Rattle.rv_isa.specs.declared.instr.Instr.TheVariants.{Ld, Sd, Addi, Add, Lui}

-- whether the immediate of a load or store reaches a word of the frame from its beginning
abbrev pub is_near : ℕ → Bool
is_near offset = nat_lt offset 256

-- the upper bits of an offset in bytes, for lower twelve bits that count as a signed number
abbrev pub upper_of : ℕ → ℕ
upper_of offset = (8 * offset + 2048) / 4096

-- x7 is the address of a word further on, but for the lower twelve bits
abbrev pub far_base : ℕ → List Instr
far_base offset = Lui 7 (upper_of offset) ∷ Add 7 7 8 ∷ []

-- a register takes the word at an offset of the frame, in words
abbrev pub loads_word : (rd offset : ℕ) → List Instr
loads_word rd offset = if is_near offset then Ld rd 8 (8 * offset) ∷ [] else far_base offset ++ Ld rd 7 (8 * offset % 4096) ∷ []

-- the word at an offset of the frame takes a register's
abbrev pub stores_word : (rs offset : ℕ) → List Instr
stores_word rs offset = if is_near offset then Sd rs 8 (8 * offset) ∷ [] else far_base offset ++ Sd rs 7 (8 * offset % 4096) ∷ []

-- so many words are moved, one after the other, over x6
abbrev pub moves_words : (count from to : ℕ) → List Instr
moves_words zero from to = []
moves_words (suc n) from to = (loads_word 6 from ++ stores_word 6 to) ++ moves_words n (from + 1) (to + 1)

-- a register takes the address of a word of the frame
abbrev pub addresses_word : (rd offset : ℕ) → List Instr
addresses_word rd offset = if is_near offset then Addi rd 8 (8 * offset) ∷ [] else far_base offset ++ Addi rd 7 (8 * offset % 4096) ∷ []

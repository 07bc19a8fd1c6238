-- From instructions to code words.
use Rattle.std.specs.Prelude.{ℕ, ◌+◌, ◌-◌, ◌*◌, ◌/◌, ◌%◌, List, [], ◌∷◌, ◌++◌, map}
use Rattle.run_top.specs.declared.first.FirstOp.{FirstOp}
use Rattle.run_top.specs.declared.first.FirstOp.TheVariants.{Push, Add, Print, Ret}
use Rattle.run_top.specs.WellFormed.{depth_after, deepest}
use Rattle.rv_isa.specs.declared.instr.Instr.{Instr}
use Rattle.rv_isa.specs.declared.instr.Instr.TheVariants.{Addi, Addiw, Lui, Ld, Sd, Addw, Ecall, Ebreak}
use Rattle.rv_isa.specs.Word.{word_of}
use Rattle.run_top.specs.Values.{low_32}

-- a stack place, in bytes from the frame's start: eight words stand before the places
abbrev pub offset : ℕ → ℕ
offset place = 64 + 8 * place

-- the high twenty bits that LUI takes, where ADDIW adds the low twelve with their sign
abbrev pub high_bits : ℕ → ℕ
high_bits n = (n + 2048) / 4096 % 1048576

-- an instruction at a depth of the stack; x8 is the frame's address
abbrev pub op_code : FirstOp → ℕ → List Instr
op_code (Push n) depth = Lui 5 (high_bits (low_32 n)) ∷ Addiw 5 5 (low_32 n % 4096) ∷ Sd 5 8 (offset depth) ∷ []
op_code Add depth = Ld 5 8 (offset (depth - 2)) ∷ Ld 6 8 (offset (depth - 1)) ∷ Addw 5 5 6 ∷ Sd 5 8 (offset (depth - 2)) ∷ []
op_code Print depth = Ld 10 8 (offset (depth - 1)) ∷ Addi 11 0 0 ∷ Addi 17 0 24 ∷ Ecall ∷ []
op_code Ret depth = Addi 17 0 2 ∷ Ecall ∷ []

-- from a depth of the stack on
abbrev pub instrs_of : ℕ → List FirstOp → List Instr
instrs_of depth [] = []
instrs_of depth (op ∷ ops) = op_code op depth ++ instrs_of (depth_after op depth) ops

-- code word 0 is EBREAK, and word 1 is where Main begins
abbrev pub image_of : List FirstOp → List ℕ
image_of ops = word_of Ebreak ∷ map word_of (instrs_of 0 ops)

-- the words of Main's frame: eight at its head, a place for each value of the deepest stack, sixteen of scratch; there are no arguments
abbrev pub frame_words : List FirstOp → ℕ
frame_words ops = 8 + deepest 0 ops + 16

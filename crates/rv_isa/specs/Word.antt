-- The words of the six formats as sums of their fields, and the fields of a word. RISC-V unprivileged ISA.
use Rattle.std.specs.Prelude.{ℕ, ◌+◌, ◌*◌, ◌/◌, ◌%◌}
use Rattle.rv_isa.specs.declared.instr.Instr.{Instr}
use Rattle.rv_isa.specs.declared.row.Row.{Row}
use Rattle.rv_isa.specs.declared.row.Row.TheVariants.{R, I, LongShift, ShortShift, S, B, U, J, Whole}
use Rattle.rv_isa.specs.Row.{row_of}

-- format R: funct7, rs2, rs1, funct3, rd, opcode
abbrev pub r_word : ℕ → ℕ → ℕ → ℕ → ℕ → ℕ → ℕ
r_word funct7 rs2 rs1 funct3 rd opcode =
    33554432 * funct7 + 1048576 * rs2 + 32768 * rs1 + 4096 * funct3 + 128 * rd + opcode

-- format I: imm[11:0], rs1, funct3, rd, opcode
abbrev pub i_word : ℕ → ℕ → ℕ → ℕ → ℕ → ℕ
i_word imm rs1 funct3 rd opcode = 1048576 * imm + 32768 * rs1 + 4096 * funct3 + 128 * rd + opcode

-- format S: imm[11:5], rs2, rs1, funct3, imm[4:0], opcode
abbrev pub s_word : ℕ → ℕ → ℕ → ℕ → ℕ → ℕ
s_word imm rs2 rs1 funct3 opcode =
    33554432 * (imm / 32) + 1048576 * rs2 + 32768 * rs1 + 4096 * funct3 + 128 * (imm % 32) + opcode

-- format B: imm[12], imm[10:5], rs2, rs1, funct3, imm[4:1], imm[11], opcode
abbrev pub b_word : ℕ → ℕ → ℕ → ℕ → ℕ → ℕ
b_word offset rs2 rs1 funct3 opcode =
    2147483648 * (offset / 4096) + 33554432 * (offset / 32 % 64) + 1048576 * rs2 + 32768 * rs1 + 4096 * funct3
    + 256 * (offset / 2 % 16) + 128 * (offset / 2048 % 2) + opcode

-- format U: imm[31:12], rd, opcode
abbrev pub u_word : ℕ → ℕ → ℕ → ℕ
u_word imm rd opcode = 4096 * imm + 128 * rd + opcode

-- format J: imm[20], imm[10:1], imm[11], imm[19:12], rd, opcode
abbrev pub j_word : ℕ → ℕ → ℕ → ℕ
j_word offset rd opcode =
    2147483648 * (offset / 1048576) + 2097152 * (offset / 2 % 1024) + 1048576 * (offset / 2048 % 2)
    + 4096 * (offset / 4096 % 256) + 128 * rd + opcode

-- the word of a row
abbrev pub row_word : Row → ℕ
row_word (R funct7 rs2 rs1 funct3 rd opcode) = r_word funct7 rs2 rs1 funct3 rd opcode
row_word (I imm rs1 funct3 rd opcode) = i_word imm rs1 funct3 rd opcode
row_word (LongShift top count rs1 funct3 rd opcode) = i_word (64 * top + count) rs1 funct3 rd opcode
row_word (ShortShift top count rs1 funct3 rd opcode) = i_word (32 * top + count) rs1 funct3 rd opcode
row_word (S imm rs2 rs1 funct3 opcode) = s_word imm rs2 rs1 funct3 opcode
row_word (B offset rs2 rs1 funct3 opcode) = b_word offset rs2 rs1 funct3 opcode
row_word (U imm rd opcode) = u_word imm rd opcode
row_word (J offset rd opcode) = j_word offset rd opcode
row_word (Whole word) = word

-- the word of an instruction
abbrev pub word_of : Instr → ℕ
word_of instr = row_word (row_of instr)

abbrev pub opcode_of : ℕ → ℕ
opcode_of word = word % 128

abbrev pub rd_of : ℕ → ℕ
rd_of word = word / 128 % 32

abbrev pub funct3_of : ℕ → ℕ
funct3_of word = word / 4096 % 8

abbrev pub rs1_of : ℕ → ℕ
rs1_of word = word / 32768 % 32

abbrev pub rs2_of : ℕ → ℕ
rs2_of word = word / 1048576 % 32

abbrev pub funct7_of : ℕ → ℕ
funct7_of word = word / 33554432

-- the six bits above a count of six bits, and that count
abbrev pub funct6_of : ℕ → ℕ
funct6_of word = word / 67108864

abbrev pub count6_of : ℕ → ℕ
count6_of word = word / 1048576 % 64

abbrev pub i_imm_of : ℕ → ℕ
i_imm_of word = word / 1048576

abbrev pub s_imm_of : ℕ → ℕ
s_imm_of word = 32 * (word / 33554432) + word / 128 % 32

abbrev pub b_offset_of : ℕ → ℕ
b_offset_of word =
    4096 * (word / 2147483648) + 2048 * (word / 128 % 2) + 32 * (word / 33554432 % 64) + 2 * (word / 256 % 16)

abbrev pub u_imm_of : ℕ → ℕ
u_imm_of word = word / 4096

abbrev pub j_offset_of : ℕ → ℕ
j_offset_of word =
    1048576 * (word / 2147483648) + 4096 * (word / 4096 % 256) + 2048 * (word / 1048576 % 2) + 2 * (word / 2097152 % 1024)

-- The instruction of a word, found by its fields.
use Rattle.std.specs.Prelude.{◌≡◌, ◌≢◌, ◌==◌, if◌then◌else◌, ℕ, Option, Some, None}
use Rattle.rv_isa.specs.declared.instr.Instr.{Instr}
use Rattle.rv_isa.specs.declared.instr.Instr.TheVariants.{Lb, Lh, Lw, Ld, Lbu, Lhu, Lwu, Sb, Sh, Sw, Sd, Addi, Slli, Slti, Sltiu, Xori, Srli, Srai, Ori, Andi, Addiw, Slliw, Srliw, Sraiw, Add, Sll, Slt, Sltu, Xor, Srl, Or, And, Sub, Sra, Mul, Mulh, Mulhsu, Mulhu, Div, Divu, Rem, Remu, Addw, Sllw, Srlw, Subw, Sraw, Mulw, Divw, Divuw, Remw, Remuw, Beq, Bne, Blt, Bge, Bltu, Bgeu, Jalr, Jal, Lui, Auipc, Ecall, Ebreak}
use Rattle.rv_isa.specs.Row.{IsRow}
use Rattle.rv_isa.specs.Word.{word_of, opcode_of, rd_of, funct3_of, rs1_of, rs2_of, funct7_of, funct6_of, count6_of, i_imm_of, s_imm_of, b_offset_of, u_imm_of, j_offset_of}

-- the instruction of a word, where there is one: None exactly where no instruction has that word
abbrev pub Decodes : Option Instr → ℕ → Type 0
Decodes (Some instr) word = IsRow instr × (word_of instr ≡ word)
Decodes None word = (instr : Instr) → IsRow instr → word_of instr ≢ word

-- opcode LOAD
abbrev pub load_of : ℕ → Option Instr
load_of word =
    if funct3_of word == 0 then Some (Lb (rd_of word) (rs1_of word) (i_imm_of word))
    else (if funct3_of word == 1 then Some (Lh (rd_of word) (rs1_of word) (i_imm_of word))
    else (if funct3_of word == 2 then Some (Lw (rd_of word) (rs1_of word) (i_imm_of word))
    else (if funct3_of word == 3 then Some (Ld (rd_of word) (rs1_of word) (i_imm_of word))
    else (if funct3_of word == 4 then Some (Lbu (rd_of word) (rs1_of word) (i_imm_of word))
    else (if funct3_of word == 5 then Some (Lhu (rd_of word) (rs1_of word) (i_imm_of word))
    else (if funct3_of word == 6 then Some (Lwu (rd_of word) (rs1_of word) (i_imm_of word))
    else None))))))

-- opcode STORE
abbrev pub store_of : ℕ → Option Instr
store_of word =
    if funct3_of word == 0 then Some (Sb (rs2_of word) (rs1_of word) (s_imm_of word))
    else (if funct3_of word == 1 then Some (Sh (rs2_of word) (rs1_of word) (s_imm_of word))
    else (if funct3_of word == 2 then Some (Sw (rs2_of word) (rs1_of word) (s_imm_of word))
    else (if funct3_of word == 3 then Some (Sd (rs2_of word) (rs1_of word) (s_imm_of word))
    else None)))

-- left shifts by an immediate on 64 bits
abbrev pub left_shift_of : ℕ → Option Instr
left_shift_of word =
    if funct6_of word == 0 then Some (Slli (rd_of word) (rs1_of word) (count6_of word))
    else None

-- right shifts by an immediate on 64 bits
abbrev pub right_shift_of : ℕ → Option Instr
right_shift_of word =
    if funct6_of word == 0 then Some (Srli (rd_of word) (rs1_of word) (count6_of word))
    else (if funct6_of word == 16 then Some (Srai (rd_of word) (rs1_of word) (count6_of word))
    else None)

-- opcode OP-IMM
abbrev pub immediate_of : ℕ → Option Instr
immediate_of word =
    if funct3_of word == 0 then Some (Addi (rd_of word) (rs1_of word) (i_imm_of word))
    else (if funct3_of word == 1 then left_shift_of word
    else (if funct3_of word == 2 then Some (Slti (rd_of word) (rs1_of word) (i_imm_of word))
    else (if funct3_of word == 3 then Some (Sltiu (rd_of word) (rs1_of word) (i_imm_of word))
    else (if funct3_of word == 4 then Some (Xori (rd_of word) (rs1_of word) (i_imm_of word))
    else (if funct3_of word == 5 then right_shift_of word
    else (if funct3_of word == 6 then Some (Ori (rd_of word) (rs1_of word) (i_imm_of word))
    else Some (Andi (rd_of word) (rs1_of word) (i_imm_of word))))))))

-- left shifts by an immediate on 32 bits
abbrev pub left_shift_32_of : ℕ → Option Instr
left_shift_32_of word =
    if funct7_of word == 0 then Some (Slliw (rd_of word) (rs1_of word) (rs2_of word))
    else None

-- right shifts by an immediate on 32 bits
abbrev pub right_shift_32_of : ℕ → Option Instr
right_shift_32_of word =
    if funct7_of word == 0 then Some (Srliw (rd_of word) (rs1_of word) (rs2_of word))
    else (if funct7_of word == 32 then Some (Sraiw (rd_of word) (rs1_of word) (rs2_of word))
    else None)

-- opcode OP-IMM-32
abbrev pub immediate_32_of : ℕ → Option Instr
immediate_32_of word =
    if funct3_of word == 0 then Some (Addiw (rd_of word) (rs1_of word) (i_imm_of word))
    else (if funct3_of word == 1 then left_shift_32_of word
    else (if funct3_of word == 5 then right_shift_32_of word
    else None))

-- opcode OP with funct7 0000000
abbrev pub plain_of : ℕ → Option Instr
plain_of word =
    if funct3_of word == 0 then Some (Add (rd_of word) (rs1_of word) (rs2_of word))
    else (if funct3_of word == 1 then Some (Sll (rd_of word) (rs1_of word) (rs2_of word))
    else (if funct3_of word == 2 then Some (Slt (rd_of word) (rs1_of word) (rs2_of word))
    else (if funct3_of word == 3 then Some (Sltu (rd_of word) (rs1_of word) (rs2_of word))
    else (if funct3_of word == 4 then Some (Xor (rd_of word) (rs1_of word) (rs2_of word))
    else (if funct3_of word == 5 then Some (Srl (rd_of word) (rs1_of word) (rs2_of word))
    else (if funct3_of word == 6 then Some (Or (rd_of word) (rs1_of word) (rs2_of word))
    else Some (And (rd_of word) (rs1_of word) (rs2_of word))))))))

-- opcode OP with funct7 0100000
abbrev pub other_of : ℕ → Option Instr
other_of word =
    if funct3_of word == 0 then Some (Sub (rd_of word) (rs1_of word) (rs2_of word))
    else (if funct3_of word == 5 then Some (Sra (rd_of word) (rs1_of word) (rs2_of word))
    else None)

-- opcode OP with funct7 0000001
abbrev pub product_of : ℕ → Option Instr
product_of word =
    if funct3_of word == 0 then Some (Mul (rd_of word) (rs1_of word) (rs2_of word))
    else (if funct3_of word == 1 then Some (Mulh (rd_of word) (rs1_of word) (rs2_of word))
    else (if funct3_of word == 2 then Some (Mulhsu (rd_of word) (rs1_of word) (rs2_of word))
    else (if funct3_of word == 3 then Some (Mulhu (rd_of word) (rs1_of word) (rs2_of word))
    else (if funct3_of word == 4 then Some (Div (rd_of word) (rs1_of word) (rs2_of word))
    else (if funct3_of word == 5 then Some (Divu (rd_of word) (rs1_of word) (rs2_of word))
    else (if funct3_of word == 6 then Some (Rem (rd_of word) (rs1_of word) (rs2_of word))
    else Some (Remu (rd_of word) (rs1_of word) (rs2_of word))))))))

-- opcode OP
abbrev pub register_of : ℕ → Option Instr
register_of word =
    if funct7_of word == 0 then plain_of word
    else (if funct7_of word == 32 then other_of word
    else (if funct7_of word == 1 then product_of word
    else None))

-- opcode OP-32 with funct7 0000000
abbrev pub plain_32_of : ℕ → Option Instr
plain_32_of word =
    if funct3_of word == 0 then Some (Addw (rd_of word) (rs1_of word) (rs2_of word))
    else (if funct3_of word == 1 then Some (Sllw (rd_of word) (rs1_of word) (rs2_of word))
    else (if funct3_of word == 5 then Some (Srlw (rd_of word) (rs1_of word) (rs2_of word))
    else None))

-- opcode OP-32 with funct7 0100000
abbrev pub other_32_of : ℕ → Option Instr
other_32_of word =
    if funct3_of word == 0 then Some (Subw (rd_of word) (rs1_of word) (rs2_of word))
    else (if funct3_of word == 5 then Some (Sraw (rd_of word) (rs1_of word) (rs2_of word))
    else None)

-- opcode OP-32 with funct7 0000001
abbrev pub product_32_of : ℕ → Option Instr
product_32_of word =
    if funct3_of word == 0 then Some (Mulw (rd_of word) (rs1_of word) (rs2_of word))
    else (if funct3_of word == 4 then Some (Divw (rd_of word) (rs1_of word) (rs2_of word))
    else (if funct3_of word == 5 then Some (Divuw (rd_of word) (rs1_of word) (rs2_of word))
    else (if funct3_of word == 6 then Some (Remw (rd_of word) (rs1_of word) (rs2_of word))
    else (if funct3_of word == 7 then Some (Remuw (rd_of word) (rs1_of word) (rs2_of word))
    else None))))

-- opcode OP-32
abbrev pub register_32_of : ℕ → Option Instr
register_32_of word =
    if funct7_of word == 0 then plain_32_of word
    else (if funct7_of word == 32 then other_32_of word
    else (if funct7_of word == 1 then product_32_of word
    else None))

-- opcode BRANCH
abbrev pub branch_of : ℕ → Option Instr
branch_of word =
    if funct3_of word == 0 then Some (Beq (rs1_of word) (rs2_of word) (b_offset_of word))
    else (if funct3_of word == 1 then Some (Bne (rs1_of word) (rs2_of word) (b_offset_of word))
    else (if funct3_of word == 4 then Some (Blt (rs1_of word) (rs2_of word) (b_offset_of word))
    else (if funct3_of word == 5 then Some (Bge (rs1_of word) (rs2_of word) (b_offset_of word))
    else (if funct3_of word == 6 then Some (Bltu (rs1_of word) (rs2_of word) (b_offset_of word))
    else (if funct3_of word == 7 then Some (Bgeu (rs1_of word) (rs2_of word) (b_offset_of word))
    else None)))))

-- opcode JALR
abbrev pub jalr_of : ℕ → Option Instr
jalr_of word =
    if funct3_of word == 0 then Some (Jalr (rd_of word) (rs1_of word) (i_imm_of word))
    else None

-- opcode SYSTEM
abbrev pub system_of : ℕ → Option Instr
system_of word =
    if word == 115 then Some Ecall
    else (if word == 1048691 then Some Ebreak
    else None)

-- the instruction of a word
abbrev pub decode_of : ℕ → Option Instr
decode_of word =
    if opcode_of word == 3 then load_of word
    else (if opcode_of word == 35 then store_of word
    else (if opcode_of word == 19 then immediate_of word
    else (if opcode_of word == 27 then immediate_32_of word
    else (if opcode_of word == 51 then register_of word
    else (if opcode_of word == 59 then register_32_of word
    else (if opcode_of word == 99 then branch_of word
    else (if opcode_of word == 103 then jalr_of word
    else (if opcode_of word == 111 then Some (Jal (rd_of word) (j_offset_of word))
    else (if opcode_of word == 55 then Some (Lui (rd_of word) (u_imm_of word))
    else (if opcode_of word == 23 then Some (Auipc (rd_of word) (u_imm_of word))
    else (if opcode_of word == 115 then system_of word
    else None)))))))))))

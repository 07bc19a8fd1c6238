-- Reading a word that was written gives the instruction.
use Rattle.std.proofs.Common.{◌≡◌, Some, refl, lit<}
use Rattle.rv_isa.specs.declared.instr.Instr.{Instr}
use Rattle.rv_isa.specs.declared.instr.Instr.TheVariants.{Lb, Lh, Lw, Ld, Lbu, Lhu, Lwu, Sb, Sh, Sw, Sd, Addi, Slli, Slti, Sltiu, Xori, Srli, Srai, Ori, Andi, Addiw, Slliw, Srliw, Sraiw, Add, Sll, Slt, Sltu, Xor, Srl, Or, And, Sub, Sra, Mul, Mulh, Mulhsu, Mulhu, Div, Divu, Rem, Remu, Addw, Sllw, Srlw, Subw, Sraw, Mulw, Divw, Divuw, Remw, Remuw, Beq, Bne, Blt, Bge, Bltu, Bgeu, Jalr, Jal, Lui, Auipc, Ecall, Ebreak}
use Rattle.rv_isa.specs.Row.{IsRow}
use Rattle.rv_isa.specs.Word.{word_of}
use Rattle.rv_isa.specs.Reading.{decode_of}
use Rattle.rv_isa.proofs.WordLemmas.{i_opcode, i_funct3, i_rd, i_rs1, i_imm, s_opcode, s_funct3, s_rs1, s_rs2, s_imm, long_opcode, long_funct3, long_funct6, long_rd, long_rs1, long_count6, short_opcode, short_funct3, short_funct7, short_rd, short_rs1, short_rs2, r_opcode, r_funct3, r_funct7, r_rd, r_rs1, r_rs2, b_opcode, b_funct3, b_rs1, b_rs2, b_offset, j_opcode, j_rd, j_offset, u_opcode, u_rd, u_imm}

pub decodes : (instr : Instr) → IsRow instr → decode_of (word_of instr) ≡ Some instr
decodes (Lb rd rs1 imm) h =
    rw (i_opcode imm rs1 0 rd 3 h (lit< tt, lit< tt), i_funct3 imm rs1 0 rd 3 h (lit< tt, lit< tt), i_rd imm rs1 0 rd 3 h (lit< tt, lit< tt), i_rs1 imm rs1 0 rd 3 h (lit< tt, lit< tt), i_imm imm rs1 0 rd 3 h (lit< tt, lit< tt)) refl
decodes (Lh rd rs1 imm) h =
    rw (i_opcode imm rs1 1 rd 3 h (lit< tt, lit< tt), i_funct3 imm rs1 1 rd 3 h (lit< tt, lit< tt), i_rd imm rs1 1 rd 3 h (lit< tt, lit< tt), i_rs1 imm rs1 1 rd 3 h (lit< tt, lit< tt), i_imm imm rs1 1 rd 3 h (lit< tt, lit< tt)) refl
decodes (Lw rd rs1 imm) h =
    rw (i_opcode imm rs1 2 rd 3 h (lit< tt, lit< tt), i_funct3 imm rs1 2 rd 3 h (lit< tt, lit< tt), i_rd imm rs1 2 rd 3 h (lit< tt, lit< tt), i_rs1 imm rs1 2 rd 3 h (lit< tt, lit< tt), i_imm imm rs1 2 rd 3 h (lit< tt, lit< tt)) refl
decodes (Ld rd rs1 imm) h =
    rw (i_opcode imm rs1 3 rd 3 h (lit< tt, lit< tt), i_funct3 imm rs1 3 rd 3 h (lit< tt, lit< tt), i_rd imm rs1 3 rd 3 h (lit< tt, lit< tt), i_rs1 imm rs1 3 rd 3 h (lit< tt, lit< tt), i_imm imm rs1 3 rd 3 h (lit< tt, lit< tt)) refl
decodes (Lbu rd rs1 imm) h =
    rw (i_opcode imm rs1 4 rd 3 h (lit< tt, lit< tt), i_funct3 imm rs1 4 rd 3 h (lit< tt, lit< tt), i_rd imm rs1 4 rd 3 h (lit< tt, lit< tt), i_rs1 imm rs1 4 rd 3 h (lit< tt, lit< tt), i_imm imm rs1 4 rd 3 h (lit< tt, lit< tt)) refl
decodes (Lhu rd rs1 imm) h =
    rw (i_opcode imm rs1 5 rd 3 h (lit< tt, lit< tt), i_funct3 imm rs1 5 rd 3 h (lit< tt, lit< tt), i_rd imm rs1 5 rd 3 h (lit< tt, lit< tt), i_rs1 imm rs1 5 rd 3 h (lit< tt, lit< tt), i_imm imm rs1 5 rd 3 h (lit< tt, lit< tt)) refl
decodes (Lwu rd rs1 imm) h =
    rw (i_opcode imm rs1 6 rd 3 h (lit< tt, lit< tt), i_funct3 imm rs1 6 rd 3 h (lit< tt, lit< tt), i_rd imm rs1 6 rd 3 h (lit< tt, lit< tt), i_rs1 imm rs1 6 rd 3 h (lit< tt, lit< tt), i_imm imm rs1 6 rd 3 h (lit< tt, lit< tt)) refl
decodes (Sb rs2 rs1 imm) h =
    rw (s_opcode imm rs2 rs1 0 35 h (lit< tt, lit< tt), s_funct3 imm rs2 rs1 0 35 h (lit< tt, lit< tt), s_rs1 imm rs2 rs1 0 35 h (lit< tt, lit< tt), s_rs2 imm rs2 rs1 0 35 h (lit< tt, lit< tt), s_imm imm rs2 rs1 0 35 h (lit< tt, lit< tt)) refl
decodes (Sh rs2 rs1 imm) h =
    rw (s_opcode imm rs2 rs1 1 35 h (lit< tt, lit< tt), s_funct3 imm rs2 rs1 1 35 h (lit< tt, lit< tt), s_rs1 imm rs2 rs1 1 35 h (lit< tt, lit< tt), s_rs2 imm rs2 rs1 1 35 h (lit< tt, lit< tt), s_imm imm rs2 rs1 1 35 h (lit< tt, lit< tt)) refl
decodes (Sw rs2 rs1 imm) h =
    rw (s_opcode imm rs2 rs1 2 35 h (lit< tt, lit< tt), s_funct3 imm rs2 rs1 2 35 h (lit< tt, lit< tt), s_rs1 imm rs2 rs1 2 35 h (lit< tt, lit< tt), s_rs2 imm rs2 rs1 2 35 h (lit< tt, lit< tt), s_imm imm rs2 rs1 2 35 h (lit< tt, lit< tt)) refl
decodes (Sd rs2 rs1 imm) h =
    rw (s_opcode imm rs2 rs1 3 35 h (lit< tt, lit< tt), s_funct3 imm rs2 rs1 3 35 h (lit< tt, lit< tt), s_rs1 imm rs2 rs1 3 35 h (lit< tt, lit< tt), s_rs2 imm rs2 rs1 3 35 h (lit< tt, lit< tt), s_imm imm rs2 rs1 3 35 h (lit< tt, lit< tt)) refl
decodes (Addi rd rs1 imm) h =
    rw (i_opcode imm rs1 0 rd 19 h (lit< tt, lit< tt), i_funct3 imm rs1 0 rd 19 h (lit< tt, lit< tt), i_rd imm rs1 0 rd 19 h (lit< tt, lit< tt), i_rs1 imm rs1 0 rd 19 h (lit< tt, lit< tt), i_imm imm rs1 0 rd 19 h (lit< tt, lit< tt)) refl
decodes (Slli rd rs1 count) h =
    rw (long_opcode 0 count rs1 1 rd 19 h (lit< tt, lit< tt, lit< tt), long_funct3 0 count rs1 1 rd 19 h (lit< tt, lit< tt, lit< tt), long_funct6 0 count rs1 1 rd 19 h (lit< tt, lit< tt, lit< tt), long_rd 0 count rs1 1 rd 19 h (lit< tt, lit< tt, lit< tt), long_rs1 0 count rs1 1 rd 19 h (lit< tt, lit< tt, lit< tt), long_count6 0 count rs1 1 rd 19 h (lit< tt, lit< tt, lit< tt)) refl
decodes (Slti rd rs1 imm) h =
    rw (i_opcode imm rs1 2 rd 19 h (lit< tt, lit< tt), i_funct3 imm rs1 2 rd 19 h (lit< tt, lit< tt), i_rd imm rs1 2 rd 19 h (lit< tt, lit< tt), i_rs1 imm rs1 2 rd 19 h (lit< tt, lit< tt), i_imm imm rs1 2 rd 19 h (lit< tt, lit< tt)) refl
decodes (Sltiu rd rs1 imm) h =
    rw (i_opcode imm rs1 3 rd 19 h (lit< tt, lit< tt), i_funct3 imm rs1 3 rd 19 h (lit< tt, lit< tt), i_rd imm rs1 3 rd 19 h (lit< tt, lit< tt), i_rs1 imm rs1 3 rd 19 h (lit< tt, lit< tt), i_imm imm rs1 3 rd 19 h (lit< tt, lit< tt)) refl
decodes (Xori rd rs1 imm) h =
    rw (i_opcode imm rs1 4 rd 19 h (lit< tt, lit< tt), i_funct3 imm rs1 4 rd 19 h (lit< tt, lit< tt), i_rd imm rs1 4 rd 19 h (lit< tt, lit< tt), i_rs1 imm rs1 4 rd 19 h (lit< tt, lit< tt), i_imm imm rs1 4 rd 19 h (lit< tt, lit< tt)) refl
decodes (Srli rd rs1 count) h =
    rw (long_opcode 0 count rs1 5 rd 19 h (lit< tt, lit< tt, lit< tt), long_funct3 0 count rs1 5 rd 19 h (lit< tt, lit< tt, lit< tt), long_funct6 0 count rs1 5 rd 19 h (lit< tt, lit< tt, lit< tt), long_rd 0 count rs1 5 rd 19 h (lit< tt, lit< tt, lit< tt), long_rs1 0 count rs1 5 rd 19 h (lit< tt, lit< tt, lit< tt), long_count6 0 count rs1 5 rd 19 h (lit< tt, lit< tt, lit< tt)) refl
decodes (Srai rd rs1 count) h =
    rw (long_opcode 16 count rs1 5 rd 19 h (lit< tt, lit< tt, lit< tt), long_funct3 16 count rs1 5 rd 19 h (lit< tt, lit< tt, lit< tt), long_funct6 16 count rs1 5 rd 19 h (lit< tt, lit< tt, lit< tt), long_rd 16 count rs1 5 rd 19 h (lit< tt, lit< tt, lit< tt), long_rs1 16 count rs1 5 rd 19 h (lit< tt, lit< tt, lit< tt), long_count6 16 count rs1 5 rd 19 h (lit< tt, lit< tt, lit< tt)) refl
decodes (Ori rd rs1 imm) h =
    rw (i_opcode imm rs1 6 rd 19 h (lit< tt, lit< tt), i_funct3 imm rs1 6 rd 19 h (lit< tt, lit< tt), i_rd imm rs1 6 rd 19 h (lit< tt, lit< tt), i_rs1 imm rs1 6 rd 19 h (lit< tt, lit< tt), i_imm imm rs1 6 rd 19 h (lit< tt, lit< tt)) refl
decodes (Andi rd rs1 imm) h =
    rw (i_opcode imm rs1 7 rd 19 h (lit< tt, lit< tt), i_funct3 imm rs1 7 rd 19 h (lit< tt, lit< tt), i_rd imm rs1 7 rd 19 h (lit< tt, lit< tt), i_rs1 imm rs1 7 rd 19 h (lit< tt, lit< tt), i_imm imm rs1 7 rd 19 h (lit< tt, lit< tt)) refl
decodes (Addiw rd rs1 imm) h =
    rw (i_opcode imm rs1 0 rd 27 h (lit< tt, lit< tt), i_funct3 imm rs1 0 rd 27 h (lit< tt, lit< tt), i_rd imm rs1 0 rd 27 h (lit< tt, lit< tt), i_rs1 imm rs1 0 rd 27 h (lit< tt, lit< tt), i_imm imm rs1 0 rd 27 h (lit< tt, lit< tt)) refl
decodes (Slliw rd rs1 count) h =
    rw (short_opcode 0 count rs1 1 rd 27 h (lit< tt, lit< tt, lit< tt), short_funct3 0 count rs1 1 rd 27 h (lit< tt, lit< tt, lit< tt), short_funct7 0 count rs1 1 rd 27 h (lit< tt, lit< tt, lit< tt), short_rd 0 count rs1 1 rd 27 h (lit< tt, lit< tt, lit< tt), short_rs1 0 count rs1 1 rd 27 h (lit< tt, lit< tt, lit< tt), short_rs2 0 count rs1 1 rd 27 h (lit< tt, lit< tt, lit< tt)) refl
decodes (Srliw rd rs1 count) h =
    rw (short_opcode 0 count rs1 5 rd 27 h (lit< tt, lit< tt, lit< tt), short_funct3 0 count rs1 5 rd 27 h (lit< tt, lit< tt, lit< tt), short_funct7 0 count rs1 5 rd 27 h (lit< tt, lit< tt, lit< tt), short_rd 0 count rs1 5 rd 27 h (lit< tt, lit< tt, lit< tt), short_rs1 0 count rs1 5 rd 27 h (lit< tt, lit< tt, lit< tt), short_rs2 0 count rs1 5 rd 27 h (lit< tt, lit< tt, lit< tt)) refl
decodes (Sraiw rd rs1 count) h =
    rw (short_opcode 32 count rs1 5 rd 27 h (lit< tt, lit< tt, lit< tt), short_funct3 32 count rs1 5 rd 27 h (lit< tt, lit< tt, lit< tt), short_funct7 32 count rs1 5 rd 27 h (lit< tt, lit< tt, lit< tt), short_rd 32 count rs1 5 rd 27 h (lit< tt, lit< tt, lit< tt), short_rs1 32 count rs1 5 rd 27 h (lit< tt, lit< tt, lit< tt), short_rs2 32 count rs1 5 rd 27 h (lit< tt, lit< tt, lit< tt)) refl
decodes (Add rd rs1 rs2) h =
    rw (r_opcode 0 rs2 rs1 0 rd 51 h (lit< tt, lit< tt, lit< tt), r_funct3 0 rs2 rs1 0 rd 51 h (lit< tt, lit< tt, lit< tt), r_funct7 0 rs2 rs1 0 rd 51 h (lit< tt, lit< tt, lit< tt), r_rd 0 rs2 rs1 0 rd 51 h (lit< tt, lit< tt, lit< tt), r_rs1 0 rs2 rs1 0 rd 51 h (lit< tt, lit< tt, lit< tt), r_rs2 0 rs2 rs1 0 rd 51 h (lit< tt, lit< tt, lit< tt)) refl
decodes (Sll rd rs1 rs2) h =
    rw (r_opcode 0 rs2 rs1 1 rd 51 h (lit< tt, lit< tt, lit< tt), r_funct3 0 rs2 rs1 1 rd 51 h (lit< tt, lit< tt, lit< tt), r_funct7 0 rs2 rs1 1 rd 51 h (lit< tt, lit< tt, lit< tt), r_rd 0 rs2 rs1 1 rd 51 h (lit< tt, lit< tt, lit< tt), r_rs1 0 rs2 rs1 1 rd 51 h (lit< tt, lit< tt, lit< tt), r_rs2 0 rs2 rs1 1 rd 51 h (lit< tt, lit< tt, lit< tt)) refl
decodes (Slt rd rs1 rs2) h =
    rw (r_opcode 0 rs2 rs1 2 rd 51 h (lit< tt, lit< tt, lit< tt), r_funct3 0 rs2 rs1 2 rd 51 h (lit< tt, lit< tt, lit< tt), r_funct7 0 rs2 rs1 2 rd 51 h (lit< tt, lit< tt, lit< tt), r_rd 0 rs2 rs1 2 rd 51 h (lit< tt, lit< tt, lit< tt), r_rs1 0 rs2 rs1 2 rd 51 h (lit< tt, lit< tt, lit< tt), r_rs2 0 rs2 rs1 2 rd 51 h (lit< tt, lit< tt, lit< tt)) refl
decodes (Sltu rd rs1 rs2) h =
    rw (r_opcode 0 rs2 rs1 3 rd 51 h (lit< tt, lit< tt, lit< tt), r_funct3 0 rs2 rs1 3 rd 51 h (lit< tt, lit< tt, lit< tt), r_funct7 0 rs2 rs1 3 rd 51 h (lit< tt, lit< tt, lit< tt), r_rd 0 rs2 rs1 3 rd 51 h (lit< tt, lit< tt, lit< tt), r_rs1 0 rs2 rs1 3 rd 51 h (lit< tt, lit< tt, lit< tt), r_rs2 0 rs2 rs1 3 rd 51 h (lit< tt, lit< tt, lit< tt)) refl
decodes (Xor rd rs1 rs2) h =
    rw (r_opcode 0 rs2 rs1 4 rd 51 h (lit< tt, lit< tt, lit< tt), r_funct3 0 rs2 rs1 4 rd 51 h (lit< tt, lit< tt, lit< tt), r_funct7 0 rs2 rs1 4 rd 51 h (lit< tt, lit< tt, lit< tt), r_rd 0 rs2 rs1 4 rd 51 h (lit< tt, lit< tt, lit< tt), r_rs1 0 rs2 rs1 4 rd 51 h (lit< tt, lit< tt, lit< tt), r_rs2 0 rs2 rs1 4 rd 51 h (lit< tt, lit< tt, lit< tt)) refl
decodes (Srl rd rs1 rs2) h =
    rw (r_opcode 0 rs2 rs1 5 rd 51 h (lit< tt, lit< tt, lit< tt), r_funct3 0 rs2 rs1 5 rd 51 h (lit< tt, lit< tt, lit< tt), r_funct7 0 rs2 rs1 5 rd 51 h (lit< tt, lit< tt, lit< tt), r_rd 0 rs2 rs1 5 rd 51 h (lit< tt, lit< tt, lit< tt), r_rs1 0 rs2 rs1 5 rd 51 h (lit< tt, lit< tt, lit< tt), r_rs2 0 rs2 rs1 5 rd 51 h (lit< tt, lit< tt, lit< tt)) refl
decodes (Or rd rs1 rs2) h =
    rw (r_opcode 0 rs2 rs1 6 rd 51 h (lit< tt, lit< tt, lit< tt), r_funct3 0 rs2 rs1 6 rd 51 h (lit< tt, lit< tt, lit< tt), r_funct7 0 rs2 rs1 6 rd 51 h (lit< tt, lit< tt, lit< tt), r_rd 0 rs2 rs1 6 rd 51 h (lit< tt, lit< tt, lit< tt), r_rs1 0 rs2 rs1 6 rd 51 h (lit< tt, lit< tt, lit< tt), r_rs2 0 rs2 rs1 6 rd 51 h (lit< tt, lit< tt, lit< tt)) refl
decodes (And rd rs1 rs2) h =
    rw (r_opcode 0 rs2 rs1 7 rd 51 h (lit< tt, lit< tt, lit< tt), r_funct3 0 rs2 rs1 7 rd 51 h (lit< tt, lit< tt, lit< tt), r_funct7 0 rs2 rs1 7 rd 51 h (lit< tt, lit< tt, lit< tt), r_rd 0 rs2 rs1 7 rd 51 h (lit< tt, lit< tt, lit< tt), r_rs1 0 rs2 rs1 7 rd 51 h (lit< tt, lit< tt, lit< tt), r_rs2 0 rs2 rs1 7 rd 51 h (lit< tt, lit< tt, lit< tt)) refl
decodes (Sub rd rs1 rs2) h =
    rw (r_opcode 32 rs2 rs1 0 rd 51 h (lit< tt, lit< tt, lit< tt), r_funct3 32 rs2 rs1 0 rd 51 h (lit< tt, lit< tt, lit< tt), r_funct7 32 rs2 rs1 0 rd 51 h (lit< tt, lit< tt, lit< tt), r_rd 32 rs2 rs1 0 rd 51 h (lit< tt, lit< tt, lit< tt), r_rs1 32 rs2 rs1 0 rd 51 h (lit< tt, lit< tt, lit< tt), r_rs2 32 rs2 rs1 0 rd 51 h (lit< tt, lit< tt, lit< tt)) refl
decodes (Sra rd rs1 rs2) h =
    rw (r_opcode 32 rs2 rs1 5 rd 51 h (lit< tt, lit< tt, lit< tt), r_funct3 32 rs2 rs1 5 rd 51 h (lit< tt, lit< tt, lit< tt), r_funct7 32 rs2 rs1 5 rd 51 h (lit< tt, lit< tt, lit< tt), r_rd 32 rs2 rs1 5 rd 51 h (lit< tt, lit< tt, lit< tt), r_rs1 32 rs2 rs1 5 rd 51 h (lit< tt, lit< tt, lit< tt), r_rs2 32 rs2 rs1 5 rd 51 h (lit< tt, lit< tt, lit< tt)) refl
decodes (Mul rd rs1 rs2) h =
    rw (r_opcode 1 rs2 rs1 0 rd 51 h (lit< tt, lit< tt, lit< tt), r_funct3 1 rs2 rs1 0 rd 51 h (lit< tt, lit< tt, lit< tt), r_funct7 1 rs2 rs1 0 rd 51 h (lit< tt, lit< tt, lit< tt), r_rd 1 rs2 rs1 0 rd 51 h (lit< tt, lit< tt, lit< tt), r_rs1 1 rs2 rs1 0 rd 51 h (lit< tt, lit< tt, lit< tt), r_rs2 1 rs2 rs1 0 rd 51 h (lit< tt, lit< tt, lit< tt)) refl
decodes (Mulh rd rs1 rs2) h =
    rw (r_opcode 1 rs2 rs1 1 rd 51 h (lit< tt, lit< tt, lit< tt), r_funct3 1 rs2 rs1 1 rd 51 h (lit< tt, lit< tt, lit< tt), r_funct7 1 rs2 rs1 1 rd 51 h (lit< tt, lit< tt, lit< tt), r_rd 1 rs2 rs1 1 rd 51 h (lit< tt, lit< tt, lit< tt), r_rs1 1 rs2 rs1 1 rd 51 h (lit< tt, lit< tt, lit< tt), r_rs2 1 rs2 rs1 1 rd 51 h (lit< tt, lit< tt, lit< tt)) refl
decodes (Mulhsu rd rs1 rs2) h =
    rw (r_opcode 1 rs2 rs1 2 rd 51 h (lit< tt, lit< tt, lit< tt), r_funct3 1 rs2 rs1 2 rd 51 h (lit< tt, lit< tt, lit< tt), r_funct7 1 rs2 rs1 2 rd 51 h (lit< tt, lit< tt, lit< tt), r_rd 1 rs2 rs1 2 rd 51 h (lit< tt, lit< tt, lit< tt), r_rs1 1 rs2 rs1 2 rd 51 h (lit< tt, lit< tt, lit< tt), r_rs2 1 rs2 rs1 2 rd 51 h (lit< tt, lit< tt, lit< tt)) refl
decodes (Mulhu rd rs1 rs2) h =
    rw (r_opcode 1 rs2 rs1 3 rd 51 h (lit< tt, lit< tt, lit< tt), r_funct3 1 rs2 rs1 3 rd 51 h (lit< tt, lit< tt, lit< tt), r_funct7 1 rs2 rs1 3 rd 51 h (lit< tt, lit< tt, lit< tt), r_rd 1 rs2 rs1 3 rd 51 h (lit< tt, lit< tt, lit< tt), r_rs1 1 rs2 rs1 3 rd 51 h (lit< tt, lit< tt, lit< tt), r_rs2 1 rs2 rs1 3 rd 51 h (lit< tt, lit< tt, lit< tt)) refl
decodes (Div rd rs1 rs2) h =
    rw (r_opcode 1 rs2 rs1 4 rd 51 h (lit< tt, lit< tt, lit< tt), r_funct3 1 rs2 rs1 4 rd 51 h (lit< tt, lit< tt, lit< tt), r_funct7 1 rs2 rs1 4 rd 51 h (lit< tt, lit< tt, lit< tt), r_rd 1 rs2 rs1 4 rd 51 h (lit< tt, lit< tt, lit< tt), r_rs1 1 rs2 rs1 4 rd 51 h (lit< tt, lit< tt, lit< tt), r_rs2 1 rs2 rs1 4 rd 51 h (lit< tt, lit< tt, lit< tt)) refl
decodes (Divu rd rs1 rs2) h =
    rw (r_opcode 1 rs2 rs1 5 rd 51 h (lit< tt, lit< tt, lit< tt), r_funct3 1 rs2 rs1 5 rd 51 h (lit< tt, lit< tt, lit< tt), r_funct7 1 rs2 rs1 5 rd 51 h (lit< tt, lit< tt, lit< tt), r_rd 1 rs2 rs1 5 rd 51 h (lit< tt, lit< tt, lit< tt), r_rs1 1 rs2 rs1 5 rd 51 h (lit< tt, lit< tt, lit< tt), r_rs2 1 rs2 rs1 5 rd 51 h (lit< tt, lit< tt, lit< tt)) refl
decodes (Rem rd rs1 rs2) h =
    rw (r_opcode 1 rs2 rs1 6 rd 51 h (lit< tt, lit< tt, lit< tt), r_funct3 1 rs2 rs1 6 rd 51 h (lit< tt, lit< tt, lit< tt), r_funct7 1 rs2 rs1 6 rd 51 h (lit< tt, lit< tt, lit< tt), r_rd 1 rs2 rs1 6 rd 51 h (lit< tt, lit< tt, lit< tt), r_rs1 1 rs2 rs1 6 rd 51 h (lit< tt, lit< tt, lit< tt), r_rs2 1 rs2 rs1 6 rd 51 h (lit< tt, lit< tt, lit< tt)) refl
decodes (Remu rd rs1 rs2) h =
    rw (r_opcode 1 rs2 rs1 7 rd 51 h (lit< tt, lit< tt, lit< tt), r_funct3 1 rs2 rs1 7 rd 51 h (lit< tt, lit< tt, lit< tt), r_funct7 1 rs2 rs1 7 rd 51 h (lit< tt, lit< tt, lit< tt), r_rd 1 rs2 rs1 7 rd 51 h (lit< tt, lit< tt, lit< tt), r_rs1 1 rs2 rs1 7 rd 51 h (lit< tt, lit< tt, lit< tt), r_rs2 1 rs2 rs1 7 rd 51 h (lit< tt, lit< tt, lit< tt)) refl
decodes (Addw rd rs1 rs2) h =
    rw (r_opcode 0 rs2 rs1 0 rd 59 h (lit< tt, lit< tt, lit< tt), r_funct3 0 rs2 rs1 0 rd 59 h (lit< tt, lit< tt, lit< tt), r_funct7 0 rs2 rs1 0 rd 59 h (lit< tt, lit< tt, lit< tt), r_rd 0 rs2 rs1 0 rd 59 h (lit< tt, lit< tt, lit< tt), r_rs1 0 rs2 rs1 0 rd 59 h (lit< tt, lit< tt, lit< tt), r_rs2 0 rs2 rs1 0 rd 59 h (lit< tt, lit< tt, lit< tt)) refl
decodes (Sllw rd rs1 rs2) h =
    rw (r_opcode 0 rs2 rs1 1 rd 59 h (lit< tt, lit< tt, lit< tt), r_funct3 0 rs2 rs1 1 rd 59 h (lit< tt, lit< tt, lit< tt), r_funct7 0 rs2 rs1 1 rd 59 h (lit< tt, lit< tt, lit< tt), r_rd 0 rs2 rs1 1 rd 59 h (lit< tt, lit< tt, lit< tt), r_rs1 0 rs2 rs1 1 rd 59 h (lit< tt, lit< tt, lit< tt), r_rs2 0 rs2 rs1 1 rd 59 h (lit< tt, lit< tt, lit< tt)) refl
decodes (Srlw rd rs1 rs2) h =
    rw (r_opcode 0 rs2 rs1 5 rd 59 h (lit< tt, lit< tt, lit< tt), r_funct3 0 rs2 rs1 5 rd 59 h (lit< tt, lit< tt, lit< tt), r_funct7 0 rs2 rs1 5 rd 59 h (lit< tt, lit< tt, lit< tt), r_rd 0 rs2 rs1 5 rd 59 h (lit< tt, lit< tt, lit< tt), r_rs1 0 rs2 rs1 5 rd 59 h (lit< tt, lit< tt, lit< tt), r_rs2 0 rs2 rs1 5 rd 59 h (lit< tt, lit< tt, lit< tt)) refl
decodes (Subw rd rs1 rs2) h =
    rw (r_opcode 32 rs2 rs1 0 rd 59 h (lit< tt, lit< tt, lit< tt), r_funct3 32 rs2 rs1 0 rd 59 h (lit< tt, lit< tt, lit< tt), r_funct7 32 rs2 rs1 0 rd 59 h (lit< tt, lit< tt, lit< tt), r_rd 32 rs2 rs1 0 rd 59 h (lit< tt, lit< tt, lit< tt), r_rs1 32 rs2 rs1 0 rd 59 h (lit< tt, lit< tt, lit< tt), r_rs2 32 rs2 rs1 0 rd 59 h (lit< tt, lit< tt, lit< tt)) refl
decodes (Sraw rd rs1 rs2) h =
    rw (r_opcode 32 rs2 rs1 5 rd 59 h (lit< tt, lit< tt, lit< tt), r_funct3 32 rs2 rs1 5 rd 59 h (lit< tt, lit< tt, lit< tt), r_funct7 32 rs2 rs1 5 rd 59 h (lit< tt, lit< tt, lit< tt), r_rd 32 rs2 rs1 5 rd 59 h (lit< tt, lit< tt, lit< tt), r_rs1 32 rs2 rs1 5 rd 59 h (lit< tt, lit< tt, lit< tt), r_rs2 32 rs2 rs1 5 rd 59 h (lit< tt, lit< tt, lit< tt)) refl
decodes (Mulw rd rs1 rs2) h =
    rw (r_opcode 1 rs2 rs1 0 rd 59 h (lit< tt, lit< tt, lit< tt), r_funct3 1 rs2 rs1 0 rd 59 h (lit< tt, lit< tt, lit< tt), r_funct7 1 rs2 rs1 0 rd 59 h (lit< tt, lit< tt, lit< tt), r_rd 1 rs2 rs1 0 rd 59 h (lit< tt, lit< tt, lit< tt), r_rs1 1 rs2 rs1 0 rd 59 h (lit< tt, lit< tt, lit< tt), r_rs2 1 rs2 rs1 0 rd 59 h (lit< tt, lit< tt, lit< tt)) refl
decodes (Divw rd rs1 rs2) h =
    rw (r_opcode 1 rs2 rs1 4 rd 59 h (lit< tt, lit< tt, lit< tt), r_funct3 1 rs2 rs1 4 rd 59 h (lit< tt, lit< tt, lit< tt), r_funct7 1 rs2 rs1 4 rd 59 h (lit< tt, lit< tt, lit< tt), r_rd 1 rs2 rs1 4 rd 59 h (lit< tt, lit< tt, lit< tt), r_rs1 1 rs2 rs1 4 rd 59 h (lit< tt, lit< tt, lit< tt), r_rs2 1 rs2 rs1 4 rd 59 h (lit< tt, lit< tt, lit< tt)) refl
decodes (Divuw rd rs1 rs2) h =
    rw (r_opcode 1 rs2 rs1 5 rd 59 h (lit< tt, lit< tt, lit< tt), r_funct3 1 rs2 rs1 5 rd 59 h (lit< tt, lit< tt, lit< tt), r_funct7 1 rs2 rs1 5 rd 59 h (lit< tt, lit< tt, lit< tt), r_rd 1 rs2 rs1 5 rd 59 h (lit< tt, lit< tt, lit< tt), r_rs1 1 rs2 rs1 5 rd 59 h (lit< tt, lit< tt, lit< tt), r_rs2 1 rs2 rs1 5 rd 59 h (lit< tt, lit< tt, lit< tt)) refl
decodes (Remw rd rs1 rs2) h =
    rw (r_opcode 1 rs2 rs1 6 rd 59 h (lit< tt, lit< tt, lit< tt), r_funct3 1 rs2 rs1 6 rd 59 h (lit< tt, lit< tt, lit< tt), r_funct7 1 rs2 rs1 6 rd 59 h (lit< tt, lit< tt, lit< tt), r_rd 1 rs2 rs1 6 rd 59 h (lit< tt, lit< tt, lit< tt), r_rs1 1 rs2 rs1 6 rd 59 h (lit< tt, lit< tt, lit< tt), r_rs2 1 rs2 rs1 6 rd 59 h (lit< tt, lit< tt, lit< tt)) refl
decodes (Remuw rd rs1 rs2) h =
    rw (r_opcode 1 rs2 rs1 7 rd 59 h (lit< tt, lit< tt, lit< tt), r_funct3 1 rs2 rs1 7 rd 59 h (lit< tt, lit< tt, lit< tt), r_funct7 1 rs2 rs1 7 rd 59 h (lit< tt, lit< tt, lit< tt), r_rd 1 rs2 rs1 7 rd 59 h (lit< tt, lit< tt, lit< tt), r_rs1 1 rs2 rs1 7 rd 59 h (lit< tt, lit< tt, lit< tt), r_rs2 1 rs2 rs1 7 rd 59 h (lit< tt, lit< tt, lit< tt)) refl
decodes (Beq rs1 rs2 offset) h =
    rw (b_opcode offset rs2 rs1 0 99 h (lit< tt, lit< tt), b_funct3 offset rs2 rs1 0 99 h (lit< tt, lit< tt), b_rs1 offset rs2 rs1 0 99 h (lit< tt, lit< tt), b_rs2 offset rs2 rs1 0 99 h (lit< tt, lit< tt), b_offset offset rs2 rs1 0 99 h (lit< tt, lit< tt)) refl
decodes (Bne rs1 rs2 offset) h =
    rw (b_opcode offset rs2 rs1 1 99 h (lit< tt, lit< tt), b_funct3 offset rs2 rs1 1 99 h (lit< tt, lit< tt), b_rs1 offset rs2 rs1 1 99 h (lit< tt, lit< tt), b_rs2 offset rs2 rs1 1 99 h (lit< tt, lit< tt), b_offset offset rs2 rs1 1 99 h (lit< tt, lit< tt)) refl
decodes (Blt rs1 rs2 offset) h =
    rw (b_opcode offset rs2 rs1 4 99 h (lit< tt, lit< tt), b_funct3 offset rs2 rs1 4 99 h (lit< tt, lit< tt), b_rs1 offset rs2 rs1 4 99 h (lit< tt, lit< tt), b_rs2 offset rs2 rs1 4 99 h (lit< tt, lit< tt), b_offset offset rs2 rs1 4 99 h (lit< tt, lit< tt)) refl
decodes (Bge rs1 rs2 offset) h =
    rw (b_opcode offset rs2 rs1 5 99 h (lit< tt, lit< tt), b_funct3 offset rs2 rs1 5 99 h (lit< tt, lit< tt), b_rs1 offset rs2 rs1 5 99 h (lit< tt, lit< tt), b_rs2 offset rs2 rs1 5 99 h (lit< tt, lit< tt), b_offset offset rs2 rs1 5 99 h (lit< tt, lit< tt)) refl
decodes (Bltu rs1 rs2 offset) h =
    rw (b_opcode offset rs2 rs1 6 99 h (lit< tt, lit< tt), b_funct3 offset rs2 rs1 6 99 h (lit< tt, lit< tt), b_rs1 offset rs2 rs1 6 99 h (lit< tt, lit< tt), b_rs2 offset rs2 rs1 6 99 h (lit< tt, lit< tt), b_offset offset rs2 rs1 6 99 h (lit< tt, lit< tt)) refl
decodes (Bgeu rs1 rs2 offset) h =
    rw (b_opcode offset rs2 rs1 7 99 h (lit< tt, lit< tt), b_funct3 offset rs2 rs1 7 99 h (lit< tt, lit< tt), b_rs1 offset rs2 rs1 7 99 h (lit< tt, lit< tt), b_rs2 offset rs2 rs1 7 99 h (lit< tt, lit< tt), b_offset offset rs2 rs1 7 99 h (lit< tt, lit< tt)) refl
decodes (Jalr rd rs1 imm) h =
    rw (i_opcode imm rs1 0 rd 103 h (lit< tt, lit< tt), i_funct3 imm rs1 0 rd 103 h (lit< tt, lit< tt), i_rd imm rs1 0 rd 103 h (lit< tt, lit< tt), i_rs1 imm rs1 0 rd 103 h (lit< tt, lit< tt), i_imm imm rs1 0 rd 103 h (lit< tt, lit< tt)) refl
decodes (Jal rd offset) h =
    rw (j_opcode offset rd 111 h (lit< tt), j_rd offset rd 111 h (lit< tt), j_offset offset rd 111 h (lit< tt)) refl
decodes (Lui rd imm) h =
    rw (u_opcode imm rd 55 h (lit< tt), u_rd imm rd 55 h (lit< tt), u_imm imm rd 55 h (lit< tt)) refl
decodes (Auipc rd imm) h =
    rw (u_opcode imm rd 23 h (lit< tt), u_rd imm rd 23 h (lit< tt), u_imm imm rd 23 h (lit< tt)) refl
decodes Ecall h = refl
decodes Ebreak h = refl

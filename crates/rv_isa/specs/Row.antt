-- The rows of RV64IM: the format and fixed bits of each instruction, after the RISC-V unprivileged ISA.
use Rattle.std.specs.Prelude.{◌≡◌, ◌<◌, ◌%◌}
use Rattle.rv_isa.specs.declared.instr.Instr.{Instr}
use Rattle.rv_isa.specs.declared.instr.Instr.TheVariants.{Lb, Lh, Lw, Ld, Lbu, Lhu, Lwu, Sb, Sh, Sw, Sd, Addi, Slli, Slti, Sltiu, Xori, Srli, Srai, Ori, Andi, Addiw, Slliw, Srliw, Sraiw, Add, Sll, Slt, Sltu, Xor, Srl, Or, And, Sub, Sra, Mul, Mulh, Mulhsu, Mulhu, Div, Divu, Rem, Remu, Addw, Sllw, Srlw, Subw, Sraw, Mulw, Divw, Divuw, Remw, Remuw, Beq, Bne, Blt, Bge, Bltu, Bgeu, Jalr, Jal, Lui, Auipc, Ecall, Ebreak}
use Rattle.rv_isa.specs.declared.row.Row.{Row}
use Rattle.rv_isa.specs.declared.row.Row.TheVariants.{R, I, LongShift, ShortShift, S, B, U, J, Whole}

-- the row of an instruction, one equation each, its parts in the order of the bits
abbrev pub row_of : Instr → Row
row_of (Lb rd rs1 imm) = I imm rs1 0 rd 3
row_of (Lh rd rs1 imm) = I imm rs1 1 rd 3
row_of (Lw rd rs1 imm) = I imm rs1 2 rd 3
row_of (Ld rd rs1 imm) = I imm rs1 3 rd 3
row_of (Lbu rd rs1 imm) = I imm rs1 4 rd 3
row_of (Lhu rd rs1 imm) = I imm rs1 5 rd 3
row_of (Lwu rd rs1 imm) = I imm rs1 6 rd 3
row_of (Sb rs2 rs1 imm) = S imm rs2 rs1 0 35
row_of (Sh rs2 rs1 imm) = S imm rs2 rs1 1 35
row_of (Sw rs2 rs1 imm) = S imm rs2 rs1 2 35
row_of (Sd rs2 rs1 imm) = S imm rs2 rs1 3 35
row_of (Addi rd rs1 imm) = I imm rs1 0 rd 19
row_of (Slli rd rs1 count) = LongShift 0 count rs1 1 rd 19
row_of (Slti rd rs1 imm) = I imm rs1 2 rd 19
row_of (Sltiu rd rs1 imm) = I imm rs1 3 rd 19
row_of (Xori rd rs1 imm) = I imm rs1 4 rd 19
row_of (Srli rd rs1 count) = LongShift 0 count rs1 5 rd 19
row_of (Srai rd rs1 count) = LongShift 16 count rs1 5 rd 19
row_of (Ori rd rs1 imm) = I imm rs1 6 rd 19
row_of (Andi rd rs1 imm) = I imm rs1 7 rd 19
row_of (Addiw rd rs1 imm) = I imm rs1 0 rd 27
row_of (Slliw rd rs1 count) = ShortShift 0 count rs1 1 rd 27
row_of (Srliw rd rs1 count) = ShortShift 0 count rs1 5 rd 27
row_of (Sraiw rd rs1 count) = ShortShift 32 count rs1 5 rd 27
row_of (Add rd rs1 rs2) = R 0 rs2 rs1 0 rd 51
row_of (Sll rd rs1 rs2) = R 0 rs2 rs1 1 rd 51
row_of (Slt rd rs1 rs2) = R 0 rs2 rs1 2 rd 51
row_of (Sltu rd rs1 rs2) = R 0 rs2 rs1 3 rd 51
row_of (Xor rd rs1 rs2) = R 0 rs2 rs1 4 rd 51
row_of (Srl rd rs1 rs2) = R 0 rs2 rs1 5 rd 51
row_of (Or rd rs1 rs2) = R 0 rs2 rs1 6 rd 51
row_of (And rd rs1 rs2) = R 0 rs2 rs1 7 rd 51
row_of (Sub rd rs1 rs2) = R 32 rs2 rs1 0 rd 51
row_of (Sra rd rs1 rs2) = R 32 rs2 rs1 5 rd 51
row_of (Mul rd rs1 rs2) = R 1 rs2 rs1 0 rd 51
row_of (Mulh rd rs1 rs2) = R 1 rs2 rs1 1 rd 51
row_of (Mulhsu rd rs1 rs2) = R 1 rs2 rs1 2 rd 51
row_of (Mulhu rd rs1 rs2) = R 1 rs2 rs1 3 rd 51
row_of (Div rd rs1 rs2) = R 1 rs2 rs1 4 rd 51
row_of (Divu rd rs1 rs2) = R 1 rs2 rs1 5 rd 51
row_of (Rem rd rs1 rs2) = R 1 rs2 rs1 6 rd 51
row_of (Remu rd rs1 rs2) = R 1 rs2 rs1 7 rd 51
row_of (Addw rd rs1 rs2) = R 0 rs2 rs1 0 rd 59
row_of (Sllw rd rs1 rs2) = R 0 rs2 rs1 1 rd 59
row_of (Srlw rd rs1 rs2) = R 0 rs2 rs1 5 rd 59
row_of (Subw rd rs1 rs2) = R 32 rs2 rs1 0 rd 59
row_of (Sraw rd rs1 rs2) = R 32 rs2 rs1 5 rd 59
row_of (Mulw rd rs1 rs2) = R 1 rs2 rs1 0 rd 59
row_of (Divw rd rs1 rs2) = R 1 rs2 rs1 4 rd 59
row_of (Divuw rd rs1 rs2) = R 1 rs2 rs1 5 rd 59
row_of (Remw rd rs1 rs2) = R 1 rs2 rs1 6 rd 59
row_of (Remuw rd rs1 rs2) = R 1 rs2 rs1 7 rd 59
row_of (Beq rs1 rs2 offset) = B offset rs2 rs1 0 99
row_of (Bne rs1 rs2 offset) = B offset rs2 rs1 1 99
row_of (Blt rs1 rs2 offset) = B offset rs2 rs1 4 99
row_of (Bge rs1 rs2 offset) = B offset rs2 rs1 5 99
row_of (Bltu rs1 rs2 offset) = B offset rs2 rs1 6 99
row_of (Bgeu rs1 rs2 offset) = B offset rs2 rs1 7 99
row_of (Jalr rd rs1 imm) = I imm rs1 0 rd 103
row_of (Jal rd offset) = J offset rd 111
row_of (Lui rd imm) = U imm rd 55
row_of (Auipc rd imm) = U imm rd 23
row_of Ecall = Whole 115
row_of Ebreak = Whole 1048691

-- the fixed bits of a row fit their fields
abbrev pub HasFixedBits : Row → Type 0
HasFixedBits (R funct7 rs2 rs1 funct3 rd opcode) = (funct7 < 128) × (funct3 < 8) × (opcode < 128)
HasFixedBits (I imm rs1 funct3 rd opcode) = (funct3 < 8) × (opcode < 128)
HasFixedBits (LongShift top count rs1 funct3 rd opcode) = (top < 64) × (funct3 < 8) × (opcode < 128)
HasFixedBits (ShortShift top count rs1 funct3 rd opcode) = (top < 128) × (funct3 < 8) × (opcode < 128)
HasFixedBits (S imm rs2 rs1 funct3 opcode) = (funct3 < 8) × (opcode < 128)
HasFixedBits (B offset rs2 rs1 funct3 opcode) = (funct3 < 8) × (opcode < 128)
HasFixedBits (U imm rd opcode) = opcode < 128
HasFixedBits (J offset rd opcode) = opcode < 128
HasFixedBits (Whole word) = word < 4294967296

-- registers, immediates, counts and distances are in their ranges
abbrev pub HasOperands : Row → Type 0
HasOperands (R funct7 rs2 rs1 funct3 rd opcode) = (rs2 < 32) × (rs1 < 32) × (rd < 32)
HasOperands (I imm rs1 funct3 rd opcode) = (imm < 4096) × (rs1 < 32) × (rd < 32)
HasOperands (LongShift top count rs1 funct3 rd opcode) = (count < 64) × (rs1 < 32) × (rd < 32)
HasOperands (ShortShift top count rs1 funct3 rd opcode) = (count < 32) × (rs1 < 32) × (rd < 32)
HasOperands (S imm rs2 rs1 funct3 opcode) = (imm < 4096) × (rs2 < 32) × (rs1 < 32)
HasOperands (B offset rs2 rs1 funct3 opcode) = (offset < 8192) × (offset % 2 ≡ 0) × (rs2 < 32) × (rs1 < 32)
HasOperands (U imm rd opcode) = (imm < 1048576) × (rd < 32)
HasOperands (J offset rd opcode) = (offset < 2097152) × (offset % 2 ≡ 0) × (rd < 32)
HasOperands (Whole word) = Unit {0}

-- an instruction whose operands are in their ranges, as each value of the program's type is
abbrev pub IsRow : Instr → Type 0
IsRow instr = HasOperands (row_of instr)

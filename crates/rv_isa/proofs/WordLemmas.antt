-- The fields of a word that was put together from fields.
use Rattle.std.proofs.Common.{◌≡◌, ℕ, arith}
use Rattle.rv_isa.specs.declared.row.Row.TheVariants.{R, I, LongShift, ShortShift, S, B, U, J}
use Rattle.rv_isa.specs.Row.{HasFixedBits, HasOperands}
use Rattle.rv_isa.specs.Word.{row_word, opcode_of, rd_of, funct3_of, rs1_of, rs2_of, funct7_of, funct6_of, count6_of, i_imm_of, s_imm_of, b_offset_of, u_imm_of, j_offset_of}

pub r_opcode : (funct7 rs2 rs1 funct3 rd opcode : ℕ) → HasOperands (R funct7 rs2 rs1 funct3 rd opcode) → HasFixedBits (R funct7 rs2 rs1 funct3 rd opcode) → opcode_of (row_word (R funct7 rs2 rs1 funct3 rd opcode)) ≡ opcode
r_opcode funct7 rs2 rs1 funct3 rd opcode h b = omega arith

pub r_funct3 : (funct7 rs2 rs1 funct3 rd opcode : ℕ) → HasOperands (R funct7 rs2 rs1 funct3 rd opcode) → HasFixedBits (R funct7 rs2 rs1 funct3 rd opcode) → funct3_of (row_word (R funct7 rs2 rs1 funct3 rd opcode)) ≡ funct3
r_funct3 funct7 rs2 rs1 funct3 rd opcode h b = omega arith

pub r_funct7 : (funct7 rs2 rs1 funct3 rd opcode : ℕ) → HasOperands (R funct7 rs2 rs1 funct3 rd opcode) → HasFixedBits (R funct7 rs2 rs1 funct3 rd opcode) → funct7_of (row_word (R funct7 rs2 rs1 funct3 rd opcode)) ≡ funct7
r_funct7 funct7 rs2 rs1 funct3 rd opcode h b = omega arith

pub r_rd : (funct7 rs2 rs1 funct3 rd opcode : ℕ) → HasOperands (R funct7 rs2 rs1 funct3 rd opcode) → HasFixedBits (R funct7 rs2 rs1 funct3 rd opcode) → rd_of (row_word (R funct7 rs2 rs1 funct3 rd opcode)) ≡ rd
r_rd funct7 rs2 rs1 funct3 rd opcode h b = omega arith

pub r_rs1 : (funct7 rs2 rs1 funct3 rd opcode : ℕ) → HasOperands (R funct7 rs2 rs1 funct3 rd opcode) → HasFixedBits (R funct7 rs2 rs1 funct3 rd opcode) → rs1_of (row_word (R funct7 rs2 rs1 funct3 rd opcode)) ≡ rs1
r_rs1 funct7 rs2 rs1 funct3 rd opcode h b = omega arith

pub r_rs2 : (funct7 rs2 rs1 funct3 rd opcode : ℕ) → HasOperands (R funct7 rs2 rs1 funct3 rd opcode) → HasFixedBits (R funct7 rs2 rs1 funct3 rd opcode) → rs2_of (row_word (R funct7 rs2 rs1 funct3 rd opcode)) ≡ rs2
r_rs2 funct7 rs2 rs1 funct3 rd opcode h b = omega arith

pub i_opcode : (imm rs1 funct3 rd opcode : ℕ) → HasOperands (I imm rs1 funct3 rd opcode) → HasFixedBits (I imm rs1 funct3 rd opcode) → opcode_of (row_word (I imm rs1 funct3 rd opcode)) ≡ opcode
i_opcode imm rs1 funct3 rd opcode h b = omega arith

pub i_funct3 : (imm rs1 funct3 rd opcode : ℕ) → HasOperands (I imm rs1 funct3 rd opcode) → HasFixedBits (I imm rs1 funct3 rd opcode) → funct3_of (row_word (I imm rs1 funct3 rd opcode)) ≡ funct3
i_funct3 imm rs1 funct3 rd opcode h b = omega arith

pub i_rd : (imm rs1 funct3 rd opcode : ℕ) → HasOperands (I imm rs1 funct3 rd opcode) → HasFixedBits (I imm rs1 funct3 rd opcode) → rd_of (row_word (I imm rs1 funct3 rd opcode)) ≡ rd
i_rd imm rs1 funct3 rd opcode h b = omega arith

pub i_rs1 : (imm rs1 funct3 rd opcode : ℕ) → HasOperands (I imm rs1 funct3 rd opcode) → HasFixedBits (I imm rs1 funct3 rd opcode) → rs1_of (row_word (I imm rs1 funct3 rd opcode)) ≡ rs1
i_rs1 imm rs1 funct3 rd opcode h b = omega arith

pub i_imm : (imm rs1 funct3 rd opcode : ℕ) → HasOperands (I imm rs1 funct3 rd opcode) → HasFixedBits (I imm rs1 funct3 rd opcode) → i_imm_of (row_word (I imm rs1 funct3 rd opcode)) ≡ imm
i_imm imm rs1 funct3 rd opcode h b = omega arith

pub long_opcode : (top count rs1 funct3 rd opcode : ℕ) → HasOperands (LongShift top count rs1 funct3 rd opcode) → HasFixedBits (LongShift top count rs1 funct3 rd opcode) → opcode_of (row_word (LongShift top count rs1 funct3 rd opcode)) ≡ opcode
long_opcode top count rs1 funct3 rd opcode h b = omega arith

pub long_funct3 : (top count rs1 funct3 rd opcode : ℕ) → HasOperands (LongShift top count rs1 funct3 rd opcode) → HasFixedBits (LongShift top count rs1 funct3 rd opcode) → funct3_of (row_word (LongShift top count rs1 funct3 rd opcode)) ≡ funct3
long_funct3 top count rs1 funct3 rd opcode h b = omega arith

pub long_funct6 : (top count rs1 funct3 rd opcode : ℕ) → HasOperands (LongShift top count rs1 funct3 rd opcode) → HasFixedBits (LongShift top count rs1 funct3 rd opcode) → funct6_of (row_word (LongShift top count rs1 funct3 rd opcode)) ≡ top
long_funct6 top count rs1 funct3 rd opcode h b = omega arith

pub long_rd : (top count rs1 funct3 rd opcode : ℕ) → HasOperands (LongShift top count rs1 funct3 rd opcode) → HasFixedBits (LongShift top count rs1 funct3 rd opcode) → rd_of (row_word (LongShift top count rs1 funct3 rd opcode)) ≡ rd
long_rd top count rs1 funct3 rd opcode h b = omega arith

pub long_rs1 : (top count rs1 funct3 rd opcode : ℕ) → HasOperands (LongShift top count rs1 funct3 rd opcode) → HasFixedBits (LongShift top count rs1 funct3 rd opcode) → rs1_of (row_word (LongShift top count rs1 funct3 rd opcode)) ≡ rs1
long_rs1 top count rs1 funct3 rd opcode h b = omega arith

pub long_count6 : (top count rs1 funct3 rd opcode : ℕ) → HasOperands (LongShift top count rs1 funct3 rd opcode) → HasFixedBits (LongShift top count rs1 funct3 rd opcode) → count6_of (row_word (LongShift top count rs1 funct3 rd opcode)) ≡ count
long_count6 top count rs1 funct3 rd opcode h b = omega arith

pub short_opcode : (top count rs1 funct3 rd opcode : ℕ) → HasOperands (ShortShift top count rs1 funct3 rd opcode) → HasFixedBits (ShortShift top count rs1 funct3 rd opcode) → opcode_of (row_word (ShortShift top count rs1 funct3 rd opcode)) ≡ opcode
short_opcode top count rs1 funct3 rd opcode h b = omega arith

pub short_funct3 : (top count rs1 funct3 rd opcode : ℕ) → HasOperands (ShortShift top count rs1 funct3 rd opcode) → HasFixedBits (ShortShift top count rs1 funct3 rd opcode) → funct3_of (row_word (ShortShift top count rs1 funct3 rd opcode)) ≡ funct3
short_funct3 top count rs1 funct3 rd opcode h b = omega arith

pub short_funct7 : (top count rs1 funct3 rd opcode : ℕ) → HasOperands (ShortShift top count rs1 funct3 rd opcode) → HasFixedBits (ShortShift top count rs1 funct3 rd opcode) → funct7_of (row_word (ShortShift top count rs1 funct3 rd opcode)) ≡ top
short_funct7 top count rs1 funct3 rd opcode h b = omega arith

pub short_rd : (top count rs1 funct3 rd opcode : ℕ) → HasOperands (ShortShift top count rs1 funct3 rd opcode) → HasFixedBits (ShortShift top count rs1 funct3 rd opcode) → rd_of (row_word (ShortShift top count rs1 funct3 rd opcode)) ≡ rd
short_rd top count rs1 funct3 rd opcode h b = omega arith

pub short_rs1 : (top count rs1 funct3 rd opcode : ℕ) → HasOperands (ShortShift top count rs1 funct3 rd opcode) → HasFixedBits (ShortShift top count rs1 funct3 rd opcode) → rs1_of (row_word (ShortShift top count rs1 funct3 rd opcode)) ≡ rs1
short_rs1 top count rs1 funct3 rd opcode h b = omega arith

pub short_rs2 : (top count rs1 funct3 rd opcode : ℕ) → HasOperands (ShortShift top count rs1 funct3 rd opcode) → HasFixedBits (ShortShift top count rs1 funct3 rd opcode) → rs2_of (row_word (ShortShift top count rs1 funct3 rd opcode)) ≡ count
short_rs2 top count rs1 funct3 rd opcode h b = omega arith

pub s_opcode : (imm rs2 rs1 funct3 opcode : ℕ) → HasOperands (S imm rs2 rs1 funct3 opcode) → HasFixedBits (S imm rs2 rs1 funct3 opcode) → opcode_of (row_word (S imm rs2 rs1 funct3 opcode)) ≡ opcode
s_opcode imm rs2 rs1 funct3 opcode h b = omega arith

pub s_funct3 : (imm rs2 rs1 funct3 opcode : ℕ) → HasOperands (S imm rs2 rs1 funct3 opcode) → HasFixedBits (S imm rs2 rs1 funct3 opcode) → funct3_of (row_word (S imm rs2 rs1 funct3 opcode)) ≡ funct3
s_funct3 imm rs2 rs1 funct3 opcode h b = omega arith

pub s_rs1 : (imm rs2 rs1 funct3 opcode : ℕ) → HasOperands (S imm rs2 rs1 funct3 opcode) → HasFixedBits (S imm rs2 rs1 funct3 opcode) → rs1_of (row_word (S imm rs2 rs1 funct3 opcode)) ≡ rs1
s_rs1 imm rs2 rs1 funct3 opcode h b = omega arith

pub s_rs2 : (imm rs2 rs1 funct3 opcode : ℕ) → HasOperands (S imm rs2 rs1 funct3 opcode) → HasFixedBits (S imm rs2 rs1 funct3 opcode) → rs2_of (row_word (S imm rs2 rs1 funct3 opcode)) ≡ rs2
s_rs2 imm rs2 rs1 funct3 opcode h b = omega arith

pub s_imm : (imm rs2 rs1 funct3 opcode : ℕ) → HasOperands (S imm rs2 rs1 funct3 opcode) → HasFixedBits (S imm rs2 rs1 funct3 opcode) → s_imm_of (row_word (S imm rs2 rs1 funct3 opcode)) ≡ imm
s_imm imm rs2 rs1 funct3 opcode h b = omega arith

pub b_opcode : (offset rs2 rs1 funct3 opcode : ℕ) → HasOperands (B offset rs2 rs1 funct3 opcode) → HasFixedBits (B offset rs2 rs1 funct3 opcode) → opcode_of (row_word (B offset rs2 rs1 funct3 opcode)) ≡ opcode
b_opcode offset rs2 rs1 funct3 opcode h b = omega arith

pub b_funct3 : (offset rs2 rs1 funct3 opcode : ℕ) → HasOperands (B offset rs2 rs1 funct3 opcode) → HasFixedBits (B offset rs2 rs1 funct3 opcode) → funct3_of (row_word (B offset rs2 rs1 funct3 opcode)) ≡ funct3
b_funct3 offset rs2 rs1 funct3 opcode h b = omega arith

pub b_rs1 : (offset rs2 rs1 funct3 opcode : ℕ) → HasOperands (B offset rs2 rs1 funct3 opcode) → HasFixedBits (B offset rs2 rs1 funct3 opcode) → rs1_of (row_word (B offset rs2 rs1 funct3 opcode)) ≡ rs1
b_rs1 offset rs2 rs1 funct3 opcode h b = omega arith

pub b_rs2 : (offset rs2 rs1 funct3 opcode : ℕ) → HasOperands (B offset rs2 rs1 funct3 opcode) → HasFixedBits (B offset rs2 rs1 funct3 opcode) → rs2_of (row_word (B offset rs2 rs1 funct3 opcode)) ≡ rs2
b_rs2 offset rs2 rs1 funct3 opcode h b = omega arith

pub b_offset : (offset rs2 rs1 funct3 opcode : ℕ) → HasOperands (B offset rs2 rs1 funct3 opcode) → HasFixedBits (B offset rs2 rs1 funct3 opcode) → b_offset_of (row_word (B offset rs2 rs1 funct3 opcode)) ≡ offset
b_offset offset rs2 rs1 funct3 opcode h b = omega arith

pub u_opcode : (imm rd opcode : ℕ) → HasOperands (U imm rd opcode) → HasFixedBits (U imm rd opcode) → opcode_of (row_word (U imm rd opcode)) ≡ opcode
u_opcode imm rd opcode h b = omega arith

pub u_rd : (imm rd opcode : ℕ) → HasOperands (U imm rd opcode) → HasFixedBits (U imm rd opcode) → rd_of (row_word (U imm rd opcode)) ≡ rd
u_rd imm rd opcode h b = omega arith

pub u_imm : (imm rd opcode : ℕ) → HasOperands (U imm rd opcode) → HasFixedBits (U imm rd opcode) → u_imm_of (row_word (U imm rd opcode)) ≡ imm
u_imm imm rd opcode h b = omega arith

pub j_opcode : (offset rd opcode : ℕ) → HasOperands (J offset rd opcode) → HasFixedBits (J offset rd opcode) → opcode_of (row_word (J offset rd opcode)) ≡ opcode
j_opcode offset rd opcode h b = omega arith

pub j_rd : (offset rd opcode : ℕ) → HasOperands (J offset rd opcode) → HasFixedBits (J offset rd opcode) → rd_of (row_word (J offset rd opcode)) ≡ rd
j_rd offset rd opcode h b = omega arith

pub j_offset : (offset rd opcode : ℕ) → HasOperands (J offset rd opcode) → HasFixedBits (J offset rd opcode) → j_offset_of (row_word (J offset rd opcode)) ≡ offset
j_offset offset rd opcode h b = omega arith

-- What each instruction does, from the registers and the pc before it. RISC-V unprivileged ISA.
use Rattle.std.specs.Prelude.{ℕ, ◌*◌, ◌-◌, ◌%◌, ◌==◌, nat_lt, int_lt, not, true, false, if◌then◌else◌, bit_and, bit_or, bit_xor}
use Rattle.rv_isa.specs.declared.instr.Instr.{Instr}
use Rattle.rv_isa.specs.declared.instr.Instr.TheVariants.{Lb, Lh, Lw, Ld, Lbu, Lhu, Lwu, Sb, Sh, Sw, Sd, Addi, Slli, Slti, Sltiu, Xori, Srli, Srai, Ori, Andi, Addiw, Slliw, Srliw, Sraiw, Add, Sll, Slt, Sltu, Xor, Srl, Or, And, Sub, Sra, Mul, Mulh, Mulhsu, Mulhu, Div, Divu, Rem, Remu, Addw, Sllw, Srlw, Subw, Sraw, Mulw, Divw, Divuw, Remw, Remuw, Beq, Bne, Blt, Bge, Bltu, Bgeu, Jalr, Jal, Lui, Auipc, Ecall, Ebreak}
use Rattle.rv_machine.specs.declared.registers.Core.{Core}
use Rattle.rv_machine.specs.declared.effect.Effect.{Effect}
use Rattle.rv_machine.specs.declared.effect.Effect.TheVariants.{Sets, Loads, Stores, Goes, Calls, Breaks}
use Rattle.rv_machine.specs.declared.size.Size.TheVariants.{One, Two, Four, Eight}
use Rattle.rv_machine.specs.Arithmetic.{extended, signed, sum_of, difference_of, left_shift_of, signed_less_of, less_of, right_shift_of, signed_right_shift_of, product_of, signed_high_product_of, mixed_high_product_of, high_product_of, signed_quotient_of, quotient_of, signed_remainder_of, remainder_of, sum_32_of, difference_32_of, left_shift_32_of, right_shift_32_of, signed_right_shift_32_of, product_32_of, signed_quotient_32_of, quotient_32_of, signed_remainder_32_of, remainder_32_of}
use Rattle.rv_machine.specs.Registers.{register_of, next_pc}

-- the address of a load, a store or JALR
abbrev pub address_of : Core → ℕ → ℕ → ℕ
address_of c rs1 imm = sum_of (register_of c rs1) (extended 12 imm)

-- a number with bit 0 cleared
abbrev pub even : ℕ → ℕ
even n = n - n % 2

-- the effect of an instruction, one equation each
abbrev pub effect_of : Instr → Core → Effect
effect_of (Lb rd rs1 imm) c = Loads rd One true (address_of c rs1 imm)
effect_of (Lh rd rs1 imm) c = Loads rd Two true (address_of c rs1 imm)
effect_of (Lw rd rs1 imm) c = Loads rd Four true (address_of c rs1 imm)
effect_of (Ld rd rs1 imm) c = Loads rd Eight true (address_of c rs1 imm)
effect_of (Lbu rd rs1 imm) c = Loads rd One false (address_of c rs1 imm)
effect_of (Lhu rd rs1 imm) c = Loads rd Two false (address_of c rs1 imm)
effect_of (Lwu rd rs1 imm) c = Loads rd Four false (address_of c rs1 imm)
effect_of (Sb rs2 rs1 imm) c = Stores One (address_of c rs1 imm) (register_of c rs2)
effect_of (Sh rs2 rs1 imm) c = Stores Two (address_of c rs1 imm) (register_of c rs2)
effect_of (Sw rs2 rs1 imm) c = Stores Four (address_of c rs1 imm) (register_of c rs2)
effect_of (Sd rs2 rs1 imm) c = Stores Eight (address_of c rs1 imm) (register_of c rs2)
effect_of (Addi rd rs1 imm) c = Sets rd (sum_of (register_of c rs1) (extended 12 imm))
effect_of (Slli rd rs1 count) c = Sets rd (left_shift_of (register_of c rs1) count)
effect_of (Slti rd rs1 imm) c = Sets rd (signed_less_of (register_of c rs1) (extended 12 imm))
effect_of (Sltiu rd rs1 imm) c = Sets rd (less_of (register_of c rs1) (extended 12 imm))
effect_of (Xori rd rs1 imm) c = Sets rd (bit_xor (register_of c rs1) (extended 12 imm))
effect_of (Srli rd rs1 count) c = Sets rd (right_shift_of (register_of c rs1) count)
effect_of (Srai rd rs1 count) c = Sets rd (signed_right_shift_of (register_of c rs1) count)
effect_of (Ori rd rs1 imm) c = Sets rd (bit_or (register_of c rs1) (extended 12 imm))
effect_of (Andi rd rs1 imm) c = Sets rd (bit_and (register_of c rs1) (extended 12 imm))
effect_of (Addiw rd rs1 imm) c = Sets rd (sum_32_of (register_of c rs1) (extended 12 imm))
effect_of (Slliw rd rs1 count) c = Sets rd (left_shift_32_of (register_of c rs1) count)
effect_of (Srliw rd rs1 count) c = Sets rd (right_shift_32_of (register_of c rs1) count)
effect_of (Sraiw rd rs1 count) c = Sets rd (signed_right_shift_32_of (register_of c rs1) count)
effect_of (Add rd rs1 rs2) c = Sets rd (sum_of (register_of c rs1) (register_of c rs2))
effect_of (Sll rd rs1 rs2) c = Sets rd (left_shift_of (register_of c rs1) (register_of c rs2))
effect_of (Slt rd rs1 rs2) c = Sets rd (signed_less_of (register_of c rs1) (register_of c rs2))
effect_of (Sltu rd rs1 rs2) c = Sets rd (less_of (register_of c rs1) (register_of c rs2))
effect_of (Xor rd rs1 rs2) c = Sets rd (bit_xor (register_of c rs1) (register_of c rs2))
effect_of (Srl rd rs1 rs2) c = Sets rd (right_shift_of (register_of c rs1) (register_of c rs2))
effect_of (Or rd rs1 rs2) c = Sets rd (bit_or (register_of c rs1) (register_of c rs2))
effect_of (And rd rs1 rs2) c = Sets rd (bit_and (register_of c rs1) (register_of c rs2))
effect_of (Sub rd rs1 rs2) c = Sets rd (difference_of (register_of c rs1) (register_of c rs2))
effect_of (Sra rd rs1 rs2) c = Sets rd (signed_right_shift_of (register_of c rs1) (register_of c rs2))
effect_of (Mul rd rs1 rs2) c = Sets rd (product_of (register_of c rs1) (register_of c rs2))
effect_of (Mulh rd rs1 rs2) c = Sets rd (signed_high_product_of (register_of c rs1) (register_of c rs2))
effect_of (Mulhsu rd rs1 rs2) c = Sets rd (mixed_high_product_of (register_of c rs1) (register_of c rs2))
effect_of (Mulhu rd rs1 rs2) c = Sets rd (high_product_of (register_of c rs1) (register_of c rs2))
effect_of (Div rd rs1 rs2) c = Sets rd (signed_quotient_of (register_of c rs1) (register_of c rs2))
effect_of (Divu rd rs1 rs2) c = Sets rd (quotient_of (register_of c rs1) (register_of c rs2))
effect_of (Rem rd rs1 rs2) c = Sets rd (signed_remainder_of (register_of c rs1) (register_of c rs2))
effect_of (Remu rd rs1 rs2) c = Sets rd (remainder_of (register_of c rs1) (register_of c rs2))
effect_of (Addw rd rs1 rs2) c = Sets rd (sum_32_of (register_of c rs1) (register_of c rs2))
effect_of (Sllw rd rs1 rs2) c = Sets rd (left_shift_32_of (register_of c rs1) (register_of c rs2))
effect_of (Srlw rd rs1 rs2) c = Sets rd (right_shift_32_of (register_of c rs1) (register_of c rs2))
effect_of (Subw rd rs1 rs2) c = Sets rd (difference_32_of (register_of c rs1) (register_of c rs2))
effect_of (Sraw rd rs1 rs2) c = Sets rd (signed_right_shift_32_of (register_of c rs1) (register_of c rs2))
effect_of (Mulw rd rs1 rs2) c = Sets rd (product_32_of (register_of c rs1) (register_of c rs2))
effect_of (Divw rd rs1 rs2) c = Sets rd (signed_quotient_32_of (register_of c rs1) (register_of c rs2))
effect_of (Divuw rd rs1 rs2) c = Sets rd (quotient_32_of (register_of c rs1) (register_of c rs2))
effect_of (Remw rd rs1 rs2) c = Sets rd (signed_remainder_32_of (register_of c rs1) (register_of c rs2))
effect_of (Remuw rd rs1 rs2) c = Sets rd (remainder_32_of (register_of c rs1) (register_of c rs2))
effect_of (Beq rs1 rs2 offset) c = Goes 0 (if register_of c rs1 == register_of c rs2 then sum_of c.pc (extended 13 offset) else next_pc c)
effect_of (Bne rs1 rs2 offset) c = Goes 0 (if not (register_of c rs1 == register_of c rs2) then sum_of c.pc (extended 13 offset) else next_pc c)
effect_of (Blt rs1 rs2 offset) c = Goes 0 (if int_lt (signed (register_of c rs1)) (signed (register_of c rs2)) then sum_of c.pc (extended 13 offset) else next_pc c)
effect_of (Bge rs1 rs2 offset) c = Goes 0 (if not (int_lt (signed (register_of c rs1)) (signed (register_of c rs2))) then sum_of c.pc (extended 13 offset) else next_pc c)
effect_of (Bltu rs1 rs2 offset) c = Goes 0 (if nat_lt (register_of c rs1) (register_of c rs2) then sum_of c.pc (extended 13 offset) else next_pc c)
effect_of (Bgeu rs1 rs2 offset) c = Goes 0 (if not (nat_lt (register_of c rs1) (register_of c rs2)) then sum_of c.pc (extended 13 offset) else next_pc c)
effect_of (Jalr rd rs1 imm) c = Goes rd (even (address_of c rs1 imm))
effect_of (Jal rd offset) c = Goes rd (sum_of c.pc (extended 21 offset))
effect_of (Lui rd imm) c = Sets rd (extended 32 (4096 * imm))
effect_of (Auipc rd imm) c = Sets rd (sum_of c.pc (extended 32 (4096 * imm)))
effect_of Ecall c = Calls
effect_of Ebreak c = Breaks

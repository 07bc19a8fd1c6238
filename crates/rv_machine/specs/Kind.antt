-- The kinds of instruction by what they do, and the operations and conditions among which a kind chooses.
use Rattle.std.specs.Prelude.{ℕ, Bool, ◌*◌, ◌==◌, nat_lt, int_lt, not, if◌then◌else◌, bit_and, bit_or, bit_xor}
use Rattle.rv_machine.specs.declared.registers.Core.{Core}
use Rattle.rv_machine.specs.declared.effect.Effect.{Effect}
use Rattle.rv_machine.specs.declared.effect.Effect.TheVariants.{Sets, Loads, Stores, Goes, Calls, Breaks}
use Rattle.rv_machine.specs.declared.kind.Kind.{Kind}
use Rattle.rv_machine.specs.declared.kind.Kind.TheVariants.{Load, Store, Immediate, LongShift, ShortShift, Register, Branch, JumpTo, Jump, Upper, UpperPc, Service, Stop}
use Rattle.rv_machine.specs.declared.operation.Operation.{Operation}
use Rattle.rv_machine.specs.declared.operation.Operation.TheVariants as op
use Rattle.rv_machine.specs.declared.condition.Condition.{Condition}
use Rattle.rv_machine.specs.declared.condition.Condition.TheVariants.{Equal, Unequal, SignedLess, SignedNotLess, Less, NotLess}
use Rattle.rv_machine.specs.Arithmetic.{extended, signed, sum_of, difference_of, left_shift_of, signed_less_of, less_of, right_shift_of, signed_right_shift_of, product_of, signed_high_product_of, mixed_high_product_of, high_product_of, signed_quotient_of, quotient_of, signed_remainder_of, remainder_of, sum_32_of, difference_32_of, left_shift_32_of, right_shift_32_of, signed_right_shift_32_of, product_32_of, signed_quotient_32_of, quotient_32_of, signed_remainder_32_of, remainder_32_of}
use Rattle.rv_machine.specs.Registers.{register_of, next_pc}
use Rattle.rv_machine.specs.Effect.{address_of, even}

-- what an operation gives of two words
abbrev pub result_of : Operation → ℕ → ℕ → ℕ
result_of op.Add a b = sum_of a b
result_of op.Sll a b = left_shift_of a b
result_of op.Slt a b = signed_less_of a b
result_of op.Sltu a b = less_of a b
result_of op.Xor a b = bit_xor a b
result_of op.Srl a b = right_shift_of a b
result_of op.Or a b = bit_or a b
result_of op.And a b = bit_and a b
result_of op.Sub a b = difference_of a b
result_of op.Sra a b = signed_right_shift_of a b
result_of op.Mul a b = product_of a b
result_of op.Mulh a b = signed_high_product_of a b
result_of op.Mulhsu a b = mixed_high_product_of a b
result_of op.Mulhu a b = high_product_of a b
result_of op.Div a b = signed_quotient_of a b
result_of op.Divu a b = quotient_of a b
result_of op.Rem a b = signed_remainder_of a b
result_of op.Remu a b = remainder_of a b
result_of op.Addw a b = sum_32_of a b
result_of op.Sllw a b = left_shift_32_of a b
result_of op.Srlw a b = right_shift_32_of a b
result_of op.Subw a b = difference_32_of a b
result_of op.Sraw a b = signed_right_shift_32_of a b
result_of op.Mulw a b = product_32_of a b
result_of op.Divw a b = signed_quotient_32_of a b
result_of op.Divuw a b = quotient_32_of a b
result_of op.Remw a b = signed_remainder_32_of a b
result_of op.Remuw a b = remainder_32_of a b

-- whether a condition holds of two words
abbrev pub holds_of : Condition → ℕ → ℕ → Bool
holds_of Equal a b = a == b
holds_of Unequal a b = not (a == b)
holds_of SignedLess a b = int_lt (signed a) (signed b)
holds_of SignedNotLess a b = not (int_lt (signed a) (signed b))
holds_of Less a b = nat_lt a b
holds_of NotLess a b = not (nat_lt a b)

-- the effect of a kind of instruction
abbrev pub kind_effect : Kind → Core → Effect
kind_effect (Load size sign rd rs1 imm) c = Loads rd size sign (address_of c rs1 imm)
kind_effect (Store size rs2 rs1 imm) c = Stores size (address_of c rs1 imm) (register_of c rs2)
kind_effect (Immediate operation rd rs1 imm) c = Sets rd (result_of operation (register_of c rs1) (extended 12 imm))
kind_effect (LongShift operation rd rs1 count) c = Sets rd (result_of operation (register_of c rs1) count)
kind_effect (ShortShift operation rd rs1 count) c = Sets rd (result_of operation (register_of c rs1) count)
kind_effect (Register operation rd rs1 rs2) c = Sets rd (result_of operation (register_of c rs1) (register_of c rs2))
kind_effect (Branch condition rs1 rs2 offset) c =
    Goes 0 (if holds_of condition (register_of c rs1) (register_of c rs2) then sum_of c.pc (extended 13 offset) else next_pc c)
kind_effect (JumpTo rd rs1 imm) c = Goes rd (even (address_of c rs1 imm))
kind_effect (Jump rd offset) c = Goes rd (sum_of c.pc (extended 21 offset))
kind_effect (Upper rd imm) c = Sets rd (extended 32 (4096 * imm))
kind_effect (UpperPc rd imm) c = Sets rd (sum_of c.pc (extended 32 (4096 * imm)))
kind_effect Service c = Calls
kind_effect Stop c = Breaks

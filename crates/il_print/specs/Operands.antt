-- Operands in code and in the definitions.
use Rattle.il_model.specs.Ops as ops
use Rattle.il_print.specs.declared.operand.Operand.{Operand}
use Rattle.il_print.specs.declared.operand.Operand.TheVariants as operand

abbrev pub seen : Operand → ops.Operand
seen operand.Nothing = ops.nothing
seen (operand.Int32 n) = ops.int32 n
seen (operand.Int64 n) = ops.int64 n
seen (operand.Literal number) = ops.literal number
seen (operand.Place number) = ops.place number
seen (operand.Target to) = ops.target to
seen (operand.Targets to) = ops.targets to.now
seen (operand.Type t) = ops.type t.now
seen (operand.Method m) = ops.method m.now
seen (operand.Field f) = ops.field f.now
seen (operand.Constrained t m) = ops.constrained t.now m.now

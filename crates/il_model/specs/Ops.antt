-- An instruction's form, and what it names besides. After ECMA-335, Partition III.
use Rattle.std.specs.Prelude.{ℕ, ℤ, List}
use Rattle.type_tree.specs.declared.tree.TExpr.{TExpr}
use Rattle.il_model.specs.declared.member.MRef.{MRef}
use Rattle.il_model.specs.declared.member.FRef.{FRef}
use Rattle.il_model.specs.declared.op.Op.{Op}
use Rattle.il_model.specs.declared.op.Op.TheVariants as op
use Rattle.il_model.specs.declared.form.Form.{Form}
use Rattle.il_model.specs.declared.form.Form.TheVariants as form

-- what an instruction holds: a number, the number of a literal, of a place or of an instruction, types and members
pub data Operand : Type 0 where
  nothing : Operand
  int32 : ℤ → Operand
  int64 : ℤ → Operand
  literal : ℕ → Operand
  place : ℕ → Operand
  target : ℕ → Operand
  targets : List ℕ → Operand
  type : TExpr → Operand
  method : MRef → Operand
  field : FRef → Operand
  constrained : TExpr → MRef → Operand

abbrev pub form_of : Op → Form
form_of op.Nop = form.Nop
form_of op.Dup = form.Dup
form_of op.Pop = form.Pop
form_of (op.LdcI4 n) = form.LdcI4
form_of (op.LdcI8 n) = form.LdcI8
form_of op.Ldnull = form.Ldnull
form_of (op.Ldstr n) = form.Ldstr
form_of (op.Ldarg n) = form.Ldarg
form_of (op.Ldloc n) = form.Ldloc
form_of (op.Ldarga n) = form.Ldarga
form_of (op.Ldloca n) = form.Ldloca
form_of (op.Starg n) = form.Starg
form_of (op.Stloc n) = form.Stloc
form_of op.Add = form.Add
form_of op.Sub = form.Sub
form_of op.Mul = form.Mul
form_of op.And = form.And
form_of op.Or = form.Or
form_of op.Xor = form.Xor
form_of op.AddOvf = form.AddOvf
form_of op.SubOvf = form.SubOvf
form_of op.MulOvf = form.MulOvf
form_of op.AddOvfUn = form.AddOvfUn
form_of op.SubOvfUn = form.SubOvfUn
form_of op.MulOvfUn = form.MulOvfUn
form_of op.Div = form.Div
form_of op.Rem = form.Rem
form_of op.DivUn = form.DivUn
form_of op.RemUn = form.RemUn
form_of op.Shl = form.Shl
form_of op.Shr = form.Shr
form_of op.ShrUn = form.ShrUn
form_of op.Neg = form.Neg
form_of op.Not = form.Not
form_of op.ConvI4 = form.ConvI4
form_of op.ConvI8 = form.ConvI8
form_of op.ConvU8 = form.ConvU8
form_of op.ConvOvfI4 = form.ConvOvfI4
form_of op.Ceq = form.Ceq
form_of op.Cgt = form.Cgt
form_of op.CgtUn = form.CgtUn
form_of op.Clt = form.Clt
form_of op.CltUn = form.CltUn
form_of (op.Br to) = form.Br
form_of (op.Brtrue to) = form.Brtrue
form_of (op.Brfalse to) = form.Brfalse
form_of (op.Beq to) = form.Beq
form_of (op.BneUn to) = form.BneUn
form_of (op.Bge to) = form.Bge
form_of (op.Bgt to) = form.Bgt
form_of (op.Ble to) = form.Ble
form_of (op.Blt to) = form.Blt
form_of (op.BgeUn to) = form.BgeUn
form_of (op.BgtUn to) = form.BgtUn
form_of (op.BleUn to) = form.BleUn
form_of (op.BltUn to) = form.BltUn
form_of (op.Switch to) = form.Switch
form_of (op.Leave to) = form.Leave
form_of (op.Call m) = form.Call
form_of (op.Callvirt m) = form.Callvirt
form_of (op.Constrained t m) = form.Constrained
form_of (op.Newobj m) = form.Newobj
form_of op.Ret = form.Ret
form_of (op.Ldfld f) = form.Ldfld
form_of (op.Stfld f) = form.Stfld
form_of (op.Ldflda f) = form.Ldflda
form_of (op.Ldsfld f) = form.Ldsfld
form_of (op.Stsfld f) = form.Stsfld
form_of (op.Ldsflda f) = form.Ldsflda
form_of (op.Ldobj t) = form.Ldobj
form_of (op.Stobj t) = form.Stobj
form_of (op.Initobj t) = form.Initobj
form_of (op.Newarr t) = form.Newarr
form_of op.Ldlen = form.Ldlen
form_of (op.Ldelem t) = form.Ldelem
form_of (op.Stelem t) = form.Stelem
form_of (op.Box t) = form.Box
form_of (op.UnboxAny t) = form.UnboxAny
form_of (op.Castclass t) = form.Castclass
form_of (op.Isinst t) = form.Isinst
form_of op.Throw = form.Throw
form_of op.WriteLineInt32 = form.WriteLineInt32
form_of op.WriteLineInt64 = form.WriteLineInt64
form_of op.WriteLineString = form.WriteLineString
form_of op.CompareExchangeInt32 = form.CompareExchangeInt32
form_of op.CompareExchangeInt64 = form.CompareExchangeInt64
form_of op.CompareExchangeObject = form.CompareExchangeObject
form_of op.ExchangeInt32 = form.ExchangeInt32
form_of op.ExchangeInt64 = form.ExchangeInt64
form_of op.ExchangeObject = form.ExchangeObject
form_of op.AddInt32 = form.AddInt32
form_of op.AddInt64 = form.AddInt64
form_of (op.NameOf t) = form.NameOf
form_of op.Start = form.Start
form_of op.Join = form.Join
form_of op.Endfinally = form.Endfinally
form_of op.Rethrow = form.Rethrow
form_of (op.Ldftn m) = form.Ldftn
form_of (op.Ldvirtftn m) = form.Ldvirtftn

abbrev pub operand_of : Op → Operand
operand_of op.Nop = nothing
operand_of op.Dup = nothing
operand_of op.Pop = nothing
operand_of (op.LdcI4 n) = int32 n
operand_of (op.LdcI8 n) = int64 n
operand_of op.Ldnull = nothing
operand_of (op.Ldstr n) = literal n
operand_of (op.Ldarg n) = place n
operand_of (op.Ldloc n) = place n
operand_of (op.Ldarga n) = place n
operand_of (op.Ldloca n) = place n
operand_of (op.Starg n) = place n
operand_of (op.Stloc n) = place n
operand_of op.Add = nothing
operand_of op.Sub = nothing
operand_of op.Mul = nothing
operand_of op.And = nothing
operand_of op.Or = nothing
operand_of op.Xor = nothing
operand_of op.AddOvf = nothing
operand_of op.SubOvf = nothing
operand_of op.MulOvf = nothing
operand_of op.AddOvfUn = nothing
operand_of op.SubOvfUn = nothing
operand_of op.MulOvfUn = nothing
operand_of op.Div = nothing
operand_of op.Rem = nothing
operand_of op.DivUn = nothing
operand_of op.RemUn = nothing
operand_of op.Shl = nothing
operand_of op.Shr = nothing
operand_of op.ShrUn = nothing
operand_of op.Neg = nothing
operand_of op.Not = nothing
operand_of op.ConvI4 = nothing
operand_of op.ConvI8 = nothing
operand_of op.ConvU8 = nothing
operand_of op.ConvOvfI4 = nothing
operand_of op.Ceq = nothing
operand_of op.Cgt = nothing
operand_of op.CgtUn = nothing
operand_of op.Clt = nothing
operand_of op.CltUn = nothing
operand_of (op.Br to) = target to
operand_of (op.Brtrue to) = target to
operand_of (op.Brfalse to) = target to
operand_of (op.Beq to) = target to
operand_of (op.BneUn to) = target to
operand_of (op.Bge to) = target to
operand_of (op.Bgt to) = target to
operand_of (op.Ble to) = target to
operand_of (op.Blt to) = target to
operand_of (op.BgeUn to) = target to
operand_of (op.BgtUn to) = target to
operand_of (op.BleUn to) = target to
operand_of (op.BltUn to) = target to
operand_of (op.Switch to) = targets to
operand_of (op.Leave to) = target to
operand_of (op.Call m) = method m
operand_of (op.Callvirt m) = method m
operand_of (op.Constrained t m) = constrained t m
operand_of (op.Newobj m) = method m
operand_of op.Ret = nothing
operand_of (op.Ldfld f) = field f
operand_of (op.Stfld f) = field f
operand_of (op.Ldflda f) = field f
operand_of (op.Ldsfld f) = field f
operand_of (op.Stsfld f) = field f
operand_of (op.Ldsflda f) = field f
operand_of (op.Ldobj t) = type t
operand_of (op.Stobj t) = type t
operand_of (op.Initobj t) = type t
operand_of (op.Newarr t) = type t
operand_of op.Ldlen = nothing
operand_of (op.Ldelem t) = type t
operand_of (op.Stelem t) = type t
operand_of (op.Box t) = type t
operand_of (op.UnboxAny t) = type t
operand_of (op.Castclass t) = type t
operand_of (op.Isinst t) = type t
operand_of op.Throw = nothing
operand_of op.WriteLineInt32 = nothing
operand_of op.WriteLineInt64 = nothing
operand_of op.WriteLineString = nothing
operand_of op.CompareExchangeInt32 = nothing
operand_of op.CompareExchangeInt64 = nothing
operand_of op.CompareExchangeObject = nothing
operand_of op.ExchangeInt32 = nothing
operand_of op.ExchangeInt64 = nothing
operand_of op.ExchangeObject = nothing
operand_of op.AddInt32 = nothing
operand_of op.AddInt64 = nothing
operand_of (op.NameOf t) = type t
operand_of op.Start = nothing
operand_of op.Join = nothing
operand_of op.Endfinally = nothing
operand_of op.Rethrow = nothing
operand_of (op.Ldftn m) = method m
operand_of (op.Ldvirtftn m) = method m

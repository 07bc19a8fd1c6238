-- Instructions from their form and what they hold: the way back from `form_of` and `operand_of`.
use Rattle.std.specs.Prelude.{ℕ, ℤ, List, Option, Some, None}
use Rattle.type_tree.specs.declared.tree.TExpr.{TExpr}
use Rattle.il_model.specs.declared.member.MRef.{MRef}
use Rattle.il_model.specs.declared.member.FRef.{FRef}
use Rattle.il_model.specs.declared.op.Op.{Op}
use Rattle.il_model.specs.declared.op.Op.TheVariants as op
use Rattle.il_model.specs.declared.form.Form.{Form}
use Rattle.il_model.specs.declared.form.Form.TheVariants as form
use Rattle.il_model.specs.Ops.{Operand, nothing, int32, int64, literal, place, target, targets, type, method, field, constrained}

-- an instruction made of one kind of operand; of any other there is none

abbrev pub with_nothing : Op → Operand → Option Op
with_nothing made nothing = Some made
with_nothing made _ = None

abbrev pub with_int32 : (ℤ → Op) → Operand → Option Op
with_int32 make (int32 x) = Some (make x)
with_int32 make _ = None

abbrev pub with_int64 : (ℤ → Op) → Operand → Option Op
with_int64 make (int64 x) = Some (make x)
with_int64 make _ = None

abbrev pub with_literal : (ℕ → Op) → Operand → Option Op
with_literal make (literal x) = Some (make x)
with_literal make _ = None

abbrev pub with_place : (ℕ → Op) → Operand → Option Op
with_place make (place x) = Some (make x)
with_place make _ = None

abbrev pub with_target : (ℕ → Op) → Operand → Option Op
with_target make (target x) = Some (make x)
with_target make _ = None

abbrev pub with_targets : (List ℕ → Op) → Operand → Option Op
with_targets make (targets x) = Some (make x)
with_targets make _ = None

abbrev pub with_type : (TExpr → Op) → Operand → Option Op
with_type make (type x) = Some (make x)
with_type make _ = None

abbrev pub with_method : (MRef → Op) → Operand → Option Op
with_method make (method x) = Some (make x)
with_method make _ = None

abbrev pub with_field : (FRef → Op) → Operand → Option Op
with_field make (field x) = Some (make x)
with_field make _ = None

abbrev pub with_constrained : (TExpr → MRef → Op) → Operand → Option Op
with_constrained make (constrained t m) = Some (make t m)
with_constrained make _ = None

-- the instruction of this form that holds this, if the form holds such
unfoldable pub op_of : Form → Operand → Option Op
op_of form.Nop o = with_nothing op.Nop o
op_of form.Dup o = with_nothing op.Dup o
op_of form.Pop o = with_nothing op.Pop o
op_of form.LdcI4 o = with_int32 op.LdcI4 o
op_of form.LdcI8 o = with_int64 op.LdcI8 o
op_of form.Ldnull o = with_nothing op.Ldnull o
op_of form.Ldstr o = with_literal op.Ldstr o
op_of form.Ldarg o = with_place op.Ldarg o
op_of form.Ldloc o = with_place op.Ldloc o
op_of form.Ldarga o = with_place op.Ldarga o
op_of form.Ldloca o = with_place op.Ldloca o
op_of form.Starg o = with_place op.Starg o
op_of form.Stloc o = with_place op.Stloc o
op_of form.Add o = with_nothing op.Add o
op_of form.Sub o = with_nothing op.Sub o
op_of form.Mul o = with_nothing op.Mul o
op_of form.And o = with_nothing op.And o
op_of form.Or o = with_nothing op.Or o
op_of form.Xor o = with_nothing op.Xor o
op_of form.AddOvf o = with_nothing op.AddOvf o
op_of form.SubOvf o = with_nothing op.SubOvf o
op_of form.MulOvf o = with_nothing op.MulOvf o
op_of form.AddOvfUn o = with_nothing op.AddOvfUn o
op_of form.SubOvfUn o = with_nothing op.SubOvfUn o
op_of form.MulOvfUn o = with_nothing op.MulOvfUn o
op_of form.Div o = with_nothing op.Div o
op_of form.Rem o = with_nothing op.Rem o
op_of form.DivUn o = with_nothing op.DivUn o
op_of form.RemUn o = with_nothing op.RemUn o
op_of form.Shl o = with_nothing op.Shl o
op_of form.Shr o = with_nothing op.Shr o
op_of form.ShrUn o = with_nothing op.ShrUn o
op_of form.Neg o = with_nothing op.Neg o
op_of form.Not o = with_nothing op.Not o
op_of form.ConvI4 o = with_nothing op.ConvI4 o
op_of form.ConvI8 o = with_nothing op.ConvI8 o
op_of form.ConvU8 o = with_nothing op.ConvU8 o
op_of form.ConvOvfI4 o = with_nothing op.ConvOvfI4 o
op_of form.Ceq o = with_nothing op.Ceq o
op_of form.Cgt o = with_nothing op.Cgt o
op_of form.CgtUn o = with_nothing op.CgtUn o
op_of form.Clt o = with_nothing op.Clt o
op_of form.CltUn o = with_nothing op.CltUn o
op_of form.Br o = with_target op.Br o
op_of form.Brtrue o = with_target op.Brtrue o
op_of form.Brfalse o = with_target op.Brfalse o
op_of form.Beq o = with_target op.Beq o
op_of form.BneUn o = with_target op.BneUn o
op_of form.Bge o = with_target op.Bge o
op_of form.Bgt o = with_target op.Bgt o
op_of form.Ble o = with_target op.Ble o
op_of form.Blt o = with_target op.Blt o
op_of form.BgeUn o = with_target op.BgeUn o
op_of form.BgtUn o = with_target op.BgtUn o
op_of form.BleUn o = with_target op.BleUn o
op_of form.BltUn o = with_target op.BltUn o
op_of form.Switch o = with_targets op.Switch o
op_of form.Leave o = with_target op.Leave o
op_of form.Call o = with_method op.Call o
op_of form.Callvirt o = with_method op.Callvirt o
op_of form.Constrained o = with_constrained op.Constrained o
op_of form.Newobj o = with_method op.Newobj o
op_of form.Ret o = with_nothing op.Ret o
op_of form.Ldfld o = with_field op.Ldfld o
op_of form.Stfld o = with_field op.Stfld o
op_of form.Ldflda o = with_field op.Ldflda o
op_of form.Ldsfld o = with_field op.Ldsfld o
op_of form.Stsfld o = with_field op.Stsfld o
op_of form.Ldsflda o = with_field op.Ldsflda o
op_of form.Ldobj o = with_type op.Ldobj o
op_of form.Stobj o = with_type op.Stobj o
op_of form.Initobj o = with_type op.Initobj o
op_of form.Newarr o = with_type op.Newarr o
op_of form.Ldlen o = with_nothing op.Ldlen o
op_of form.Ldelem o = with_type op.Ldelem o
op_of form.Stelem o = with_type op.Stelem o
op_of form.Box o = with_type op.Box o
op_of form.UnboxAny o = with_type op.UnboxAny o
op_of form.Castclass o = with_type op.Castclass o
op_of form.Isinst o = with_type op.Isinst o
op_of form.Throw o = with_nothing op.Throw o
op_of form.WriteLineInt32 o = with_nothing op.WriteLineInt32 o
op_of form.WriteLineInt64 o = with_nothing op.WriteLineInt64 o
op_of form.WriteLineString o = with_nothing op.WriteLineString o
op_of form.CompareExchangeInt32 o = with_nothing op.CompareExchangeInt32 o
op_of form.CompareExchangeInt64 o = with_nothing op.CompareExchangeInt64 o
op_of form.CompareExchangeObject o = with_nothing op.CompareExchangeObject o
op_of form.ExchangeInt32 o = with_nothing op.ExchangeInt32 o
op_of form.ExchangeInt64 o = with_nothing op.ExchangeInt64 o
op_of form.ExchangeObject o = with_nothing op.ExchangeObject o
op_of form.AddInt32 o = with_nothing op.AddInt32 o
op_of form.AddInt64 o = with_nothing op.AddInt64 o
op_of form.NameOf o = with_type op.NameOf o
op_of form.Start o = with_nothing op.Start o
op_of form.Join o = with_nothing op.Join o
op_of form.Endfinally o = with_nothing op.Endfinally o
op_of form.Rethrow o = with_nothing op.Rethrow o
op_of form.Ldftn o = with_method op.Ldftn o
op_of form.Ldvirtftn o = with_method op.Ldvirtftn o

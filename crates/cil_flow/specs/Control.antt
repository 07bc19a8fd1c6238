-- Where control goes from an instruction. After ECMA-335, Partition III.
use Rattle.std.specs.Prelude.{ℕ, ◌+◌, Bool, true, false, ◌&&◌, ◌||◌, List, [], ◌∷◌}
use Rattle.std.specs.List.{list_any}
use Rattle.il_model.specs.declared.op.Op.{Op}
use Rattle.il_model.specs.declared.form.Form.{Form}
use Rattle.il_model.specs.declared.form.Form.TheVariants as form
use Rattle.il_model.specs.Ops.{Operand, form_of, operand_of, nothing, int32, int64, literal, place, target, targets, type, method, field, constrained}
use Rattle.cil_flow.specs.declared.control.Control.{Control}
use Rattle.cil_flow.specs.declared.control.Control.TheVariants as control

-- how each form goes on, in the order of the table of instructions
abbrev pub control_of : Form → Control
control_of form.Nop = control.Falls
control_of form.Dup = control.Falls
control_of form.Pop = control.Falls
control_of form.LdcI4 = control.Falls
control_of form.LdcI8 = control.Falls
control_of form.Ldnull = control.Falls
control_of form.Ldstr = control.Falls
control_of form.Ldarg = control.Falls
control_of form.Ldloc = control.Falls
control_of form.Ldarga = control.Falls
control_of form.Ldloca = control.Falls
control_of form.Starg = control.Falls
control_of form.Stloc = control.Falls
control_of form.Add = control.Falls
control_of form.Sub = control.Falls
control_of form.Mul = control.Falls
control_of form.And = control.Falls
control_of form.Or = control.Falls
control_of form.Xor = control.Falls
control_of form.AddOvf = control.Falls
control_of form.SubOvf = control.Falls
control_of form.MulOvf = control.Falls
control_of form.AddOvfUn = control.Falls
control_of form.SubOvfUn = control.Falls
control_of form.MulOvfUn = control.Falls
control_of form.Div = control.Falls
control_of form.Rem = control.Falls
control_of form.DivUn = control.Falls
control_of form.RemUn = control.Falls
control_of form.Shl = control.Falls
control_of form.Shr = control.Falls
control_of form.ShrUn = control.Falls
control_of form.Neg = control.Falls
control_of form.Not = control.Falls
control_of form.ConvI4 = control.Falls
control_of form.ConvI8 = control.Falls
control_of form.ConvU8 = control.Falls
control_of form.ConvOvfI4 = control.Falls
control_of form.Ceq = control.Falls
control_of form.Cgt = control.Falls
control_of form.CgtUn = control.Falls
control_of form.Clt = control.Falls
control_of form.CltUn = control.Falls
control_of form.Br = control.Jumps
control_of form.Brtrue = control.Branches
control_of form.Brfalse = control.Branches
control_of form.Beq = control.Branches
control_of form.BneUn = control.Branches
control_of form.Bge = control.Branches
control_of form.Bgt = control.Branches
control_of form.Ble = control.Branches
control_of form.Blt = control.Branches
control_of form.BgeUn = control.Branches
control_of form.BgtUn = control.Branches
control_of form.BleUn = control.Branches
control_of form.BltUn = control.Branches
control_of form.Switch = control.Branches
control_of form.Leave = control.Leaves
control_of form.Call = control.Falls
control_of form.Callvirt = control.Falls
control_of form.Constrained = control.Falls
control_of form.Newobj = control.Falls
control_of form.Ret = control.Returns
control_of form.Ldfld = control.Falls
control_of form.Stfld = control.Falls
control_of form.Ldflda = control.Falls
control_of form.Ldsfld = control.Falls
control_of form.Stsfld = control.Falls
control_of form.Ldsflda = control.Falls
control_of form.Ldobj = control.Falls
control_of form.Stobj = control.Falls
control_of form.Initobj = control.Falls
control_of form.Newarr = control.Falls
control_of form.Ldlen = control.Falls
control_of form.Ldelem = control.Falls
control_of form.Stelem = control.Falls
control_of form.Box = control.Falls
control_of form.UnboxAny = control.Falls
control_of form.Castclass = control.Falls
control_of form.Isinst = control.Falls
control_of form.Throw = control.Stops
control_of form.WriteLineInt32 = control.Falls
control_of form.WriteLineInt64 = control.Falls
control_of form.WriteLineString = control.Falls
control_of form.CompareExchangeInt32 = control.Falls
control_of form.CompareExchangeInt64 = control.Falls
control_of form.CompareExchangeObject = control.Falls
control_of form.ExchangeInt32 = control.Falls
control_of form.ExchangeInt64 = control.Falls
control_of form.ExchangeObject = control.Falls
control_of form.AddInt32 = control.Falls
control_of form.AddInt64 = control.Falls
control_of form.NameOf = control.Falls
control_of form.Start = control.Falls
control_of form.Join = control.Falls
control_of form.Endfinally = control.Refused
control_of form.Rethrow = control.Refused
control_of form.Ldftn = control.Refused
control_of form.Ldvirtftn = control.Refused

-- whether control goes on to the next instruction, at least in one case
abbrev pub falls : Control → Bool
falls control.Falls = true
falls control.Jumps = false
falls control.Branches = true
falls control.Leaves = false
falls control.Returns = false
falls control.Stops = false
falls control.Refused = false

abbrev pub targets_in : Operand → List ℕ
targets_in nothing = []
targets_in (int32 n) = []
targets_in (int64 n) = []
targets_in (literal n) = []
targets_in (place n) = []
targets_in (target to) = to ∷ []
targets_in (targets to) = to
targets_in (type t) = []
targets_in (method m) = []
targets_in (field f) = []
targets_in (constrained t m) = []

-- the targets that an instruction names
abbrev pub targets_of : Op → List ℕ
targets_of i = targets_in (operand_of i)

abbrev pub control_at : Op → Control
control_at i = control_of (form_of i)

-- whether some instruction that the one at this number goes on to passes the test: one of its targets, or the next one where it falls on
abbrev pub any_follower : (ℕ → Bool) → Op → ℕ → Bool
any_follower test i at = list_any test (targets_of i) || falls (control_at i) && test (at + 1)

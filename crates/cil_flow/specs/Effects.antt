-- How many values each form takes from the stack and leaves on it. After ECMA-335, Partition III; the library's calls are this project's own.
use Rattle.std.specs.Prelude.{ℕ, ◌+◌, Bool, if◌then◌else◌, length, is_some}
use Rattle.il_model.specs.declared.member.MRef.{MRef}
use Rattle.il_model.specs.declared.op.Op.{Op}
use Rattle.il_model.specs.declared.op.Op.TheVariants as op
use Rattle.cil_flow.specs.declared.effect.Effect.{Effect}

abbrev pub moves : ℕ → ℕ → Effect
moves takes leaves = record { takes = takes; leaves = leaves }

-- one value where the answer is yes
abbrev pub count_if : Bool → ℕ
count_if b = if b then 1 else 0

-- the values that a call leaves: its result, if it has one
abbrev pub result_count : MRef → ℕ
result_count m = count_if (is_some m.result)

-- a call takes its arguments, and an object before them exactly where `instance` is written
abbrev pub call_effect : MRef → Effect
call_effect m = moves (length m.params + count_if m.instance) (result_count m)

-- the pointer before the arguments is always taken
abbrev pub constrained_effect : MRef → Effect
constrained_effect m = moves (length m.params + 1) (result_count m)

-- a new object or struct in place of the arguments
abbrev pub new_effect : MRef → Effect
new_effect m = moves (length m.params) 1

-- the effect of an instruction, in a method that has a result or has none. `leave` takes away all that is there, besides
abbrev pub effect_of : Bool → Op → Effect
effect_of has_result op.Nop = moves 0 0
effect_of has_result op.Dup = moves 1 2
effect_of has_result op.Pop = moves 1 0
effect_of has_result (op.LdcI4 n) = moves 0 1
effect_of has_result (op.LdcI8 n) = moves 0 1
effect_of has_result op.Ldnull = moves 0 1
effect_of has_result (op.Ldstr n) = moves 0 1
effect_of has_result (op.Ldarg n) = moves 0 1
effect_of has_result (op.Ldloc n) = moves 0 1
effect_of has_result (op.Ldarga n) = moves 0 1
effect_of has_result (op.Ldloca n) = moves 0 1
effect_of has_result (op.Starg n) = moves 1 0
effect_of has_result (op.Stloc n) = moves 1 0
effect_of has_result op.Add = moves 2 1
effect_of has_result op.Sub = moves 2 1
effect_of has_result op.Mul = moves 2 1
effect_of has_result op.And = moves 2 1
effect_of has_result op.Or = moves 2 1
effect_of has_result op.Xor = moves 2 1
effect_of has_result op.AddOvf = moves 2 1
effect_of has_result op.SubOvf = moves 2 1
effect_of has_result op.MulOvf = moves 2 1
effect_of has_result op.AddOvfUn = moves 2 1
effect_of has_result op.SubOvfUn = moves 2 1
effect_of has_result op.MulOvfUn = moves 2 1
effect_of has_result op.Div = moves 2 1
effect_of has_result op.Rem = moves 2 1
effect_of has_result op.DivUn = moves 2 1
effect_of has_result op.RemUn = moves 2 1
effect_of has_result op.Shl = moves 2 1
effect_of has_result op.Shr = moves 2 1
effect_of has_result op.ShrUn = moves 2 1
effect_of has_result op.Neg = moves 1 1
effect_of has_result op.Not = moves 1 1
effect_of has_result op.ConvI4 = moves 1 1
effect_of has_result op.ConvI8 = moves 1 1
effect_of has_result op.ConvU8 = moves 1 1
effect_of has_result op.ConvOvfI4 = moves 1 1
effect_of has_result op.Ceq = moves 2 1
effect_of has_result op.Cgt = moves 2 1
effect_of has_result op.CgtUn = moves 2 1
effect_of has_result op.Clt = moves 2 1
effect_of has_result op.CltUn = moves 2 1
effect_of has_result (op.Br to) = moves 0 0
effect_of has_result (op.Brtrue to) = moves 1 0
effect_of has_result (op.Brfalse to) = moves 1 0
effect_of has_result (op.Beq to) = moves 2 0
effect_of has_result (op.BneUn to) = moves 2 0
effect_of has_result (op.Bge to) = moves 2 0
effect_of has_result (op.Bgt to) = moves 2 0
effect_of has_result (op.Ble to) = moves 2 0
effect_of has_result (op.Blt to) = moves 2 0
effect_of has_result (op.BgeUn to) = moves 2 0
effect_of has_result (op.BgtUn to) = moves 2 0
effect_of has_result (op.BleUn to) = moves 2 0
effect_of has_result (op.BltUn to) = moves 2 0
effect_of has_result (op.Switch to) = moves 1 0
effect_of has_result (op.Leave to) = moves 0 0
effect_of has_result (op.Call m) = call_effect m
effect_of has_result (op.Callvirt m) = call_effect m
effect_of has_result (op.Constrained t m) = constrained_effect m
effect_of has_result (op.Newobj m) = new_effect m
effect_of has_result op.Ret = moves (count_if has_result) 0
effect_of has_result (op.Ldfld f) = moves 1 1
effect_of has_result (op.Stfld f) = moves 2 0
effect_of has_result (op.Ldflda f) = moves 1 1
effect_of has_result (op.Ldsfld f) = moves 0 1
effect_of has_result (op.Stsfld f) = moves 1 0
effect_of has_result (op.Ldsflda f) = moves 0 1
effect_of has_result (op.Ldobj t) = moves 1 1
effect_of has_result (op.Stobj t) = moves 2 0
effect_of has_result (op.Initobj t) = moves 1 0
effect_of has_result (op.Newarr t) = moves 1 1
effect_of has_result op.Ldlen = moves 1 1
effect_of has_result (op.Ldelem t) = moves 2 1
effect_of has_result (op.Stelem t) = moves 3 0
effect_of has_result (op.Box t) = moves 1 1
effect_of has_result (op.UnboxAny t) = moves 1 1
effect_of has_result (op.Castclass t) = moves 1 1
effect_of has_result (op.Isinst t) = moves 1 1
effect_of has_result op.Throw = moves 1 0
effect_of has_result op.WriteLineInt32 = moves 1 0
effect_of has_result op.WriteLineInt64 = moves 1 0
effect_of has_result op.WriteLineString = moves 1 0
effect_of has_result op.CompareExchangeInt32 = moves 3 1
effect_of has_result op.CompareExchangeInt64 = moves 3 1
effect_of has_result op.CompareExchangeObject = moves 3 1
effect_of has_result op.ExchangeInt32 = moves 2 1
effect_of has_result op.ExchangeInt64 = moves 2 1
effect_of has_result op.ExchangeObject = moves 2 1
effect_of has_result op.AddInt32 = moves 2 1
effect_of has_result op.AddInt64 = moves 2 1
effect_of has_result (op.NameOf t) = moves 0 1
effect_of has_result op.Start = moves 1 1
effect_of has_result op.Join = moves 1 0
effect_of has_result op.Endfinally = moves 0 0
effect_of has_result op.Rethrow = moves 0 0
effect_of has_result (op.Ldftn m) = moves 0 1
effect_of has_result (op.Ldvirtftn m) = moves 1 1

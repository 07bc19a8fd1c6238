-- The instruction of a form that holds an operand is the one with that form and that operand.
use Rattle.std.proofs.Common.{◌≡◌, ℕ, ℤ, List, Some, refl, sym, ap, ◌∙◌}
use Rattle.type_tree.specs.declared.tree.TExpr.{TExpr}
use Rattle.il_model.specs.declared.member.MRef.{MRef}
use Rattle.il_model.specs.declared.member.FRef.{FRef}
use Rattle.il_model.specs.declared.op.Op.{Op}
use Rattle.il_model.specs.declared.op.Op.TheVariants as op
use Rattle.il_model.specs.declared.form.Form.{Form}
use Rattle.il_model.specs.declared.form.Form.TheVariants as form
use Rattle.il_model.specs.Ops.{Operand, nothing, int32, int64, literal, place, target, targets, type, method, field, constrained, form_of, operand_of}
use Rattle.il_parse.specs.NamedOps.{with_nothing, with_int32, with_int64, with_literal, with_place, with_target, with_targets, with_type, with_method, with_field, with_constrained, op_of}
use Rattle.il_parse.proofs.Finding.{some_is, none_is}

-- the instruction has this form, and holds this
pub record IsMadeOf (f : Form) (o : Operand) (made : Op) : Type 0 where
  pub form : form_of made ≡ f
  pub operand : operand_of made ≡ o

is_made : (f : Form) (o : Operand) (own made : Op) → form_of own ≡ f → operand_of own ≡ o → Some own ≡ Some made → IsMadeOf f o made
is_made f o own made form operand e = record { form = ap form_of (sym (some_is own made e)) ∙ form; operand = ap operand_of (sym (some_is own made e)) ∙ operand }

from_nothing : (f : Form) (own : Op) → form_of own ≡ f → operand_of own ≡ nothing → (o : Operand) (made : Op) → with_nothing own o ≡ Some made → IsMadeOf f o made
from_nothing f own form operand nothing made e = is_made f nothing own made form operand e
from_nothing f own form operand _ made e = none_is made e

from_int32 : (f : Form) (make : ℤ → Op) → ((x : ℤ) → form_of (make x) ≡ f) → ((x : ℤ) → operand_of (make x) ≡ int32 x) → (o : Operand) (made : Op) →
    with_int32 make o ≡ Some made → IsMadeOf f o made
from_int32 f make form operand (int32 x) made e = is_made f (int32 x) (make x) made (form x) (operand x) e
from_int32 f make form operand _ made e = none_is made e

from_int64 : (f : Form) (make : ℤ → Op) → ((x : ℤ) → form_of (make x) ≡ f) → ((x : ℤ) → operand_of (make x) ≡ int64 x) → (o : Operand) (made : Op) →
    with_int64 make o ≡ Some made → IsMadeOf f o made
from_int64 f make form operand (int64 x) made e = is_made f (int64 x) (make x) made (form x) (operand x) e
from_int64 f make form operand _ made e = none_is made e

from_literal : (f : Form) (make : ℕ → Op) → ((x : ℕ) → form_of (make x) ≡ f) → ((x : ℕ) → operand_of (make x) ≡ literal x) → (o : Operand) (made : Op) →
    with_literal make o ≡ Some made → IsMadeOf f o made
from_literal f make form operand (literal x) made e = is_made f (literal x) (make x) made (form x) (operand x) e
from_literal f make form operand _ made e = none_is made e

from_place : (f : Form) (make : ℕ → Op) → ((x : ℕ) → form_of (make x) ≡ f) → ((x : ℕ) → operand_of (make x) ≡ place x) → (o : Operand) (made : Op) →
    with_place make o ≡ Some made → IsMadeOf f o made
from_place f make form operand (place x) made e = is_made f (place x) (make x) made (form x) (operand x) e
from_place f make form operand _ made e = none_is made e

from_target : (f : Form) (make : ℕ → Op) → ((x : ℕ) → form_of (make x) ≡ f) → ((x : ℕ) → operand_of (make x) ≡ target x) → (o : Operand) (made : Op) →
    with_target make o ≡ Some made → IsMadeOf f o made
from_target f make form operand (target x) made e = is_made f (target x) (make x) made (form x) (operand x) e
from_target f make form operand _ made e = none_is made e

from_targets : (f : Form) (make : List ℕ → Op) → ((x : List ℕ) → form_of (make x) ≡ f) → ((x : List ℕ) → operand_of (make x) ≡ targets x) → (o : Operand) (made : Op) →
    with_targets make o ≡ Some made → IsMadeOf f o made
from_targets f make form operand (targets x) made e = is_made f (targets x) (make x) made (form x) (operand x) e
from_targets f make form operand _ made e = none_is made e

from_type : (f : Form) (make : TExpr → Op) → ((x : TExpr) → form_of (make x) ≡ f) → ((x : TExpr) → operand_of (make x) ≡ type x) → (o : Operand) (made : Op) →
    with_type make o ≡ Some made → IsMadeOf f o made
from_type f make form operand (type x) made e = is_made f (type x) (make x) made (form x) (operand x) e
from_type f make form operand _ made e = none_is made e

from_method : (f : Form) (make : MRef → Op) → ((x : MRef) → form_of (make x) ≡ f) → ((x : MRef) → operand_of (make x) ≡ method x) → (o : Operand) (made : Op) →
    with_method make o ≡ Some made → IsMadeOf f o made
from_method f make form operand (method x) made e = is_made f (method x) (make x) made (form x) (operand x) e
from_method f make form operand _ made e = none_is made e

from_field : (f : Form) (make : FRef → Op) → ((x : FRef) → form_of (make x) ≡ f) → ((x : FRef) → operand_of (make x) ≡ field x) → (o : Operand) (made : Op) →
    with_field make o ≡ Some made → IsMadeOf f o made
from_field f make form operand (field x) made e = is_made f (field x) (make x) made (form x) (operand x) e
from_field f make form operand _ made e = none_is made e

from_constrained : (f : Form) (make : TExpr → MRef → Op) → ((t : TExpr) (m : MRef) → form_of (make t m) ≡ f) → ((t : TExpr) (m : MRef) → operand_of (make t m) ≡ constrained t m) →
    (o : Operand) (made : Op) → with_constrained make o ≡ Some made → IsMadeOf f o made
from_constrained f make form operand (constrained t m) made e = is_made f (constrained t m) (make t m) made (form t m) (operand t m) e
from_constrained f make form operand _ made e = none_is made e

-- what is made of a form and an operand has both
pub op_made : (f : Form) (o : Operand) (made : Op) → op_of f o ≡ Some made → IsMadeOf f o made
unfolding op_of
op_made form.Nop o made e = from_nothing form.Nop op.Nop refl refl o made e
op_made form.Dup o made e = from_nothing form.Dup op.Dup refl refl o made e
op_made form.Pop o made e = from_nothing form.Pop op.Pop refl refl o made e
op_made form.LdcI4 o made e = from_int32 form.LdcI4 op.LdcI4 (λ x. refl) (λ x. refl) o made e
op_made form.LdcI8 o made e = from_int64 form.LdcI8 op.LdcI8 (λ x. refl) (λ x. refl) o made e
op_made form.Ldnull o made e = from_nothing form.Ldnull op.Ldnull refl refl o made e
op_made form.Ldstr o made e = from_literal form.Ldstr op.Ldstr (λ x. refl) (λ x. refl) o made e
op_made form.Ldarg o made e = from_place form.Ldarg op.Ldarg (λ x. refl) (λ x. refl) o made e
op_made form.Ldloc o made e = from_place form.Ldloc op.Ldloc (λ x. refl) (λ x. refl) o made e
op_made form.Ldarga o made e = from_place form.Ldarga op.Ldarga (λ x. refl) (λ x. refl) o made e
op_made form.Ldloca o made e = from_place form.Ldloca op.Ldloca (λ x. refl) (λ x. refl) o made e
op_made form.Starg o made e = from_place form.Starg op.Starg (λ x. refl) (λ x. refl) o made e
op_made form.Stloc o made e = from_place form.Stloc op.Stloc (λ x. refl) (λ x. refl) o made e
op_made form.Add o made e = from_nothing form.Add op.Add refl refl o made e
op_made form.Sub o made e = from_nothing form.Sub op.Sub refl refl o made e
op_made form.Mul o made e = from_nothing form.Mul op.Mul refl refl o made e
op_made form.And o made e = from_nothing form.And op.And refl refl o made e
op_made form.Or o made e = from_nothing form.Or op.Or refl refl o made e
op_made form.Xor o made e = from_nothing form.Xor op.Xor refl refl o made e
op_made form.AddOvf o made e = from_nothing form.AddOvf op.AddOvf refl refl o made e
op_made form.SubOvf o made e = from_nothing form.SubOvf op.SubOvf refl refl o made e
op_made form.MulOvf o made e = from_nothing form.MulOvf op.MulOvf refl refl o made e
op_made form.AddOvfUn o made e = from_nothing form.AddOvfUn op.AddOvfUn refl refl o made e
op_made form.SubOvfUn o made e = from_nothing form.SubOvfUn op.SubOvfUn refl refl o made e
op_made form.MulOvfUn o made e = from_nothing form.MulOvfUn op.MulOvfUn refl refl o made e
op_made form.Div o made e = from_nothing form.Div op.Div refl refl o made e
op_made form.Rem o made e = from_nothing form.Rem op.Rem refl refl o made e
op_made form.DivUn o made e = from_nothing form.DivUn op.DivUn refl refl o made e
op_made form.RemUn o made e = from_nothing form.RemUn op.RemUn refl refl o made e
op_made form.Shl o made e = from_nothing form.Shl op.Shl refl refl o made e
op_made form.Shr o made e = from_nothing form.Shr op.Shr refl refl o made e
op_made form.ShrUn o made e = from_nothing form.ShrUn op.ShrUn refl refl o made e
op_made form.Neg o made e = from_nothing form.Neg op.Neg refl refl o made e
op_made form.Not o made e = from_nothing form.Not op.Not refl refl o made e
op_made form.ConvI4 o made e = from_nothing form.ConvI4 op.ConvI4 refl refl o made e
op_made form.ConvI8 o made e = from_nothing form.ConvI8 op.ConvI8 refl refl o made e
op_made form.ConvU8 o made e = from_nothing form.ConvU8 op.ConvU8 refl refl o made e
op_made form.ConvOvfI4 o made e = from_nothing form.ConvOvfI4 op.ConvOvfI4 refl refl o made e
op_made form.Ceq o made e = from_nothing form.Ceq op.Ceq refl refl o made e
op_made form.Cgt o made e = from_nothing form.Cgt op.Cgt refl refl o made e
op_made form.CgtUn o made e = from_nothing form.CgtUn op.CgtUn refl refl o made e
op_made form.Clt o made e = from_nothing form.Clt op.Clt refl refl o made e
op_made form.CltUn o made e = from_nothing form.CltUn op.CltUn refl refl o made e
op_made form.Br o made e = from_target form.Br op.Br (λ x. refl) (λ x. refl) o made e
op_made form.Brtrue o made e = from_target form.Brtrue op.Brtrue (λ x. refl) (λ x. refl) o made e
op_made form.Brfalse o made e = from_target form.Brfalse op.Brfalse (λ x. refl) (λ x. refl) o made e
op_made form.Beq o made e = from_target form.Beq op.Beq (λ x. refl) (λ x. refl) o made e
op_made form.BneUn o made e = from_target form.BneUn op.BneUn (λ x. refl) (λ x. refl) o made e
op_made form.Bge o made e = from_target form.Bge op.Bge (λ x. refl) (λ x. refl) o made e
op_made form.Bgt o made e = from_target form.Bgt op.Bgt (λ x. refl) (λ x. refl) o made e
op_made form.Ble o made e = from_target form.Ble op.Ble (λ x. refl) (λ x. refl) o made e
op_made form.Blt o made e = from_target form.Blt op.Blt (λ x. refl) (λ x. refl) o made e
op_made form.BgeUn o made e = from_target form.BgeUn op.BgeUn (λ x. refl) (λ x. refl) o made e
op_made form.BgtUn o made e = from_target form.BgtUn op.BgtUn (λ x. refl) (λ x. refl) o made e
op_made form.BleUn o made e = from_target form.BleUn op.BleUn (λ x. refl) (λ x. refl) o made e
op_made form.BltUn o made e = from_target form.BltUn op.BltUn (λ x. refl) (λ x. refl) o made e
op_made form.Switch o made e = from_targets form.Switch op.Switch (λ x. refl) (λ x. refl) o made e
op_made form.Leave o made e = from_target form.Leave op.Leave (λ x. refl) (λ x. refl) o made e
op_made form.Call o made e = from_method form.Call op.Call (λ x. refl) (λ x. refl) o made e
op_made form.Callvirt o made e = from_method form.Callvirt op.Callvirt (λ x. refl) (λ x. refl) o made e
op_made form.Constrained o made e = from_constrained form.Constrained op.Constrained (λ t m. refl) (λ t m. refl) o made e
op_made form.Newobj o made e = from_method form.Newobj op.Newobj (λ x. refl) (λ x. refl) o made e
op_made form.Ret o made e = from_nothing form.Ret op.Ret refl refl o made e
op_made form.Ldfld o made e = from_field form.Ldfld op.Ldfld (λ x. refl) (λ x. refl) o made e
op_made form.Stfld o made e = from_field form.Stfld op.Stfld (λ x. refl) (λ x. refl) o made e
op_made form.Ldflda o made e = from_field form.Ldflda op.Ldflda (λ x. refl) (λ x. refl) o made e
op_made form.Ldsfld o made e = from_field form.Ldsfld op.Ldsfld (λ x. refl) (λ x. refl) o made e
op_made form.Stsfld o made e = from_field form.Stsfld op.Stsfld (λ x. refl) (λ x. refl) o made e
op_made form.Ldsflda o made e = from_field form.Ldsflda op.Ldsflda (λ x. refl) (λ x. refl) o made e
op_made form.Ldobj o made e = from_type form.Ldobj op.Ldobj (λ x. refl) (λ x. refl) o made e
op_made form.Stobj o made e = from_type form.Stobj op.Stobj (λ x. refl) (λ x. refl) o made e
op_made form.Initobj o made e = from_type form.Initobj op.Initobj (λ x. refl) (λ x. refl) o made e
op_made form.Newarr o made e = from_type form.Newarr op.Newarr (λ x. refl) (λ x. refl) o made e
op_made form.Ldlen o made e = from_nothing form.Ldlen op.Ldlen refl refl o made e
op_made form.Ldelem o made e = from_type form.Ldelem op.Ldelem (λ x. refl) (λ x. refl) o made e
op_made form.Stelem o made e = from_type form.Stelem op.Stelem (λ x. refl) (λ x. refl) o made e
op_made form.Box o made e = from_type form.Box op.Box (λ x. refl) (λ x. refl) o made e
op_made form.UnboxAny o made e = from_type form.UnboxAny op.UnboxAny (λ x. refl) (λ x. refl) o made e
op_made form.Castclass o made e = from_type form.Castclass op.Castclass (λ x. refl) (λ x. refl) o made e
op_made form.Isinst o made e = from_type form.Isinst op.Isinst (λ x. refl) (λ x. refl) o made e
op_made form.Throw o made e = from_nothing form.Throw op.Throw refl refl o made e
op_made form.WriteLineInt32 o made e = from_nothing form.WriteLineInt32 op.WriteLineInt32 refl refl o made e
op_made form.WriteLineInt64 o made e = from_nothing form.WriteLineInt64 op.WriteLineInt64 refl refl o made e
op_made form.WriteLineString o made e = from_nothing form.WriteLineString op.WriteLineString refl refl o made e
op_made form.CompareExchangeInt32 o made e = from_nothing form.CompareExchangeInt32 op.CompareExchangeInt32 refl refl o made e
op_made form.CompareExchangeInt64 o made e = from_nothing form.CompareExchangeInt64 op.CompareExchangeInt64 refl refl o made e
op_made form.CompareExchangeObject o made e = from_nothing form.CompareExchangeObject op.CompareExchangeObject refl refl o made e
op_made form.ExchangeInt32 o made e = from_nothing form.ExchangeInt32 op.ExchangeInt32 refl refl o made e
op_made form.ExchangeInt64 o made e = from_nothing form.ExchangeInt64 op.ExchangeInt64 refl refl o made e
op_made form.ExchangeObject o made e = from_nothing form.ExchangeObject op.ExchangeObject refl refl o made e
op_made form.AddInt32 o made e = from_nothing form.AddInt32 op.AddInt32 refl refl o made e
op_made form.AddInt64 o made e = from_nothing form.AddInt64 op.AddInt64 refl refl o made e
op_made form.NameOf o made e = from_type form.NameOf op.NameOf (λ x. refl) (λ x. refl) o made e
op_made form.Start o made e = from_nothing form.Start op.Start refl refl o made e
op_made form.Join o made e = from_nothing form.Join op.Join refl refl o made e
op_made form.Endfinally o made e = from_nothing form.Endfinally op.Endfinally refl refl o made e
op_made form.Rethrow o made e = from_nothing form.Rethrow op.Rethrow refl refl o made e
op_made form.Ldftn o made e = from_method form.Ldftn op.Ldftn (λ x. refl) (λ x. refl) o made e
op_made form.Ldvirtftn o made e = from_method form.Ldvirtftn op.Ldvirtftn (λ x. refl) (λ x. refl) o made e

-- an instruction is made of its form and its operand
pub op_remade : (made : Op) → op_of (form_of made) (operand_of made) ≡ Some made
unfolding op_of
op_remade op.Nop = refl
op_remade op.Dup = refl
op_remade op.Pop = refl
op_remade (op.LdcI4 x) = refl
op_remade (op.LdcI8 x) = refl
op_remade op.Ldnull = refl
op_remade (op.Ldstr x) = refl
op_remade (op.Ldarg x) = refl
op_remade (op.Ldloc x) = refl
op_remade (op.Ldarga x) = refl
op_remade (op.Ldloca x) = refl
op_remade (op.Starg x) = refl
op_remade (op.Stloc x) = refl
op_remade op.Add = refl
op_remade op.Sub = refl
op_remade op.Mul = refl
op_remade op.And = refl
op_remade op.Or = refl
op_remade op.Xor = refl
op_remade op.AddOvf = refl
op_remade op.SubOvf = refl
op_remade op.MulOvf = refl
op_remade op.AddOvfUn = refl
op_remade op.SubOvfUn = refl
op_remade op.MulOvfUn = refl
op_remade op.Div = refl
op_remade op.Rem = refl
op_remade op.DivUn = refl
op_remade op.RemUn = refl
op_remade op.Shl = refl
op_remade op.Shr = refl
op_remade op.ShrUn = refl
op_remade op.Neg = refl
op_remade op.Not = refl
op_remade op.ConvI4 = refl
op_remade op.ConvI8 = refl
op_remade op.ConvU8 = refl
op_remade op.ConvOvfI4 = refl
op_remade op.Ceq = refl
op_remade op.Cgt = refl
op_remade op.CgtUn = refl
op_remade op.Clt = refl
op_remade op.CltUn = refl
op_remade (op.Br x) = refl
op_remade (op.Brtrue x) = refl
op_remade (op.Brfalse x) = refl
op_remade (op.Beq x) = refl
op_remade (op.BneUn x) = refl
op_remade (op.Bge x) = refl
op_remade (op.Bgt x) = refl
op_remade (op.Ble x) = refl
op_remade (op.Blt x) = refl
op_remade (op.BgeUn x) = refl
op_remade (op.BgtUn x) = refl
op_remade (op.BleUn x) = refl
op_remade (op.BltUn x) = refl
op_remade (op.Switch x) = refl
op_remade (op.Leave x) = refl
op_remade (op.Call x) = refl
op_remade (op.Callvirt x) = refl
op_remade (op.Constrained t m) = refl
op_remade (op.Newobj x) = refl
op_remade op.Ret = refl
op_remade (op.Ldfld x) = refl
op_remade (op.Stfld x) = refl
op_remade (op.Ldflda x) = refl
op_remade (op.Ldsfld x) = refl
op_remade (op.Stsfld x) = refl
op_remade (op.Ldsflda x) = refl
op_remade (op.Ldobj x) = refl
op_remade (op.Stobj x) = refl
op_remade (op.Initobj x) = refl
op_remade (op.Newarr x) = refl
op_remade op.Ldlen = refl
op_remade (op.Ldelem x) = refl
op_remade (op.Stelem x) = refl
op_remade (op.Box x) = refl
op_remade (op.UnboxAny x) = refl
op_remade (op.Castclass x) = refl
op_remade (op.Isinst x) = refl
op_remade op.Throw = refl
op_remade op.WriteLineInt32 = refl
op_remade op.WriteLineInt64 = refl
op_remade op.WriteLineString = refl
op_remade op.CompareExchangeInt32 = refl
op_remade op.CompareExchangeInt64 = refl
op_remade op.CompareExchangeObject = refl
op_remade op.ExchangeInt32 = refl
op_remade op.ExchangeInt64 = refl
op_remade op.ExchangeObject = refl
op_remade op.AddInt32 = refl
op_remade op.AddInt64 = refl
op_remade (op.NameOf x) = refl
op_remade op.Start = refl
op_remade op.Join = refl
op_remade op.Endfinally = refl
op_remade op.Rethrow = refl
op_remade (op.Ldftn x) = refl
op_remade (op.Ldvirtftn x) = refl

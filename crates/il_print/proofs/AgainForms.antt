-- What each form of instruction holds, and how it is written, by tables.
use Rattle.std.proofs.Common.{◌≡◌, ℕ, ◌==◌, ℤ, Bool, true, not, List, [], ◌∷◌, map, refl}
use Rattle.std.specs.List.{list_all}
use Rattle.type_tree.specs.declared.tree.TExpr.{TExpr}
use Rattle.il_model.specs.declared.member.MRef.{MRef}
use Rattle.il_model.specs.declared.member.FRef.{FRef}
use Rattle.il_model.specs.declared.form.Form.{Form}
use Rattle.il_model.specs.declared.form.Form.TheVariants as form
use Rattle.il_model.specs.declared.op.Op.{Op}
use Rattle.il_model.specs.declared.op.Op.TheVariants as op
use Rattle.il_model.specs.Forms.{OperandKind, no_operand, int32_literal, int64_literal, text_literal, label, labels, type_operand, called_method, method_operand, field_operand, constrained_method, place as numbered_place, word, library_call, no_text, word_of, operand_kind}
use Rattle.il_model.specs.Ops.{Operand, nothing, int32, int64, literal, place, target, targets, type, method, field, constrained, form_of, operand_of}
use Rattle.il_model.specs.Spellings.{plain_name}

-- what an instruction holds is of the kind that its form takes
pub data Suits : OperandKind → Operand → Type 0 where
  suits_nothing : Suits no_operand nothing
  suits_int32 : (n : ℤ) → Suits int32_literal (int32 n)
  suits_int64 : (n : ℤ) → Suits int64_literal (int64 n)
  suits_text : (n : ℕ) → Suits text_literal (literal n)
  suits_place : (n : ℕ) → Suits numbered_place (place n)
  suits_target : (n : ℕ) → Suits label (target n)
  suits_targets : (ns : List ℕ) → Suits labels (targets ns)
  suits_type : (t : TExpr) → Suits type_operand (type t)
  suits_call : (m : MRef) → Suits called_method (method m)
  suits_method : (m : MRef) → Suits method_operand (method m)
  suits_field : (f : FRef) → Suits field_operand (field f)
  suits_constrained : (t : TExpr) (m : MRef) → Suits constrained_method (constrained t m)

pub suits : (made : Op) → Suits (operand_kind (form_of made)) (operand_of made)
suits op.Nop = suits_nothing
suits op.Dup = suits_nothing
suits op.Pop = suits_nothing
suits (op.LdcI4 n) = suits_int32 n
suits (op.LdcI8 n) = suits_int64 n
suits op.Ldnull = suits_nothing
suits (op.Ldstr n) = suits_text n
suits (op.Ldarg n) = suits_place n
suits (op.Ldloc n) = suits_place n
suits (op.Ldarga n) = suits_place n
suits (op.Ldloca n) = suits_place n
suits (op.Starg n) = suits_place n
suits (op.Stloc n) = suits_place n
suits op.Add = suits_nothing
suits op.Sub = suits_nothing
suits op.Mul = suits_nothing
suits op.And = suits_nothing
suits op.Or = suits_nothing
suits op.Xor = suits_nothing
suits op.AddOvf = suits_nothing
suits op.SubOvf = suits_nothing
suits op.MulOvf = suits_nothing
suits op.AddOvfUn = suits_nothing
suits op.SubOvfUn = suits_nothing
suits op.MulOvfUn = suits_nothing
suits op.Div = suits_nothing
suits op.Rem = suits_nothing
suits op.DivUn = suits_nothing
suits op.RemUn = suits_nothing
suits op.Shl = suits_nothing
suits op.Shr = suits_nothing
suits op.ShrUn = suits_nothing
suits op.Neg = suits_nothing
suits op.Not = suits_nothing
suits op.ConvI4 = suits_nothing
suits op.ConvI8 = suits_nothing
suits op.ConvU8 = suits_nothing
suits op.ConvOvfI4 = suits_nothing
suits op.Ceq = suits_nothing
suits op.Cgt = suits_nothing
suits op.CgtUn = suits_nothing
suits op.Clt = suits_nothing
suits op.CltUn = suits_nothing
suits (op.Br n) = suits_target n
suits (op.Brtrue n) = suits_target n
suits (op.Brfalse n) = suits_target n
suits (op.Beq n) = suits_target n
suits (op.BneUn n) = suits_target n
suits (op.Bge n) = suits_target n
suits (op.Bgt n) = suits_target n
suits (op.Ble n) = suits_target n
suits (op.Blt n) = suits_target n
suits (op.BgeUn n) = suits_target n
suits (op.BgtUn n) = suits_target n
suits (op.BleUn n) = suits_target n
suits (op.BltUn n) = suits_target n
suits (op.Switch n) = suits_targets n
suits (op.Leave n) = suits_target n
suits (op.Call n) = suits_call n
suits (op.Callvirt n) = suits_method n
suits (op.Constrained t m) = suits_constrained t m
suits (op.Newobj n) = suits_method n
suits op.Ret = suits_nothing
suits (op.Ldfld n) = suits_field n
suits (op.Stfld n) = suits_field n
suits (op.Ldflda n) = suits_field n
suits (op.Ldsfld n) = suits_field n
suits (op.Stsfld n) = suits_field n
suits (op.Ldsflda n) = suits_field n
suits (op.Ldobj n) = suits_type n
suits (op.Stobj n) = suits_type n
suits (op.Initobj n) = suits_type n
suits (op.Newarr n) = suits_type n
suits op.Ldlen = suits_nothing
suits (op.Ldelem n) = suits_type n
suits (op.Stelem n) = suits_type n
suits (op.Box n) = suits_type n
suits (op.UnboxAny n) = suits_type n
suits (op.Castclass n) = suits_type n
suits (op.Isinst n) = suits_type n
suits op.Throw = suits_nothing
suits op.WriteLineInt32 = suits_nothing
suits op.WriteLineInt64 = suits_nothing
suits op.WriteLineString = suits_nothing
suits op.CompareExchangeInt32 = suits_nothing
suits op.CompareExchangeInt64 = suits_nothing
suits op.CompareExchangeObject = suits_nothing
suits op.ExchangeInt32 = suits_nothing
suits op.ExchangeInt64 = suits_nothing
suits op.ExchangeObject = suits_nothing
suits op.AddInt32 = suits_nothing
suits op.AddInt64 = suits_nothing
suits (op.NameOf n) = suits_type n
suits op.Start = suits_nothing
suits op.Join = suits_nothing
suits op.Endfinally = suits_nothing
suits op.Rethrow = suits_nothing
suits (op.Ldftn n) = suits_method n
suits (op.Ldvirtftn n) = suits_method n

-- a call of the library holds a type at most
pub data Inside : OperandKind → Type 0 where
  in_none : Inside no_operand
  in_type : Inside type_operand

-- a word that doesn't begin as a variable
abbrev pub is_no_variable : List ℕ → Bool
is_no_variable [] = true
is_no_variable (b ∷ bs) = not (b == 33)

-- a form is written by a word, as a call of the library in the short spelling of its words, or not at all
pub data FormWritten (f : Form) : Type 0 where
  by_word : (w : List ℕ) → word_of f ≡ word w → FormWritten f
  by_call : (first last : List (List ℕ)) → word_of f ≡ library_call first last → map plain_name first ≡ first → map plain_name last ≡ last →
      list_all is_no_variable first ≡ true → list_all is_no_variable last ≡ true → Inside (operand_kind f) → FormWritten f
  never : word_of f ≡ no_text → FormWritten f

pub form_written : (f : Form) → FormWritten f
form_written form.Nop = by_word _ refl
form_written form.Dup = by_word _ refl
form_written form.Pop = by_word _ refl
form_written form.LdcI4 = by_word _ refl
form_written form.LdcI8 = by_word _ refl
form_written form.Ldnull = by_word _ refl
form_written form.Ldstr = by_word _ refl
form_written form.Ldarg = by_word _ refl
form_written form.Ldloc = by_word _ refl
form_written form.Ldarga = by_word _ refl
form_written form.Ldloca = by_word _ refl
form_written form.Starg = by_word _ refl
form_written form.Stloc = by_word _ refl
form_written form.Add = by_word _ refl
form_written form.Sub = by_word _ refl
form_written form.Mul = by_word _ refl
form_written form.And = by_word _ refl
form_written form.Or = by_word _ refl
form_written form.Xor = by_word _ refl
form_written form.AddOvf = by_word _ refl
form_written form.SubOvf = by_word _ refl
form_written form.MulOvf = by_word _ refl
form_written form.AddOvfUn = by_word _ refl
form_written form.SubOvfUn = by_word _ refl
form_written form.MulOvfUn = by_word _ refl
form_written form.Div = by_word _ refl
form_written form.Rem = by_word _ refl
form_written form.DivUn = by_word _ refl
form_written form.RemUn = by_word _ refl
form_written form.Shl = by_word _ refl
form_written form.Shr = by_word _ refl
form_written form.ShrUn = by_word _ refl
form_written form.Neg = by_word _ refl
form_written form.Not = by_word _ refl
form_written form.ConvI4 = by_word _ refl
form_written form.ConvI8 = by_word _ refl
form_written form.ConvU8 = by_word _ refl
form_written form.ConvOvfI4 = by_word _ refl
form_written form.Ceq = by_word _ refl
form_written form.Cgt = by_word _ refl
form_written form.CgtUn = by_word _ refl
form_written form.Clt = by_word _ refl
form_written form.CltUn = by_word _ refl
form_written form.Br = by_word _ refl
form_written form.Brtrue = by_word _ refl
form_written form.Brfalse = by_word _ refl
form_written form.Beq = by_word _ refl
form_written form.BneUn = by_word _ refl
form_written form.Bge = by_word _ refl
form_written form.Bgt = by_word _ refl
form_written form.Ble = by_word _ refl
form_written form.Blt = by_word _ refl
form_written form.BgeUn = by_word _ refl
form_written form.BgtUn = by_word _ refl
form_written form.BleUn = by_word _ refl
form_written form.BltUn = by_word _ refl
form_written form.Switch = by_word _ refl
form_written form.Leave = by_word _ refl
form_written form.Call = by_word _ refl
form_written form.Callvirt = by_word _ refl
form_written form.Constrained = by_word _ refl
form_written form.Newobj = by_word _ refl
form_written form.Ret = by_word _ refl
form_written form.Ldfld = by_word _ refl
form_written form.Stfld = by_word _ refl
form_written form.Ldflda = by_word _ refl
form_written form.Ldsfld = by_word _ refl
form_written form.Stsfld = by_word _ refl
form_written form.Ldsflda = by_word _ refl
form_written form.Ldobj = by_word _ refl
form_written form.Stobj = by_word _ refl
form_written form.Initobj = by_word _ refl
form_written form.Newarr = by_word _ refl
form_written form.Ldlen = by_word _ refl
form_written form.Ldelem = by_word _ refl
form_written form.Stelem = by_word _ refl
form_written form.Box = by_word _ refl
form_written form.UnboxAny = by_word _ refl
form_written form.Castclass = by_word _ refl
form_written form.Isinst = by_word _ refl
form_written form.Throw = by_word _ refl
form_written form.WriteLineInt32 = by_call _ _ refl refl refl refl refl in_none
form_written form.WriteLineInt64 = by_call _ _ refl refl refl refl refl in_none
form_written form.WriteLineString = by_call _ _ refl refl refl refl refl in_none
form_written form.CompareExchangeInt32 = by_call _ _ refl refl refl refl refl in_none
form_written form.CompareExchangeInt64 = by_call _ _ refl refl refl refl refl in_none
form_written form.CompareExchangeObject = by_call _ _ refl refl refl refl refl in_none
form_written form.ExchangeInt32 = by_call _ _ refl refl refl refl refl in_none
form_written form.ExchangeInt64 = by_call _ _ refl refl refl refl refl in_none
form_written form.ExchangeObject = by_call _ _ refl refl refl refl refl in_none
form_written form.AddInt32 = by_call _ _ refl refl refl refl refl in_none
form_written form.AddInt64 = by_call _ _ refl refl refl refl refl in_none
form_written form.NameOf = by_call _ _ refl refl refl refl refl in_type
form_written form.Start = by_call _ _ refl refl refl refl refl in_none
form_written form.Join = by_call _ _ refl refl refl refl refl in_none
form_written form.Endfinally = never refl
form_written form.Rethrow = never refl
form_written form.Ldftn = never refl
form_written form.Ldvirtftn = never refl

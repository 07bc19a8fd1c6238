-- Each form of instruction: its word, and what follows the word. After ECMA-335, Partition III; the library's calls are this project's own.
use Rattle.std.specs.Prelude.{ℕ, List, [], ◌∷◌, codes}
use Rattle.il_model.specs.declared.form.Form.{Form}
use Rattle.il_model.specs.declared.form.Form.TheVariants as form

-- how a form is spelled: by a word of its own; as `call` of a method of the library, with what stands before and behind its operand; or not at all
pub data FormWord : Type 0 where
  word : List ℕ → FormWord
  library_call : List (List ℕ) → List (List ℕ) → FormWord
  no_text : FormWord

abbrev pub word_of : Form → FormWord
word_of form.Nop = word (codes "nop")
word_of form.Dup = word (codes "dup")
word_of form.Pop = word (codes "pop")
word_of form.LdcI4 = word (codes "ldc.i4")
word_of form.LdcI8 = word (codes "ldc.i8")
word_of form.Ldnull = word (codes "ldnull")
word_of form.Ldstr = word (codes "ldstr")
word_of form.Ldarg = word (codes "ldarg")
word_of form.Ldloc = word (codes "ldloc")
word_of form.Ldarga = word (codes "ldarga")
word_of form.Ldloca = word (codes "ldloca")
word_of form.Starg = word (codes "starg")
word_of form.Stloc = word (codes "stloc")
word_of form.Add = word (codes "add")
word_of form.Sub = word (codes "sub")
word_of form.Mul = word (codes "mul")
word_of form.And = word (codes "and")
word_of form.Or = word (codes "or")
word_of form.Xor = word (codes "xor")
word_of form.AddOvf = word (codes "add.ovf")
word_of form.SubOvf = word (codes "sub.ovf")
word_of form.MulOvf = word (codes "mul.ovf")
word_of form.AddOvfUn = word (codes "add.ovf.un")
word_of form.SubOvfUn = word (codes "sub.ovf.un")
word_of form.MulOvfUn = word (codes "mul.ovf.un")
word_of form.Div = word (codes "div")
word_of form.Rem = word (codes "rem")
word_of form.DivUn = word (codes "div.un")
word_of form.RemUn = word (codes "rem.un")
word_of form.Shl = word (codes "shl")
word_of form.Shr = word (codes "shr")
word_of form.ShrUn = word (codes "shr.un")
word_of form.Neg = word (codes "neg")
word_of form.Not = word (codes "not")
word_of form.ConvI4 = word (codes "conv.i4")
word_of form.ConvI8 = word (codes "conv.i8")
word_of form.ConvU8 = word (codes "conv.u8")
word_of form.ConvOvfI4 = word (codes "conv.ovf.i4")
word_of form.Ceq = word (codes "ceq")
word_of form.Cgt = word (codes "cgt")
word_of form.CgtUn = word (codes "cgt.un")
word_of form.Clt = word (codes "clt")
word_of form.CltUn = word (codes "clt.un")
word_of form.Br = word (codes "br")
word_of form.Brtrue = word (codes "brtrue")
word_of form.Brfalse = word (codes "brfalse")
word_of form.Beq = word (codes "beq")
word_of form.BneUn = word (codes "bne.un")
word_of form.Bge = word (codes "bge")
word_of form.Bgt = word (codes "bgt")
word_of form.Ble = word (codes "ble")
word_of form.Blt = word (codes "blt")
word_of form.BgeUn = word (codes "bge.un")
word_of form.BgtUn = word (codes "bgt.un")
word_of form.BleUn = word (codes "ble.un")
word_of form.BltUn = word (codes "blt.un")
word_of form.Switch = word (codes "switch")
word_of form.Leave = word (codes "leave")
word_of form.Call = word (codes "call")
word_of form.Callvirt = word (codes "callvirt")
word_of form.Constrained = word (codes "constrained.")
word_of form.Newobj = word (codes "newobj")
word_of form.Ret = word (codes "ret")
word_of form.Ldfld = word (codes "ldfld")
word_of form.Stfld = word (codes "stfld")
word_of form.Ldflda = word (codes "ldflda")
word_of form.Ldsfld = word (codes "ldsfld")
word_of form.Stsfld = word (codes "stsfld")
word_of form.Ldsflda = word (codes "ldsflda")
word_of form.Ldobj = word (codes "ldobj")
word_of form.Stobj = word (codes "stobj")
word_of form.Initobj = word (codes "initobj")
word_of form.Newarr = word (codes "newarr")
word_of form.Ldlen = word (codes "ldlen")
word_of form.Ldelem = word (codes "ldelem")
word_of form.Stelem = word (codes "stelem")
word_of form.Box = word (codes "box")
word_of form.UnboxAny = word (codes "unbox.any")
word_of form.Castclass = word (codes "castclass")
word_of form.Isinst = word (codes "isinst")
word_of form.Throw = word (codes "throw")
word_of form.WriteLineInt32 = library_call (codes "void" ∷ codes "System.Console" ∷ codes "::" ∷ codes "WriteLine" ∷ codes "(" ∷ codes "int32" ∷ codes ")" ∷ []) []
word_of form.WriteLineInt64 = library_call (codes "void" ∷ codes "System.Console" ∷ codes "::" ∷ codes "WriteLine" ∷ codes "(" ∷ codes "int64" ∷ codes ")" ∷ []) []
word_of form.WriteLineString = library_call (codes "void" ∷ codes "System.Console" ∷ codes "::" ∷ codes "WriteLine" ∷ codes "(" ∷ codes "string" ∷ codes ")" ∷ []) []
word_of form.CompareExchangeInt32 = library_call (codes "int32" ∷ codes "System.Threading.Interlocked" ∷ codes "::" ∷ codes "CompareExchange" ∷ codes "(" ∷ codes "int32" ∷ codes "&" ∷ codes "," ∷ codes "int32" ∷ codes "," ∷ codes "int32" ∷ codes ")" ∷ []) []
word_of form.CompareExchangeInt64 = library_call (codes "int64" ∷ codes "System.Threading.Interlocked" ∷ codes "::" ∷ codes "CompareExchange" ∷ codes "(" ∷ codes "int64" ∷ codes "&" ∷ codes "," ∷ codes "int64" ∷ codes "," ∷ codes "int64" ∷ codes ")" ∷ []) []
word_of form.CompareExchangeObject = library_call (codes "object" ∷ codes "System.Threading.Interlocked" ∷ codes "::" ∷ codes "CompareExchange" ∷ codes "(" ∷ codes "object" ∷ codes "&" ∷ codes "," ∷ codes "object" ∷ codes "," ∷ codes "object" ∷ codes ")" ∷ []) []
word_of form.ExchangeInt32 = library_call (codes "int32" ∷ codes "System.Threading.Interlocked" ∷ codes "::" ∷ codes "Exchange" ∷ codes "(" ∷ codes "int32" ∷ codes "&" ∷ codes "," ∷ codes "int32" ∷ codes ")" ∷ []) []
word_of form.ExchangeInt64 = library_call (codes "int64" ∷ codes "System.Threading.Interlocked" ∷ codes "::" ∷ codes "Exchange" ∷ codes "(" ∷ codes "int64" ∷ codes "&" ∷ codes "," ∷ codes "int64" ∷ codes ")" ∷ []) []
word_of form.ExchangeObject = library_call (codes "object" ∷ codes "System.Threading.Interlocked" ∷ codes "::" ∷ codes "Exchange" ∷ codes "(" ∷ codes "object" ∷ codes "&" ∷ codes "," ∷ codes "object" ∷ codes ")" ∷ []) []
word_of form.AddInt32 = library_call (codes "int32" ∷ codes "System.Threading.Interlocked" ∷ codes "::" ∷ codes "Add" ∷ codes "(" ∷ codes "int32" ∷ codes "&" ∷ codes "," ∷ codes "int32" ∷ codes ")" ∷ []) []
word_of form.AddInt64 = library_call (codes "int64" ∷ codes "System.Threading.Interlocked" ∷ codes "::" ∷ codes "Add" ∷ codes "(" ∷ codes "int64" ∷ codes "&" ∷ codes "," ∷ codes "int64" ∷ codes ")" ∷ []) []
word_of form.NameOf = library_call (codes "string" ∷ codes "Rt.Types" ∷ codes "::" ∷ codes "NameOf" ∷ codes "<" ∷ []) (codes ">" ∷ codes "(" ∷ codes ")" ∷ [])
word_of form.Start = library_call (codes "int32" ∷ codes "Rt.Threads" ∷ codes "::" ∷ codes "Start" ∷ codes "(" ∷ codes "Rt.IRun" ∷ codes ")" ∷ []) []
word_of form.Join = library_call (codes "void" ∷ codes "Rt.Threads" ∷ codes "::" ∷ codes "Join" ∷ codes "(" ∷ codes "int32" ∷ codes ")" ∷ []) []
word_of form.Endfinally = no_text
word_of form.Rethrow = no_text
word_of form.Ldftn = no_text
word_of form.Ldvirtftn = no_text

-- the kinds of operand
pub data OperandKind : Type 0 where
  no_operand : OperandKind
  int32_literal : OperandKind
  int64_literal : OperandKind
  text_literal : OperandKind
  place : OperandKind
  label : OperandKind
  labels : OperandKind
  type_operand : OperandKind
  called_method : OperandKind
  method_operand : OperandKind
  field_operand : OperandKind
  constrained_method : OperandKind

-- what a form takes. A called method is one that isn't spelled as a call of the library
abbrev pub operand_kind : Form → OperandKind
operand_kind form.Nop = no_operand
operand_kind form.Dup = no_operand
operand_kind form.Pop = no_operand
operand_kind form.LdcI4 = int32_literal
operand_kind form.LdcI8 = int64_literal
operand_kind form.Ldnull = no_operand
operand_kind form.Ldstr = text_literal
operand_kind form.Ldarg = place
operand_kind form.Ldloc = place
operand_kind form.Ldarga = place
operand_kind form.Ldloca = place
operand_kind form.Starg = place
operand_kind form.Stloc = place
operand_kind form.Add = no_operand
operand_kind form.Sub = no_operand
operand_kind form.Mul = no_operand
operand_kind form.And = no_operand
operand_kind form.Or = no_operand
operand_kind form.Xor = no_operand
operand_kind form.AddOvf = no_operand
operand_kind form.SubOvf = no_operand
operand_kind form.MulOvf = no_operand
operand_kind form.AddOvfUn = no_operand
operand_kind form.SubOvfUn = no_operand
operand_kind form.MulOvfUn = no_operand
operand_kind form.Div = no_operand
operand_kind form.Rem = no_operand
operand_kind form.DivUn = no_operand
operand_kind form.RemUn = no_operand
operand_kind form.Shl = no_operand
operand_kind form.Shr = no_operand
operand_kind form.ShrUn = no_operand
operand_kind form.Neg = no_operand
operand_kind form.Not = no_operand
operand_kind form.ConvI4 = no_operand
operand_kind form.ConvI8 = no_operand
operand_kind form.ConvU8 = no_operand
operand_kind form.ConvOvfI4 = no_operand
operand_kind form.Ceq = no_operand
operand_kind form.Cgt = no_operand
operand_kind form.CgtUn = no_operand
operand_kind form.Clt = no_operand
operand_kind form.CltUn = no_operand
operand_kind form.Br = label
operand_kind form.Brtrue = label
operand_kind form.Brfalse = label
operand_kind form.Beq = label
operand_kind form.BneUn = label
operand_kind form.Bge = label
operand_kind form.Bgt = label
operand_kind form.Ble = label
operand_kind form.Blt = label
operand_kind form.BgeUn = label
operand_kind form.BgtUn = label
operand_kind form.BleUn = label
operand_kind form.BltUn = label
operand_kind form.Switch = labels
operand_kind form.Leave = label
operand_kind form.Call = called_method
operand_kind form.Callvirt = method_operand
operand_kind form.Constrained = constrained_method
operand_kind form.Newobj = method_operand
operand_kind form.Ret = no_operand
operand_kind form.Ldfld = field_operand
operand_kind form.Stfld = field_operand
operand_kind form.Ldflda = field_operand
operand_kind form.Ldsfld = field_operand
operand_kind form.Stsfld = field_operand
operand_kind form.Ldsflda = field_operand
operand_kind form.Ldobj = type_operand
operand_kind form.Stobj = type_operand
operand_kind form.Initobj = type_operand
operand_kind form.Newarr = type_operand
operand_kind form.Ldlen = no_operand
operand_kind form.Ldelem = type_operand
operand_kind form.Stelem = type_operand
operand_kind form.Box = type_operand
operand_kind form.UnboxAny = type_operand
operand_kind form.Castclass = type_operand
operand_kind form.Isinst = type_operand
operand_kind form.Throw = no_operand
operand_kind form.WriteLineInt32 = no_operand
operand_kind form.WriteLineInt64 = no_operand
operand_kind form.WriteLineString = no_operand
operand_kind form.CompareExchangeInt32 = no_operand
operand_kind form.CompareExchangeInt64 = no_operand
operand_kind form.CompareExchangeObject = no_operand
operand_kind form.ExchangeInt32 = no_operand
operand_kind form.ExchangeInt64 = no_operand
operand_kind form.ExchangeObject = no_operand
operand_kind form.AddInt32 = no_operand
operand_kind form.AddInt64 = no_operand
operand_kind form.NameOf = type_operand
operand_kind form.Start = no_operand
operand_kind form.Join = no_operand
operand_kind form.Endfinally = no_operand
operand_kind form.Rethrow = no_operand
operand_kind form.Ldftn = method_operand
operand_kind form.Ldvirtftn = method_operand

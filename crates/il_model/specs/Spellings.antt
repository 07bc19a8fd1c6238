-- The short spellings. This project's own, after ILAsm.
use Rattle.std.specs.Prelude.{ℕ, pos, negsuc, List, [], ◌∷◌, if◌then◌else◌, codes, bytes_eq}
use Rattle.il_model.specs.declared.form.Form.{Form}
use Rattle.il_model.specs.declared.form.Form.TheVariants as form
use Rattle.il_model.specs.declared.written.WrittenType.TheVariants as w
use Rattle.il_model.specs.declared.written.WrittenOperand.{WrittenOperand}
use Rattle.il_model.specs.declared.written.WrittenOperand.TheVariants as operand

-- `object` and `string` are also written with the names that the library has for them
abbrev pub plain_name : List ℕ → List ℕ
plain_name name = if bytes_eq name (codes "System.Object") then codes "object"
    else (if bytes_eq name (codes "System.String") then codes "string" else name)

-- short words with the operand of the long form
abbrev pub short_words : List (List ℕ × Form)
short_words =
    (codes "ldc.i4.s", form.LdcI4) ∷
    (codes "ldarg.s", form.Ldarg) ∷
    (codes "ldloc.s", form.Ldloc) ∷
    (codes "ldarga.s", form.Ldarga) ∷
    (codes "ldloca.s", form.Ldloca) ∷
    (codes "starg.s", form.Starg) ∷
    (codes "stloc.s", form.Stloc) ∷
    (codes "br.s", form.Br) ∷
    (codes "brtrue.s", form.Brtrue) ∷
    (codes "brfalse.s", form.Brfalse) ∷
    (codes "beq.s", form.Beq) ∷
    (codes "bne.un.s", form.BneUn) ∷
    (codes "bge.s", form.Bge) ∷
    (codes "bgt.s", form.Bgt) ∷
    (codes "ble.s", form.Ble) ∷
    (codes "blt.s", form.Blt) ∷
    (codes "bge.un.s", form.BgeUn) ∷
    (codes "bgt.un.s", form.BgtUn) ∷
    (codes "ble.un.s", form.BleUn) ∷
    (codes "blt.un.s", form.BltUn) ∷
    (codes "leave.s", form.Leave) ∷
    []

-- short words that have their operand in them
pub record Shortened : Type 0 where
  pub word : List ℕ
  pub form : Form
  pub operand : WrittenOperand

abbrev pub shortened : List Shortened
shortened =
    record { word = codes "ldc.i4.m1"; form = form.LdcI4; operand = operand.Int32 (negsuc 0) } ∷
    record { word = codes "ldc.i4.0"; form = form.LdcI4; operand = operand.Int32 (pos 0) } ∷
    record { word = codes "ldc.i4.1"; form = form.LdcI4; operand = operand.Int32 (pos 1) } ∷
    record { word = codes "ldc.i4.2"; form = form.LdcI4; operand = operand.Int32 (pos 2) } ∷
    record { word = codes "ldc.i4.3"; form = form.LdcI4; operand = operand.Int32 (pos 3) } ∷
    record { word = codes "ldc.i4.4"; form = form.LdcI4; operand = operand.Int32 (pos 4) } ∷
    record { word = codes "ldc.i4.5"; form = form.LdcI4; operand = operand.Int32 (pos 5) } ∷
    record { word = codes "ldc.i4.6"; form = form.LdcI4; operand = operand.Int32 (pos 6) } ∷
    record { word = codes "ldc.i4.7"; form = form.LdcI4; operand = operand.Int32 (pos 7) } ∷
    record { word = codes "ldc.i4.8"; form = form.LdcI4; operand = operand.Int32 (pos 8) } ∷
    record { word = codes "ldarg.0"; form = form.Ldarg; operand = operand.Place 0 } ∷
    record { word = codes "ldarg.1"; form = form.Ldarg; operand = operand.Place 1 } ∷
    record { word = codes "ldarg.2"; form = form.Ldarg; operand = operand.Place 2 } ∷
    record { word = codes "ldarg.3"; form = form.Ldarg; operand = operand.Place 3 } ∷
    record { word = codes "ldloc.0"; form = form.Ldloc; operand = operand.Place 0 } ∷
    record { word = codes "ldloc.1"; form = form.Ldloc; operand = operand.Place 1 } ∷
    record { word = codes "ldloc.2"; form = form.Ldloc; operand = operand.Place 2 } ∷
    record { word = codes "ldloc.3"; form = form.Ldloc; operand = operand.Place 3 } ∷
    record { word = codes "stloc.0"; form = form.Stloc; operand = operand.Place 0 } ∷
    record { word = codes "stloc.1"; form = form.Stloc; operand = operand.Place 1 } ∷
    record { word = codes "stloc.2"; form = form.Stloc; operand = operand.Place 2 } ∷
    record { word = codes "stloc.3"; form = form.Stloc; operand = operand.Place 3 } ∷
    record { word = codes "ldind.i4"; form = form.Ldobj; operand = operand.Type w.Int32 } ∷
    record { word = codes "ldind.i8"; form = form.Ldobj; operand = operand.Type w.Int64 } ∷
    record { word = codes "ldind.ref"; form = form.Ldobj; operand = operand.Type w.Object } ∷
    record { word = codes "stind.i4"; form = form.Stobj; operand = operand.Type w.Int32 } ∷
    record { word = codes "stind.i8"; form = form.Stobj; operand = operand.Type w.Int64 } ∷
    record { word = codes "stind.ref"; form = form.Stobj; operand = operand.Type w.Object } ∷
    record { word = codes "ldelem.i4"; form = form.Ldelem; operand = operand.Type w.Int32 } ∷
    record { word = codes "ldelem.i8"; form = form.Ldelem; operand = operand.Type w.Int64 } ∷
    record { word = codes "stelem.i4"; form = form.Stelem; operand = operand.Type w.Int32 } ∷
    record { word = codes "stelem.i8"; form = form.Stelem; operand = operand.Type w.Int64 } ∷
    []

-- Small programs with types, and what their histories must be, written by hand. This project's own.
use Rattle.std.specs.Prelude.{ℕ, zero, suc, ◌+◌, ◌-◌, nat_le, nat_lt, ◌&&◌, true, false, if◌then◌else◌, pos, List, [], ◌∷◌, ◌++◌, Some, None, codes}
use Rattle.type_tree.specs.declared.tree.Head.{Head}
use Rattle.type_tree.specs.declared.tree.Head.TheVariants as head
use Rattle.type_tree.specs.declared.tree.TExpr.{TExpr}
use Rattle.type_tree.specs.declared.tree.TNode.{TNode}
use Rattle.type_tree.specs.declared.tree.TNode.TheVariants.{Node, ClassVar, MethodVar}
use Rattle.type_tree.specs.Tree.{node, top_of}
use Rattle.il_model.specs.declared.class.ClassKind.TheVariants as kind
use Rattle.il_model.specs.declared.class.FieldDef.{FieldDef}
use Rattle.il_model.specs.declared.entry.Entry.{Entry}
use Rattle.il_model.specs.declared.entry.Entry.TheVariants as entry
use Rattle.il_model.specs.declared.member.MRef.{MRef}
use Rattle.il_model.specs.declared.member.FRef.{FRef}
use Rattle.il_model.specs.declared.method.Shape.TheVariants as shape
use Rattle.il_model.specs.declared.method.Sort.TheVariants as sort
use Rattle.il_model.specs.declared.method.PType.{PType}
use Rattle.il_model.specs.declared.method.PType.TheVariants as ptype
use Rattle.il_model.specs.declared.method.MethodDef.{MethodDef}
use Rattle.il_model.specs.declared.op.Op.{Op}
use Rattle.il_model.specs.declared.op.Op.TheVariants as op
use Rattle.il_model.specs.declared.program.Program.{Program}
use Rattle.il_model.specs.Library.{plain, library_class, library_classes, library_methods}
use Rattle.interaction.specs.Process.{Naming}
use Rattle.store_object.specs.declared.place.Place.TheVariants as at
use Rattle.store_object.specs.declared.request.Cause.TheVariants as cause
use Rattle.store_object.specs.declared.request.Request.TheVariants as ask
use Rattle.store_object.specs.declared.reply.Reply.TheVariants as says
use Rattle.cil_meaning.specs.Naming.{Mention, OfEntry, OfClause, OfSlot, OfFault}
use Rattle.cil_meaning.specs.SmallPrograms.{History, main_method, program_of, by_main, prints}

abbrev pub int32 : TExpr
int32 = node head.Int32 []

-- the number of a type without arguments: 2 to 4 of the scalars, and 5 more than its class's
abbrev pub number_of_head : Head → ℕ
number_of_head head.Int32 = 2
number_of_head head.Int64 = 3
number_of_head head.Bool = 4
number_of_head head.Vector = 100
number_of_head (head.Class number) = number + 5

abbrev pub number_of_top : TNode TExpr → ℕ
number_of_top (Node h parts) = number_of_head h
number_of_top (ClassVar n) = 0
number_of_top (MethodVar n) = 0

abbrev pub number_of_entry : Entry → ℕ
number_of_entry (entry.Kind t) = number_of_top (top_of t)
number_of_entry (entry.Method number class args) = number + 200
number_of_entry (entry.Size t) = 1
number_of_entry (entry.Extent t) = 1
number_of_entry (entry.Offset t place) = 1
number_of_entry (entry.Slot number) = 1

abbrev pub number_of : Mention → ℕ
number_of (OfEntry m e) = number_of_entry e
number_of (OfClause m e) = number_of_entry e
number_of (OfSlot t slot) = slot + 200
number_of (OfFault class) = class + 5

abbrev pub classes_named : Naming Mention TExpr
classes_named = record {
  value_of = λ m. Some (number_of m);
  tree_at = λ i. if nat_le 5 i && nat_lt i 100 then Some (plain (i - 5)) else None;
}

-- An exception that is caught: 1 / 0 in a try whose clause catches division by zero; its handler prints 9.
abbrev pub catches : Program
catches = program_of [] (op.LdcI4 (pos 1) ∷ op.LdcI4 (pos 0) ∷ op.Div ∷ op.Pop ∷ op.Leave 8 ∷ op.Pop ∷ op.LdcI4 (pos 9) ∷ op.WriteLineInt32 ∷ op.Ret ∷ [])
    (record { from = 0; to = 5; sort = sort.Catch (plain 5); handler = 5; end = 8 } ∷ [])

abbrev pub catches_history : History
catches_history = by_main (ask.Alloc 10 0 0) (says.Object 1) ∷ prints 9 ∷ by_main ask.Finish says.Done ∷ []

-- The program whose class has these fields, a Main of these locals and instructions, and these methods besides, from number 13.
abbrev pub program_with : List FieldDef → List PType → List Op → List MethodDef → Program
program_with fields locals code methods = record {
  classes = library_classes ++ record { name = codes "P"; kind = kind.Plain; vars = []; base = Some (plain 0); interfaces = []; fields = fields; methods = 12 ∷ 13 ∷ [] } ∷ [];
  methods = library_methods ++ main_method locals code [] ∷ methods;
  literals = [];
  main = 12;
}

-- a static method without parameters or result
abbrev pub static_method : List ℕ → List Op → MethodDef
static_method name code = record { owner = 13; name = name; shape = shape.Fixed; vars = []; params = []; result = None; body = Some (record { locals = []; code = code; clauses = [] }) }

-- A call: Main calls a method that prints 7, and prints 8 itself.
abbrev pub show : MRef
show = record { instance = false; result = None; class = plain 13; name = codes "Show"; args = []; params = [] }

abbrev pub calls : Program
calls = program_with [] [] (op.Call show ∷ op.LdcI4 (pos 8) ∷ op.WriteLineInt32 ∷ op.Ret ∷ []) (static_method (codes "Show") (op.LdcI4 (pos 7) ∷ op.WriteLineInt32 ∷ op.Ret ∷ []) ∷ [])

abbrev pub calls_history : History
calls_history = prints 7 ∷ prints 8 ∷ by_main ask.Finish says.Done ∷ []

-- A static field of int32: 3 is stored, exchanged for 4 through its address, and both are printed.
abbrev pub count : FRef
count = record { kind = int32; class = plain 13; name = codes "count" }

abbrev pub exchanges : Program
exchanges = program_with (record { name = codes "count"; fixed = true; kind = int32 } ∷ []) []
    (op.LdcI4 (pos 3) ∷ op.Stsfld count ∷ op.Ldsflda count ∷ op.LdcI4 (pos 4) ∷ op.ExchangeInt32 ∷ op.WriteLineInt32 ∷ op.Ldsfld count ∷ op.WriteLineInt32 ∷ op.Ret ∷ [])
    (static_method (codes "Show") (op.Ret ∷ []) ∷ [])

abbrev pub exchanges_history : History
exchanges_history =
    by_main (ask.Save (at.Fixed 18 0) 3) says.Done ∷ by_main (ask.Exchange (at.Fixed 18 0) 4) (says.Word 3) ∷ prints 3 ∷
    by_main (ask.Load (at.Fixed 18 0)) (says.Word 4) ∷ prints 4 ∷ by_main ask.Finish says.Done ∷ []

-- A refused mention: the name of a struct of 17 words, which no value may have, and the run stops.
abbrev pub int32_fields : ℕ → List FieldDef
int32_fields zero = []
int32_fields (suc n) = record { name = codes "f"; fixed = false; kind = int32 } ∷ int32_fields n

abbrev pub wide : Program
wide = record {
  classes =
      library_classes ++ library_class (codes "P") kind.Plain (Some (plain 0)) (12 ∷ []) ∷
      record { name = codes "Wide"; kind = kind.Struct; vars = []; base = None; interfaces = []; fields = int32_fields 17; methods = [] } ∷ [];
  methods = library_methods ++ main_method [] (op.NameOf (plain 14) ∷ op.WriteLineString ∷ op.Ret ∷ []) [] ∷ [];
  literals = [];
  main = 12;
}

abbrev pub wide_history : History
wide_history = by_main (ask.Stop cause.ValueWords) (says.Stopped cause.ValueWords) ∷ []

-- A field by pointer: 5 is stored into the second field of a local struct through its address, and read so. A frame's words take no request.
abbrev pub second : FRef
second = record { kind = int32; class = plain 14; name = codes "b" }

abbrev pub points : Program
points = record {
  classes =
      library_classes ++ library_class (codes "P") kind.Plain (Some (plain 0)) (12 ∷ []) ∷
      record { name = codes "S"; kind = kind.Struct; vars = []; base = None; interfaces = []; fields = record { name = codes "a"; fixed = false; kind = int32 } ∷ record { name = codes "b"; fixed = false; kind = int32 } ∷ []; methods = [] } ∷ [];
  methods = library_methods ++ main_method (ptype.Value (plain 14) ∷ []) (op.Ldloca 0 ∷ op.LdcI4 (pos 5) ∷ op.Stfld second ∷ op.Ldloca 0 ∷ op.Ldfld second ∷ op.WriteLineInt32 ∷ op.Ret ∷ []) [] ∷ [];
  literals = [];
  main = 12;
}

abbrev pub points_history : History
points_history = prints 5 ∷ by_main ask.Finish says.Done ∷ []

-- Which types are references. A rule of ECMA-335, Partition I; a type variable is none, being a type of its own.
use Rattle.std.specs.Prelude.{Bool, true, false, Option, Some, None}
use Rattle.type_tree.specs.declared.tree.TExpr.{TExpr}
use Rattle.type_tree.specs.declared.tree.TNode.{TNode}
use Rattle.type_tree.specs.declared.tree.TNode.TheVariants.{Node, ClassVar, MethodVar}
use Rattle.type_tree.specs.declared.tree.Head.TheVariants as head
use Rattle.type_tree.specs.Tree.{top_of}
use Rattle.il_model.specs.declared.class.ClassKind.{ClassKind}
use Rattle.il_model.specs.declared.class.ClassKind.TheVariants as kind
use Rattle.il_model.specs.declared.class.ClassDef.{ClassDef}
use Rattle.il_model.specs.declared.program.Program.{Program}
use Rattle.il_model.specs.Find.{class_of}

-- whether the objects of a class go by reference: all but those of a struct
abbrev pub is_reference_kind : ClassKind → Bool
is_reference_kind kind.Plain = true
is_reference_kind kind.Abstract = true
is_reference_kind kind.Interface = true
is_reference_kind kind.Struct = false
is_reference_kind kind.Delegate = true

-- whether this is a definition whose objects go by reference
abbrev pub is_reference_class : Option ClassDef → Bool
is_reference_class (Some c) = is_reference_kind c.kind
is_reference_class None = false

abbrev pub is_reference_top : Program → TExpr → TNode TExpr → Bool
is_reference_top program t (Node head.Int32 parts) = false
is_reference_top program t (Node head.Int64 parts) = false
is_reference_top program t (Node head.Bool parts) = false
is_reference_top program t (Node head.Vector parts) = true
is_reference_top program t (Node (head.Class number) parts) = is_reference_class (class_of program t)
is_reference_top program t (ClassVar n) = false
is_reference_top program t (MethodVar n) = false

-- whether a type is a reference type: a vector, or a class that is no struct
abbrev pub is_reference : Program → TExpr → Bool
is_reference program t = is_reference_top program t (top_of t)

abbrev pub is_struct_kind : ClassKind → Bool
is_struct_kind kind.Plain = false
is_struct_kind kind.Abstract = false
is_struct_kind kind.Interface = false
is_struct_kind kind.Struct = true
is_struct_kind kind.Delegate = false

abbrev pub is_struct_class : Option ClassDef → Bool
is_struct_class (Some c) = is_struct_kind c.kind
is_struct_class None = false

-- whether a type is a value type: a scalar or a struct. A variable is neither
abbrev pub is_value_top : Program → TExpr → TNode TExpr → Bool
is_value_top program t (Node head.Int32 parts) = true
is_value_top program t (Node head.Int64 parts) = true
is_value_top program t (Node head.Bool parts) = true
is_value_top program t (Node head.Vector parts) = false
is_value_top program t (Node (head.Class number) parts) = is_struct_class (class_of program t)
is_value_top program t (ClassVar n) = false
is_value_top program t (MethodVar n) = false

abbrev pub is_value : Program → TExpr → Bool
is_value program t = is_value_top program t (top_of t)

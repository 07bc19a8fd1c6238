-- Programs of the first form: one class with one static method, which adds int32 constants and prints them. This project's own.
use Rattle.std.specs.Prelude.{◌≡◌, ◌==◌, Bool, true, false, ◌&&◌, List, [], ◌∷◌, length, slice_get, is_none, Option, Some, None, option_map, option_and_then, if◌then◌else◌}
use Rattle.type_tree.specs.declared.tree.TExpr.{TExpr}
use Rattle.type_tree.specs.declared.tree.TNode.{TNode}
use Rattle.type_tree.specs.declared.tree.TNode.TheVariants.{Node, ClassVar, MethodVar}
use Rattle.type_tree.specs.declared.tree.Head.TheVariants as head
use Rattle.type_tree.specs.Tree.{top_of}
use Rattle.il_model.specs.declared.class.ClassKind.{ClassKind}
use Rattle.il_model.specs.declared.class.ClassKind.TheVariants as kind
use Rattle.il_model.specs.declared.class.ClassDef.{ClassDef}
use Rattle.il_model.specs.declared.method.Shape.{Shape}
use Rattle.il_model.specs.declared.method.Shape.TheVariants as shape
use Rattle.il_model.specs.declared.method.Body.{Body}
use Rattle.il_model.specs.declared.method.MethodDef.{MethodDef}
use Rattle.il_model.specs.declared.op.Op.{Op}
use Rattle.il_model.specs.declared.op.Op.TheVariants as op
use Rattle.il_model.specs.declared.program.Program.{Program}
use Rattle.run_top.specs.declared.first.FirstOp.{FirstOp}
use Rattle.run_top.specs.declared.first.FirstOp.TheVariants.{Push, Add, Print, Ret}
use Rattle.run_top.specs.WellFormed.{IsWellFormed}

-- the instruction of the first form that an instruction is
abbrev pub op_of : Op → Option FirstOp
op_of (op.LdcI4 n) = Some (Push n)
op_of op.Add = Some Add
op_of op.WriteLineInt32 = Some Print
op_of op.Ret = Some Ret
op_of other = None

abbrev pub before : Option FirstOp → Option (List FirstOp) → Option (List FirstOp)
before None ops = None
before (Some first) ops = option_map (λ rest. first ∷ rest) ops

-- the instructions of the first form that these are, where each is one
abbrev pub ops_of : List Op → Option (List FirstOp)
ops_of [] = Some []
ops_of (o ∷ os) = before (op_of o) (ops_of os)

abbrev pub is_object_top : TNode TExpr → Bool
is_object_top (Node head.Int32 parts) = false
is_object_top (Node head.Int64 parts) = false
is_object_top (Node head.Bool parts) = false
is_object_top (Node head.Vector parts) = false
is_object_top (Node (head.Class number) parts) = number == 0 && length parts == 0
is_object_top (ClassVar n) = false
is_object_top (MethodVar n) = false

abbrev pub is_object : TExpr → Bool
is_object t = is_object_top (top_of t)

abbrev pub is_plain_kind : ClassKind → Bool
is_plain_kind kind.Plain = true
is_plain_kind kind.Abstract = false
is_plain_kind kind.Interface = false
is_plain_kind kind.Struct = false
is_plain_kind kind.Delegate = false

abbrev pub has_object : Option TExpr → Bool
has_object None = false
has_object (Some base) = is_object base

-- a plain class with the base `object`, without type variables, interfaces and fields
abbrev pub is_first_class : ClassDef → Bool
is_first_class c =
    has_object c.base && is_plain_kind c.kind && length c.vars == 0 && length c.interfaces == 0 && length c.fields == 0

abbrev pub is_fixed_shape : Shape → Bool
is_fixed_shape shape.Fixed = true
is_fixed_shape shape.Instance = false
is_fixed_shape shape.Virtual = false
is_fixed_shape shape.NewSlot = false
is_fixed_shape shape.Abstract = false

-- a static method without type variables, parameters and result
abbrev pub is_first_method : MethodDef → Bool
is_first_method m = is_fixed_shape m.shape && length m.vars == 0 && length m.params == 0 && is_none m.result

-- a body without locals and clauses
abbrev pub plain_body : Body → Option Body
plain_body b = if length b.locals == 0 && length b.clauses == 0 then Some b else None

-- the body of such a method
abbrev pub first_body : MethodDef → Option Body
first_body m = if is_first_method m then option_and_then plain_body m.body else None

abbrev pub is_first_class_at : Option ClassDef → Bool
is_first_class_at None = false
is_first_class_at (Some c) = is_first_class c

-- behind the 13 classes and the 12 methods of the library stand one class and one method, with which the program begins
abbrev pub has_one_method : Program → Bool
has_one_method p =
    length p.classes == 14 && length p.methods == 13 && p.main == 12 && is_first_class_at (slice_get p.classes 13)

-- the body of the one method
abbrev pub one_body : Program → Option Body
one_body p = if has_one_method p then option_and_then first_body (slice_get p.methods 12) else None

-- the instructions of the one method, where all are of the first form
abbrev pub first_code : Program → Option (List FirstOp)
first_code p = option_and_then (λ b. ops_of b.code) (one_body p)

-- a program of the first form, with these instructions
pub record IsFirstForm (p : Program) (ops : List FirstOp) : Type 0 where
  pub code : first_code p ≡ Some ops
  pub well_formed : IsWellFormed ops

-- What a body may name and what its stack holds: the arguments, the locals, and how a type stands on the stack. After ECMA-335, Partitions I and III.
use Rattle.std.specs.Prelude.{List, [], ◌∷◌, slice_get, Option, Some, None, if◌then◌else◌}
use Rattle.type_tree.specs.declared.tree.TExpr.{TExpr}
use Rattle.type_tree.specs.declared.tree.TNode.{TNode}
use Rattle.type_tree.specs.declared.tree.TNode.TheVariants.{Node, ClassVar, MethodVar}
use Rattle.type_tree.specs.declared.tree.Head.{Head}
use Rattle.type_tree.specs.declared.tree.Head.TheVariants as head
use Rattle.type_tree.specs.Tree.{top_of}
use Rattle.il_model.specs.declared.method.PType.{PType}
use Rattle.il_model.specs.declared.method.PType.TheVariants as ptype
use Rattle.il_model.specs.declared.method.Clause.{Clause}
use Rattle.il_model.specs.declared.method.Body.{Body}
use Rattle.il_model.specs.declared.method.MethodDef.{MethodDef}
use Rattle.il_model.specs.declared.op.Op.{Op}
use Rattle.il_model.specs.declared.program.Program.{Program}
use Rattle.il_model.specs.Find.{takes_object}
use Rattle.il_model.specs.Kinds.{is_struct_class}
use Rattle.il_model.specs.Bases.{own_of}
use Rattle.il_model.specs.Assignable.{Bounded}
use Rattle.il_model.specs.ClassRules.{vars_in}
use Rattle.cil_flow.specs.declared.state.StackType.{StackType}
use Rattle.cil_flow.specs.declared.state.StackType.TheVariants as stack

-- what a body is judged by: its program and its method
pub record View : Type 0 where
  pub program : Program
  pub method : MethodDef

abbrev pub view_of : Program → MethodDef → View
view_of program m = record { program = program; method = m }

-- what a body consists of; a method without one has none of it
abbrev pub locals_of : Option Body → List PType
locals_of (Some b) = b.locals
locals_of None = []

abbrev pub code_of : Option Body → List Op
code_of (Some b) = b.code
code_of None = []

abbrev pub clauses_of : Option Body → List Clause
clauses_of (Some b) = b.clauses
clauses_of None = []

-- the variables that the body's types are read among
abbrev pub scope_of : Program → MethodDef → Bounded
scope_of program m = record { of_class = vars_in (slice_get program.classes m.owner); of_method = m.vars }

abbrev pub scope_in : View → Bounded
scope_in v = scope_of v.program v.method

-- the object that a method is called on: a pointer to a struct, or else a reference
abbrev pub object_place : Program → MethodDef → PType
object_place program m =
    if is_struct_class (slice_get program.classes m.owner) then ptype.Pointer (own_of program m.owner) else ptype.Value (own_of program m.owner)

-- the places of a method's arguments, the object first
abbrev pub argument_places : Program → MethodDef → List PType
argument_places program m = if takes_object m.shape then (object_place program m ∷ m.params) else m.params

-- ---- how a type stands on the stack

abbrev pub stack_in_head : TExpr → Head → StackType
stack_in_head t head.Int32 = stack.Int32
stack_in_head t head.Int64 = stack.Int64
stack_in_head t head.Bool = stack.Int32
stack_in_head t head.Vector = stack.Kind t
stack_in_head t (head.Class number) = stack.Kind t

abbrev pub stack_in_top : TExpr → TNode TExpr → StackType
stack_in_top t (Node h parts) = stack_in_head t h
stack_in_top t (ClassVar n) = stack.Kind t
stack_in_top t (MethodVar n) = stack.Kind t

-- the stack type of a value of a type; bool counts as int32
abbrev pub stack_of : TExpr → StackType
stack_of t = stack_in_top t (top_of t)

-- the stack type of what a place holds
abbrev pub stack_of_place : PType → StackType
stack_of_place (ptype.Value t) = stack_of t
stack_of_place (ptype.Pointer t) = stack.Pointer t
stack_of_place ptype.Native = stack.Native

-- the type whose address a place gives; a place of a pointer gives none
abbrev pub addressed : PType → Option TExpr
addressed (ptype.Value t) = Some t
addressed (ptype.Pointer t) = None
addressed ptype.Native = None

-- What the process asks of types: the kind and words of a value, what a place keeps of it, and what casts pass. After ECMA-335, Partition I; words are this project's own.
use Rattle.std.specs.Prelude.{ℕ, ◌%◌, Bool, true, false, ◌&&◌, ◌||◌, List, [], ◌∷◌, map, replicate, if◌then◌else◌, flat_map, option_to_list}
use Rattle.type_tree.specs.declared.tree.TExpr.{TExpr}
use Rattle.type_tree.specs.declared.tree.TNode.{TNode}
use Rattle.type_tree.specs.declared.tree.TNode.TheVariants.{Node, ClassVar, MethodVar}
use Rattle.type_tree.specs.declared.tree.Head.{Head}
use Rattle.type_tree.specs.declared.tree.Head.TheVariants as head
use Rattle.type_tree.specs.Tree.{top_of}
use Rattle.il_model.specs.declared.program.Program.{Program}
use Rattle.il_model.specs.declared.method.Body.{Body}
use Rattle.il_model.specs.declared.method.MethodDef.{MethodDef}
use Rattle.il_model.specs.declared.method.PType.{PType}
use Rattle.il_model.specs.declared.method.PType.TheVariants as ptype
use Rattle.il_model.specs.declared.layout.MethodTree.{MethodTree}
use Rattle.il_model.specs.Find.{takes_object}
use Rattle.il_model.specs.Kinds.{is_value}
use Rattle.il_model.specs.Assignable.{is_assignable, is_object}
use Rattle.il_model.specs.Layouts.{words_of}
use Rattle.cil_meaning.specs.Values.{Kind, Int32, Int64, Native, Reference, Struct, Null, Value, Plain, Managed}
use Rattle.cil_meaning.specs.Naming.{put_type}

abbrev pub kind_of_class : (is_value_type : Bool) → Kind
kind_of_class true = Struct
kind_of_class false = Reference

-- the kind of a value of a type; a running body has no variables
abbrev pub kind_of_top : Program → TExpr → TNode TExpr → Kind
kind_of_top p t (Node head.Int32 parts) = Int32
kind_of_top p t (Node head.Int64 parts) = Int64
kind_of_top p t (Node head.Bool parts) = Int32
kind_of_top p t (Node head.Vector parts) = Reference
kind_of_top p t (Node (head.Class number) parts) = kind_of_class (is_value p t)
kind_of_top p t (ClassVar n) = Struct
kind_of_top p t (MethodVar n) = Struct

abbrev pub kind_of : Program → TExpr → Kind
kind_of p t = kind_of_top p t (top_of t)

abbrev pub is_bool_head : Head → Bool
is_bool_head head.Int32 = false
is_bool_head head.Int64 = false
is_bool_head head.Bool = true
is_bool_head head.Vector = false
is_bool_head (head.Class number) = false

abbrev pub is_bool_top : TNode TExpr → Bool
is_bool_top (Node h parts) = is_bool_head h
is_bool_top (ClassVar n) = false
is_bool_top (MethodVar n) = false

abbrev pub is_bool : TExpr → Bool
is_bool t = is_bool_top (top_of t)

-- Whether an object of the exact type passes where the other is asked for. An object whose exact type is a value type is a box,
-- and boxes pass as object.
abbrev pub passes_as : Program → (exact asked : TExpr) → Bool
passes_as p exact asked = is_assignable p exact asked || (is_value p exact && is_object asked)

-- Places ------------------------------------------------------------------

-- what a place of the type keeps of words: of a bool the low eight bits
abbrev pub kept : TExpr → List ℕ → List ℕ
kept t ws = if is_bool t then map (λ w. w % 256) ws else ws

-- a zero of the type, with which a place begins; a pointer begins as null
abbrev pub zero_of : Program → PType → Value
zero_of p (ptype.Value t) = Plain (kind_of p t) (replicate (words_of p t) 0)
zero_of p (ptype.Pointer t) = Managed Null
zero_of p ptype.Native = Plain Native (0 ∷ [])

-- a parameter's or a local's type with the arguments of the instantiated method put
abbrev pub put_place : MethodTree → PType → PType
put_place m (ptype.Value t) = ptype.Value (put_type m t)
put_place m (ptype.Pointer t) = ptype.Pointer (put_type m t)
put_place m ptype.Native = ptype.Native

-- the object of an instance method: a struct's takes a pointer to it
abbrev pub object_place : Program → TExpr → PType
object_place p class = if is_value p class then ptype.Pointer class else ptype.Value class

-- the types of the arguments of an instantiated method, the object first
abbrev pub arguments_with : (has_object : Bool) → PType → List PType → List PType
arguments_with true object params = object ∷ params
arguments_with false object params = params

abbrev pub local_places : MethodTree → MethodDef → List PType
local_places m d = flat_map (λ (b : Body). map (put_place m) b.locals) (option_to_list d.body)

abbrev pub argument_places : Program → MethodTree → MethodDef → List PType
argument_places p m d = arguments_with (takes_object d.shape) (object_place p m.class) (map (put_place m) d.params)

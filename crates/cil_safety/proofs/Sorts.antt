-- What values are made of: the scalars of a type, and the sort of a value on a stack or in a place.
use Rattle.std.specs.Prelude.{ℕ, zero, suc, ◌*◌, List, [], ◌∷◌, ◌++◌, flat_map, map, Option, Some, None, if◌then◌else◌}
use Rattle.type_tree.specs.declared.tree.TExpr.{TExpr}
use Rattle.type_tree.specs.declared.tree.TNode.{TNode}
use Rattle.type_tree.specs.declared.tree.TNode.TheVariants.{Node, ClassVar, MethodVar}
use Rattle.type_tree.specs.declared.tree.Head.{Head}
use Rattle.type_tree.specs.declared.tree.Head.TheVariants as head
use Rattle.type_tree.specs.Tree.{top_of}
use Rattle.type_tree.specs.Positions.{positions_of}
use Rattle.il_model.specs.declared.program.Program.{Program}
use Rattle.il_model.specs.declared.method.PType.{PType}
use Rattle.il_model.specs.declared.method.PType.TheVariants as ptype
use Rattle.il_model.specs.declared.method.MethodDef.{MethodDef}
use Rattle.il_model.specs.declared.layout.MethodTree.{MethodTree}
use Rattle.il_model.specs.Kinds.{is_reference}
use Rattle.il_model.specs.Layouts.{most_trees, parts_of, instance_kinds_of, static_kinds_of}
use Rattle.cil_flow.specs.declared.state.StackType.{StackType}
use Rattle.cil_flow.specs.declared.state.StackType.TheVariants as stack
use Rattle.cil_meaning.specs.Values.{Kind}
use Rattle.cil_meaning.specs.Values as kind
use Rattle.cil_meaning.specs.Naming.{put_type}
use Rattle.cil_meaning.specs.Types.{kind_of, argument_places, local_places}

-- What one word is: an int32, an int64, a length, a bool, a reference to a type, a reference to a box of just this type, or null.
-- The last two and a length stand on stacks alone.
pub data Scalar : Type 0 where
  Number32 : Scalar
  Number64 : Scalar
  Length : Scalar
  Truth : Scalar
  Ref : TExpr → Scalar
  BoxOf : TExpr → Scalar
  Nil : Scalar

-- what a value is: words, which an instruction sees as of a kind, or a pointer to words
pub data Sort : Type 0 where
  Words : Kind → List Scalar → Sort
  To : List Scalar → Sort

-- ---- the scalars of a type

abbrev pub scalar_in_head : TExpr → Head → Scalar
scalar_in_head t head.Int32 = Number32
scalar_in_head t head.Int64 = Number64
scalar_in_head t head.Bool = Truth
scalar_in_head t head.Vector = Ref t
scalar_in_head t (head.Class number) = Ref t

abbrev pub scalar_in_top : TExpr → TNode TExpr → Scalar
scalar_in_top t (Node h parts) = scalar_in_head t h
scalar_in_top t (ClassVar n) = Ref t
scalar_in_top t (MethodVar n) = Ref t

-- the scalar of a type that has no parts
abbrev pub scalar_of : TExpr → Scalar
scalar_of t = scalar_in_top t (top_of t)

abbrev pub scalars_in : (TExpr → List Scalar) → TExpr → Option (List TExpr) → List Scalar
scalars_in scalars t None = scalar_of t ∷ []
scalars_in scalars t (Some kinds) = flat_map scalars kinds

module _ (p : Program) where
  -- the scalars of a value, where structs are opened so many levels far
  abbrev pub scalars_within : ℕ → TExpr → List Scalar
  scalars_within zero t = scalar_of t ∷ []
  scalars_within (suc levels) t = scalars_in (λ part. scalars_within levels part) t (parts_of p t)

  -- the scalars of a value of a type, as many as it has words
  abbrev pub scalars_of : TExpr → List Scalar
  scalars_of t = scalars_within (most_trees * positions_of t) t

  abbrev pub instance_scalars_top : TExpr → TNode TExpr → List Scalar
  instance_scalars_top t (Node head.Int32 parts) = Number32 ∷ []
  instance_scalars_top t (Node head.Int64 parts) = Number64 ∷ []
  instance_scalars_top t (Node head.Bool parts) = Truth ∷ []
  instance_scalars_top t (Node head.Vector parts) = []
  instance_scalars_top t (Node (head.Class number) parts) = flat_map scalars_of (instance_kinds_of p t)
  instance_scalars_top t (ClassVar n) = Ref t ∷ []
  instance_scalars_top t (MethodVar n) = Ref t ∷ []

  -- the scalars of an object of just this type that is no vector, and of what a box of it holds
  abbrev pub instance_scalars_of : TExpr → List Scalar
  instance_scalars_of t = instance_scalars_top t (top_of t)

  -- the scalars of the static words of a type
  abbrev pub static_scalars_of : TExpr → List Scalar
  static_scalars_of t = flat_map scalars_of (static_kinds_of p t)

  -- ---- sorts

  -- a value of a type without variables
  abbrev pub value_sort : TExpr → Sort
  value_sort t = Words (kind_of p t) (scalars_of t)

  -- what a place of a type without variables holds
  abbrev pub place_sort : PType → Sort
  place_sort (ptype.Value t) = value_sort t
  place_sort (ptype.Pointer t) = To (scalars_of t)
  place_sort ptype.Native = Words kind.Native (Length ∷ [])

  -- the boxed form of a type: a reference type itself, or a box of just this type
  abbrev pub boxed_scalar : TExpr → Scalar
  boxed_scalar t = if is_reference p t then Ref t else BoxOf t

  -- a stack type of a body, with the arguments of the instantiated method put for its variables
  abbrev pub sort_of : MethodTree → StackType → Sort
  sort_of m stack.Int32 = Words kind.Int32 (Number32 ∷ [])
  sort_of m stack.Int64 = Words kind.Int64 (Number64 ∷ [])
  sort_of m stack.Native = Words kind.Native (Length ∷ [])
  sort_of m stack.Null = Words kind.Reference (Nil ∷ [])
  sort_of m (stack.Kind t) = value_sort (put_type m t)
  sort_of m (stack.Boxed t) = Words kind.Reference (boxed_scalar (put_type m t) ∷ [])
  sort_of m (stack.Pointer t) = To (scalars_of (put_type m t))

  abbrev pub sorts_of : MethodTree → List StackType → List Sort
  sorts_of m ss = map (sort_of m) ss

  -- the places of an instantiated method: its arguments, then its locals
  abbrev pub held_sorts : MethodTree → MethodDef → List Sort
  held_sorts m d = map place_sort (argument_places p m d ++ local_places m d)

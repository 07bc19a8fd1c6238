-- How the stacks of two ways meet. This project's own, after ECMA-335, Partition III.
use Rattle.std.specs.Prelude.{Bool, true, false, not, ◌&&◌, ◌||◌, List, [], ◌∷◌, find, Option, Some, None, unwrap_or, if◌then◌else◌}
use Rattle.type_tree.specs.declared.tree.TExpr.{TExpr}
use Rattle.type_tree.specs.Same.{is_same}
use Rattle.il_model.specs.declared.class.ClassDef.{ClassDef}
use Rattle.il_model.specs.declared.program.Program.{Program}
use Rattle.il_model.specs.Find.{class_of}
use Rattle.il_model.specs.Kinds.{is_reference, is_reference_kind}
use Rattle.il_model.specs.Library.{plain}
use Rattle.il_model.specs.Trees.{is_among}
use Rattle.il_model.specs.Bases.{bases_of}
use Rattle.il_model.specs.Slots.{is_interface_kind}
use Rattle.cil_flow.specs.declared.state.StackType.{StackType}
use Rattle.cil_flow.specs.declared.state.StackType.TheVariants as stack
use Rattle.cil_verify.specs.Places.{View}
use Rattle.cil_verify.specs.Fits.{is_int32, is_int64, is_null, is_object, points_to, refers_to}

abbrev pub is_native : StackType → Bool
is_native stack.Int32 = false
is_native stack.Int64 = false
is_native stack.Native = true
is_native stack.Null = false
is_native (stack.Kind t) = false
is_native (stack.Boxed t) = false
is_native (stack.Pointer t) = false

-- the value of just this type
abbrev pub is_of_kind : TExpr → StackType → Bool
is_of_kind t stack.Int32 = false
is_of_kind t stack.Int64 = false
is_of_kind t stack.Native = false
is_of_kind t stack.Null = false
is_of_kind t (stack.Kind u) = is_same u t
is_of_kind t (stack.Boxed u) = false
is_of_kind t (stack.Pointer u) = false

-- the boxed form of just this type
abbrev pub is_box_of : TExpr → StackType → Bool
is_box_of t stack.Int32 = false
is_box_of t stack.Int64 = false
is_box_of t stack.Native = false
is_box_of t stack.Null = false
is_box_of t (stack.Kind u) = false
is_box_of t (stack.Boxed u) = is_same u t
is_box_of t (stack.Pointer u) = false

-- whether two stack types are equal
abbrev pub same_type : StackType → StackType → Bool
same_type stack.Int32 = is_int32
same_type stack.Int64 = is_int64
same_type stack.Native = is_native
same_type stack.Null = is_null
same_type (stack.Kind t) = is_of_kind t
same_type (stack.Boxed t) = is_box_of t
same_type (stack.Pointer t) = points_to t

-- ---- assignability of stack types

-- whether the first is a reference that the second takes
abbrev pub widens_to : View → StackType → StackType → Bool
widens_to v a stack.Int32 = false
widens_to v a stack.Int64 = false
widens_to v a stack.Native = false
widens_to v a stack.Null = false
widens_to v a (stack.Kind t) = is_reference v.program t && refers_to v t a
widens_to v a (stack.Boxed t) = is_null a
widens_to v a (stack.Pointer t) = false

-- whether the first is assignable to the second: equal, or a reference that the second takes
abbrev pub is_assignable_type : View → StackType → StackType → Bool
is_assignable_type v a b = same_type a b || widens_to v a b

-- place by place
abbrev pub are_assignable : View → List StackType → List StackType → Bool
are_assignable v [] [] = true
are_assignable v [] (b ∷ bs) = false
are_assignable v (a ∷ s) [] = false
are_assignable v (a ∷ s) (b ∷ bs) = is_assignable_type v a b && are_assignable v s bs

-- ---- joins

-- whether a definition is a class in the narrow sense, and no interface or struct
abbrev pub is_class_def : Option ClassDef → Bool
is_class_def (Some c) = is_reference_kind c.kind && not (is_interface_kind c.kind)
is_class_def None = false

-- the type of a class, if the stack type is one
abbrev pub class_type : Program → StackType → Option TExpr
class_type program stack.Int32 = None
class_type program stack.Int64 = None
class_type program stack.Native = None
class_type program stack.Null = None
class_type program (stack.Kind t) = if is_class_def (class_of program t) then Some t else None
class_type program (stack.Boxed t) = None
class_type program (stack.Pointer t) = None

-- the nearest base of both, each being a base of itself
abbrev pub common_base : Program → TExpr → TExpr → TExpr
common_base program t u = unwrap_or (find (is_among (bases_of program t)) (bases_of program u)) (plain 0)

-- of two references that are not both of classes: the wider, or `object`
abbrev pub wider : View → StackType → StackType → StackType
wider v a b = if is_assignable_type v a b then b else (if is_assignable_type v b a then a else stack.Kind (plain 0))

abbrev pub join_classes : View → StackType → StackType → Option TExpr → Option TExpr → StackType
join_classes v a b (Some t) (Some u) = stack.Kind (common_base v.program t u)
join_classes v a b (Some t) None = wider v a b
join_classes v a b None other = wider v a b

-- two references that differ
abbrev pub join_references : View → StackType → StackType → StackType
join_references v a b = join_classes v a b (class_type v.program a) (class_type v.program b)

-- what two ways leave in one place, if they agree
abbrev pub joined : View → StackType → StackType → Option StackType
joined v a b =
    if same_type a b then Some a
    else (if is_object v.program a && is_object v.program b then Some (join_references v a b) else None)

abbrev pub with_top : Option StackType → Option (List StackType) → Option (List StackType)
with_top (Some a) (Some s) = Some (a ∷ s)
with_top (Some a) None = None
with_top None s = None

-- place by place
abbrev pub joined_stacks : View → List StackType → List StackType → Option (List StackType)
joined_stacks v [] [] = Some []
joined_stacks v [] (b ∷ bs) = None
joined_stacks v (a ∷ s) [] = None
joined_stacks v (a ∷ s) (b ∷ bs) = with_top (joined v a b) (joined_stacks v s bs)

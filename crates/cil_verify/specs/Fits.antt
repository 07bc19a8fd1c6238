-- Which operand fits what a form names. This project's own, after ECMA-335, Partition III.
use Rattle.std.specs.Prelude.{Bool, true, false, ◌&&◌, is_some, if◌then◌else◌}
use Rattle.std.specs.List.{list_any}
use Rattle.type_tree.specs.declared.tree.TExpr.{TExpr}
use Rattle.type_tree.specs.Same.{is_same}
use Rattle.il_model.specs.declared.method.PType.{PType}
use Rattle.il_model.specs.declared.method.PType.TheVariants as ptype
use Rattle.il_model.specs.declared.program.Program.{Program}
use Rattle.il_model.specs.Find.{class_of}
use Rattle.il_model.specs.Kinds.{is_reference, is_struct_class}
use Rattle.il_model.specs.Assignable.{is_assignable, is_box_assignable, element_of, bounds_of}
use Rattle.cil_flow.specs.declared.state.StackType.{StackType}
use Rattle.cil_flow.specs.declared.state.StackType.TheVariants as stack
use Rattle.cil_verify.specs.Places.{View, scope_in, stack_of}

abbrev pub is_int32 : StackType → Bool
is_int32 stack.Int32 = true
is_int32 stack.Int64 = false
is_int32 stack.Native = false
is_int32 stack.Null = false
is_int32 (stack.Kind t) = false
is_int32 (stack.Boxed t) = false
is_int32 (stack.Pointer t) = false

abbrev pub is_int64 : StackType → Bool
is_int64 stack.Int32 = false
is_int64 stack.Int64 = true
is_int64 stack.Native = false
is_int64 stack.Null = false
is_int64 (stack.Kind t) = false
is_int64 (stack.Boxed t) = false
is_int64 (stack.Pointer t) = false

-- an int32, an int64 or a native int
abbrev pub is_number : StackType → Bool
is_number stack.Int32 = true
is_number stack.Int64 = true
is_number stack.Native = true
is_number stack.Null = false
is_number (stack.Kind t) = false
is_number (stack.Boxed t) = false
is_number (stack.Pointer t) = false

-- an int32 or a native int
abbrev pub is_length : StackType → Bool
is_length stack.Int32 = true
is_length stack.Int64 = false
is_length stack.Native = true
is_length stack.Null = false
is_length (stack.Kind t) = false
is_length (stack.Boxed t) = false
is_length (stack.Pointer t) = false

-- null, a reference type, or a boxed form
abbrev pub is_object : Program → StackType → Bool
is_object program stack.Int32 = false
is_object program stack.Int64 = false
is_object program stack.Native = false
is_object program stack.Null = true
is_object program (stack.Kind t) = is_reference program t
is_object program (stack.Boxed t) = true
is_object program (stack.Pointer t) = false

abbrev pub is_null : StackType → Bool
is_null stack.Int32 = false
is_null stack.Int64 = false
is_null stack.Native = false
is_null stack.Null = true
is_null (stack.Kind t) = false
is_null (stack.Boxed t) = false
is_null (stack.Pointer t) = false

-- a pointer to just this type
abbrev pub points_to : TExpr → StackType → Bool
points_to t stack.Int32 = false
points_to t stack.Int64 = false
points_to t stack.Native = false
points_to t stack.Null = false
points_to t (stack.Kind u) = false
points_to t (stack.Boxed u) = false
points_to t (stack.Pointer u) = is_same u t

-- the operand stands on the stack as this type does
abbrev pub stands_as : TExpr → StackType → Bool
stands_as t stack.Int32 = is_int32 (stack_of t)
stands_as t stack.Int64 = is_int64 (stack_of t)
stands_as t stack.Native = false
stands_as t stack.Null = false
stands_as t (stack.Kind u) = is_same u t
stands_as t (stack.Boxed u) = false
stands_as t (stack.Pointer u) = false

-- a reference that a reference type takes: null, a type that is assignable to it, or a boxed form that is
abbrev pub refers_to : View → TExpr → StackType → Bool
refers_to v t stack.Int32 = false
refers_to v t stack.Int64 = false
refers_to v t stack.Native = false
refers_to v t stack.Null = true
refers_to v t (stack.Kind u) = is_reference v.program u && is_assignable v.program u t
refers_to v t (stack.Boxed u) = is_box_assignable v.program (scope_in v) u t
refers_to v t (stack.Pointer u) = false

-- whether an operand fits a type: a reference type takes references, any other type just its own values
abbrev pub fits : View → TExpr → StackType → Bool
fits v t operand = if is_reference v.program t then refers_to v t operand else stands_as t operand

-- whether an operand fits a place: a place of a pointer takes a pointer to just its type
abbrev pub fits_place : View → PType → StackType → Bool
fits_place v (ptype.Value t) operand = fits v t operand
fits_place v (ptype.Pointer t) operand = points_to t operand
fits_place v ptype.Native operand = false

abbrev pub is_vector_type : TExpr → Bool
is_vector_type t = is_some (element_of t)

-- an operand that fits some vector type. A boxed variable does where one of its bounds is a vector type
abbrev pub is_vector : View → StackType → Bool
is_vector v stack.Int32 = false
is_vector v stack.Int64 = false
is_vector v stack.Native = false
is_vector v stack.Null = true
is_vector v (stack.Kind t) = is_vector_type t
is_vector v (stack.Boxed t) = list_any is_vector_type (bounds_of (scope_in v) t)
is_vector v (stack.Pointer t) = false

abbrev pub is_struct : View → TExpr → Bool
is_struct v t = is_struct_class (class_of v.program t)

-- whether an operand is an object of the class that a method or a field is named with: of a struct a pointer to it, of any other class a reference
abbrev pub is_object_of : View → TExpr → StackType → Bool
is_object_of v c operand = if is_struct v c then points_to c operand else fits v c operand

-- what is left by an instruction that makes a reference of a type: a reference type itself, or the boxed form of any other
abbrev pub reference_to : Program → TExpr → StackType
reference_to program t = if is_reference program t then stack.Kind t else stack.Boxed t

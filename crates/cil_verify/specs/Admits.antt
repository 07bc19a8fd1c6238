-- What each form admits and leaves on the stack, a row of the instruction table at a time. After ECMA-335, Partition III; what fits is this project's own.
use Rattle.std.specs.Prelude.{ℕ, zero, suc, Bool, true, false, ◌&&◌, ◌||◌, List, [], ◌∷◌, reverse, slice_get, Option, Some, None, option_map, option_and_then, if◌then◌else◌}
use Rattle.type_tree.specs.declared.tree.TExpr.{TExpr}
use Rattle.il_model.specs.declared.method.PType.{PType}
use Rattle.il_model.specs.declared.member.MRef.{MRef}
use Rattle.il_model.specs.declared.op.Op.{Op}
use Rattle.il_model.specs.Library.{plain}
use Rattle.il_model.specs.Assignable.{meets_bound}
use Rattle.il_model.specs.Entries.{vector_of, field_type}
use Rattle.cil_flow.specs.declared.state.StackType.{StackType}
use Rattle.cil_flow.specs.declared.state.StackType.TheVariants as stack
use Rattle.cil_verify.specs.Places.{View, scope_in, locals_of, argument_places, stack_of, stack_of_place, addressed}
use Rattle.cil_verify.specs.Fits.{is_int32, is_int64, is_number, is_length, is_object, is_null, points_to, stands_as, fits, fits_place, is_vector, is_struct, is_object_of, reference_to}
use Rattle.cil_verify.specs.Members.{params_at, result_at}
use Rattle.cil_verify.specs.Rows.{Bank, arguments, locals, Comparison, numbers_alone, also_references, also_with_null, Row, leaves_all, copies, drops, pushes, loads, addresses, stores, combines, shifts, changes, converts, compares, tests, branches, chooses, empties, calls, calls_on, calls_through, makes, returns, loads_field, stores_field, addresses_field, loads_static, stores_static, addresses_static, loads_through, stores_through, clears, makes_vector, takes_length, loads_element, stores_element, boxes, unboxes, casts, throws, prints, exchanges, starts, joins, admits_none, row_of}

-- what is on the stack, from its top down. Where an operand is not admitted, nothing is left
abbrev pub Operands : Type 0
Operands = List StackType

-- takes one operand that passes the test, and goes on with what is below
abbrev pub take_one : (StackType → Bool) → (Operands → Option Operands) → Operands → Option Operands
take_one test go [] = None
take_one test go (a ∷ s) = if test a then go s else None

abbrev pub take_two : (StackType → StackType → Bool) → (Operands → Option Operands) → Operands → Option Operands
take_two test go [] = None
take_two test go (a ∷ []) = None
take_two test go (b ∷ a ∷ s) = if test a b then go s else None

abbrev pub push : StackType → Operands → Option Operands
push a s = Some (a ∷ s)

abbrev pub push_all : Option TExpr → Operands → Option Operands
push_all None s = Some s
push_all (Some t) s = Some (stack_of t ∷ s)

-- operands for these places, the last of which is on top
abbrev pub take_places : View → List PType → (Operands → Option Operands) → Operands → Option Operands
take_places v [] go s = go s
take_places v (p ∷ places) go s = take_one (fits_place v p) (take_places v places go) s

abbrev pub take_arguments : View → List PType → (Operands → Option Operands) → Operands → Option Operands
take_arguments v places go s = take_places v (reverse places) go s

-- ---- places of the body

abbrev pub places_in : View → Bank → List PType
places_in v arguments = argument_places v.program v.method
places_in v locals = locals_of v.method.body

abbrev pub load_place : Option PType → Operands → Option Operands
load_place (Some p) s = push (stack_of_place p) s
load_place None s = None

abbrev pub address_of : Option TExpr → Operands → Option Operands
address_of (Some t) s = push (stack.Pointer t) s
address_of None s = None

abbrev pub store_place : View → Option PType → Operands → Option Operands
store_place v (Some p) s = take_one (fits_place v p) Some s
store_place v None s = None

-- ---- numbers

-- two int32 or two int64
abbrev pub are_numbers : StackType → StackType → Bool
are_numbers a b = (is_int32 a && is_int32 b) || (is_int64 a && is_int64 b)

-- two of one number type leave one of it
abbrev pub combined : Operands → Option Operands
combined [] = None
combined (a ∷ []) = None
combined (b ∷ a ∷ s) = if are_numbers a b then Some (a ∷ s) else None

abbrev pub shifted : Operands → Option Operands
shifted [] = None
shifted (a ∷ []) = None
shifted (b ∷ a ∷ s) = if (is_int32 a || is_int64 a) && is_int32 b then Some (a ∷ s) else None

abbrev pub changed : Operands → Option Operands
changed [] = None
changed (a ∷ s) = if is_int32 a || is_int64 a then Some (a ∷ s) else None

-- which two operands may be compared
abbrev pub may_compare : View → Comparison → StackType → StackType → Bool
may_compare v numbers_alone a b = are_numbers a b
may_compare v also_references a b = are_numbers a b || (is_object v.program a && is_object v.program b)
may_compare v also_with_null a b = are_numbers a b || (is_object v.program a && is_null b)

-- what `brtrue` and `brfalse` test
abbrev pub may_test : View → StackType → Bool
may_test v a = is_number a || is_object v.program a

-- ---- calls

-- the object of a call, by whether the definition that is named takes one
abbrev pub take_object : View → MRef → (Operands → Option Operands) → Operands → Option Operands
take_object v m go s = if m.instance then take_one (is_object_of v m.class) go s else go s

-- the object of `callvirt`, which no struct's value and no pointer is
abbrev pub is_called_on : View → MRef → StackType → Bool
is_called_on v m a = if is_struct v m.class then false else fits v m.class a

-- whether `constrained.` may be made for this type: it or its boxed form has the class that is called
abbrev pub may_constrain : View → TExpr → MRef → Bool
may_constrain v t m = meets_bound v.program (scope_in v) t m.class

-- takes the arguments of the method that is named, the last of which is on top
abbrev pub after_call : View → MRef → (Operands → Option Operands) → Operands → Option Operands
after_call v m go s = take_arguments v (params_at m) go s

-- ---- `ret`

-- a result and nothing besides, or nothing at all
abbrev pub return_value : View → Option TExpr → Operands → Option Operands
return_value v None s = Some s
return_value v (Some t) s = take_one (fits v t) Some s

-- ---- objects

-- what a field may be read from: a reference or a pointer, or a struct's value
abbrev pub may_be_read : View → TExpr → StackType → Bool
may_be_read v c a = is_object_of v c a || (is_struct v c && stands_as c a)

abbrev pub take_words : View → ℕ → TExpr → (Operands → Option Operands) → Operands → Option Operands
take_words v zero t go s = go s
take_words v (suc n) t go s = take_one (fits v t) (take_words v n t go) s

-- what the row leaves of a stack, from its top down
abbrev pub left_by_row : View → Row → Operands → Option Operands
left_by_row v leaves_all s = Some s
left_by_row v copies [] = None
left_by_row v copies (a ∷ s) = Some (a ∷ a ∷ s)
left_by_row v drops s = take_one (λ a. true) Some s
left_by_row v (pushes a) s = push a s
left_by_row v (loads bank k) s = load_place (slice_get (places_in v bank) k) s
left_by_row v (addresses bank k) s = address_of (option_and_then addressed (slice_get (places_in v bank) k)) s
left_by_row v (stores bank k) s = store_place v (slice_get (places_in v bank) k) s
left_by_row v combines s = combined s
left_by_row v shifts s = shifted s
left_by_row v changes s = changed s
left_by_row v (converts a) s = take_one is_number (push a) s
left_by_row v (compares kind) s = take_two (may_compare v kind) (push stack.Int32) s
left_by_row v tests s = take_one (may_test v) Some s
left_by_row v (branches kind) s = take_two (may_compare v kind) Some s
left_by_row v chooses s = take_one is_int32 Some s
left_by_row v empties s = Some []
left_by_row v (calls m) s = after_call v m (take_object v m (push_all (result_at m))) s
left_by_row v (calls_on m) s = after_call v m (take_one (is_called_on v m) (push_all (result_at m))) s
left_by_row v (calls_through t m) s =
    if may_constrain v t m then after_call v m (take_one (points_to t) (push_all (result_at m))) s else None
left_by_row v (makes m) s = after_call v m (push (stack_of m.class)) s
left_by_row v returns s = return_value v v.method.result s
left_by_row v (loads_field f) s = take_one (may_be_read v f.class) (push (stack_of (field_type f))) s
left_by_row v (stores_field f) s = take_one (fits v (field_type f)) (take_one (is_object_of v f.class) Some) s
left_by_row v (addresses_field f) s = take_one (is_object_of v f.class) (push (stack.Pointer (field_type f))) s
left_by_row v (loads_static f) s = push (stack_of (field_type f)) s
left_by_row v (stores_static f) s = take_one (fits v (field_type f)) Some s
left_by_row v (addresses_static f) s = push (stack.Pointer (field_type f)) s
left_by_row v (loads_through t) s = take_one (points_to t) (push (stack_of t)) s
left_by_row v (stores_through t) s = take_one (fits v t) (take_one (points_to t) Some) s
left_by_row v (clears t) s = take_one (points_to t) Some s
left_by_row v (makes_vector t) s = take_one is_length (push (stack.Kind (vector_of t))) s
left_by_row v takes_length s = take_one (is_vector v) (push stack.Native) s
left_by_row v (loads_element t) s = take_one is_int32 (take_one (fits v (vector_of t)) (push (stack_of t))) s
left_by_row v (stores_element t) s = take_one (fits v t) (take_one is_int32 (take_one (fits v (vector_of t)) Some)) s
left_by_row v (boxes t) s = take_one (fits v t) (push (reference_to v.program t)) s
left_by_row v (unboxes t) s = take_one (is_object v.program) (push (stack_of t)) s
left_by_row v (casts t) s = take_one (is_object v.program) (push (reference_to v.program t)) s
left_by_row v throws s = take_one (fits v (plain 2)) Some s
left_by_row v (prints t) s = take_one (fits v t) Some s
left_by_row v (exchanges t n) s = take_words v n t (take_one (points_to t) (push (stack_of t))) s
left_by_row v starts s = take_one (fits v (plain 11)) (push stack.Int32) s
left_by_row v joins s = take_one is_int32 Some s
left_by_row v admits_none s = None

-- what an instruction leaves of a stack that it admits, both from the deepest place up
abbrev pub left_by : View → Op → List StackType → Option (List StackType)
left_by v i s = option_map reverse (left_by_row v (row_of i) (reverse s))

-- Rows, fits and joins worked out: what a wrong table, a wrong join or a wrong order of causes would change.
use Rattle.std.proofs.Common.{◌≡◌, ℕ, Bool, true, false, List, [], ◌∷◌, Some, None, refl, ap, cond, if◌then◌else◌}
use Rattle.type_tree.specs.declared.tree.TExpr.{TExpr}
use Rattle.type_tree.specs.declared.tree.Head.TheVariants as head
use Rattle.type_tree.specs.Tree.{node}
use Rattle.type_tree.proofs.TreeLemmas.{top_of-tree_of}
use Rattle.il_model.specs.declared.member.MRef.{MRef}
use Rattle.il_model.specs.declared.op.Op.{Op}
use Rattle.il_model.specs.declared.op.Op.TheVariants as op
use Rattle.il_model.specs.declared.program.Program.{Program}
use Rattle.il_model.specs.Kinds.{is_reference}
use Rattle.il_model.specs.ClassRules.{HasTypes}
use Rattle.cil_flow.specs.declared.state.StackType.{StackType}
use Rattle.cil_flow.specs.declared.state.StackType.TheVariants as stack
use Rattle.cil_verify.specs.declared.fault.VerifyCause.TheVariants as cause
use Rattle.cil_verify.specs.Places.{View, stack_of}
use Rattle.cil_verify.specs.Fits.{fits, is_struct, is_object_of}
use Rattle.cil_verify.specs.Members.{names_well, meets_all_bounds}
use Rattle.cil_verify.specs.Admits.{left_by, is_called_on}
use Rattle.cil_verify.specs.Joins.{joined}
use Rattle.cil_verify.specs.States.{cause_of_instr}
use Rattle.cil_verify.specs.WellTyped.{IsWellTyped}

-- ---- numbers

pub add_of_int32 : (v : View) → left_by v op.Add (stack.Int32 ∷ stack.Int32 ∷ []) ≡ Some (stack.Int32 ∷ [])
add_of_int32 v = refl

pub add_of_both : (v : View) → left_by v op.Add (stack.Int32 ∷ stack.Int64 ∷ []) ≡ None
add_of_both v = refl

pub add_of_native : (v : View) → left_by v op.Add (stack.Native ∷ stack.Native ∷ []) ≡ None
add_of_native v = refl

-- the count of a shift is an int32, and stands above what is shifted
pub shift_of_int64 : (v : View) → left_by v op.Shl (stack.Int64 ∷ stack.Int32 ∷ []) ≡ Some (stack.Int64 ∷ [])
shift_of_int64 v = refl

pub shift_by_int64 : (v : View) → left_by v op.Shl (stack.Int32 ∷ stack.Int64 ∷ []) ≡ None
shift_by_int64 v = refl

-- a native int is converted, and nothing is added to it
pub conversion_of_native : (v : View) → left_by v op.ConvI4 (stack.Native ∷ []) ≡ Some (stack.Int32 ∷ [])
conversion_of_native v = refl

-- ---- comparisons

-- of references the second operand of `cgt.un` is null
pub greater_than_null : (v : View) (t : TExpr) → left_by v op.CgtUn (stack.Boxed t ∷ stack.Null ∷ []) ≡ Some (stack.Int32 ∷ [])
greater_than_null v t = refl

pub null_greater : (v : View) (t : TExpr) → left_by v op.CgtUn (stack.Null ∷ stack.Boxed t ∷ []) ≡ None
null_greater v t = refl

pub no_order : (v : View) → left_by v op.Clt (stack.Null ∷ stack.Null ∷ []) ≡ None
no_order v = refl

pub pointers_are_not_compared : (v : View) (t : TExpr) → left_by v op.Ceq (stack.Pointer t ∷ stack.Pointer t ∷ []) ≡ None
pointers_are_not_compared v t = refl

-- ---- what is below stays, and `leave` empties

pub below_stays : (v : View) (t : TExpr) → left_by v op.Dup (stack.Pointer t ∷ stack.Int32 ∷ []) ≡ Some (stack.Pointer t ∷ stack.Int32 ∷ stack.Int32 ∷ [])
below_stays v t = refl

pub leave_empties : (v : View) (a b : StackType) → left_by v (op.Leave 0) (a ∷ b ∷ []) ≡ Some []
leave_empties v a b = refl

pub length_of_null : (v : View) → left_by v op.Ldlen (stack.Null ∷ []) ≡ Some (stack.Native ∷ [])
length_of_null v = refl

-- ---- joins

pub numbers_differ : (v : View) → joined v stack.Int32 stack.Int64 ≡ None
numbers_differ v = refl

pub null_and_box : (v : View) (t : TExpr) → joined v stack.Null (stack.Boxed t) ≡ Some (stack.Boxed t)
null_and_box v t = refl

pub box_and_null : (v : View) (t : TExpr) → joined v (stack.Boxed t) stack.Null ≡ Some (stack.Boxed t)
box_and_null v t = refl

pub null_and_pointer : (v : View) (t : TExpr) → joined v stack.Null (stack.Pointer t) ≡ None
null_and_pointer v t = refl

-- ---- types

-- `bool` counts as `int32`
pub bool_stands : stack_of (node head.Bool []) ≡ stack.Int32
bool_stands = simp (top_of-tree_of) refl

pub int64_stands : stack_of (node head.Int64 []) ≡ stack.Int64
int64_stands = simp (top_of-tree_of) refl

neither : (b : Bool) → (if b then false else false) ≡ false
neither true = refl
neither false = refl

-- a pointer fits no type, and so nothing where a struct's value is wanted
pub pointer_fits_none : (v : View) (t u : TExpr) → fits v t (stack.Pointer u) ≡ false
pointer_fits_none v t u = neither (is_reference v.program t)

-- null fits just the reference types
pub null_fits : (v : View) (t : TExpr) → fits v t stack.Null ≡ is_reference v.program t
null_fits v t = same (is_reference v.program t)
  where
    same : (b : Bool) → (if b then true else false) ≡ b
    same true = refl
    same false = refl

-- a struct's method is called on a pointer, and never on a value or a box
pub value_is_no_object : (v : View) (c u : TExpr) → is_struct v c ≡ true → is_object_of v c (stack.Kind u) ≡ false
value_is_no_object v c u struct = ap (λ b. cond b false (fits v c (stack.Kind u))) struct

pub no_object_of_a_struct : (v : View) (m : MRef) (a : StackType) → is_struct v m.class ≡ true → is_called_on v m a ≡ false
no_object_of_a_struct v m a struct = ap (λ b. cond b false (fits v m.class a)) struct

-- ---- the order of causes

pub member_first : (v : View) (states : List (List StackType)) (at : ℕ) (i : Op) → names_well v i ≡ false → cause_of_instr v states at i ≡ Some cause.BadMember
member_first v states at i bad = rw bad refl

pub then_bounds : (v : View) (states : List (List StackType)) (at : ℕ) (i : Op) → names_well v i ≡ true → meets_all_bounds v i ≡ false → cause_of_instr v states at i ≡ Some cause.BadConstraint
then_bounds v states at i good bad = rw (good, bad) refl

-- ---- a well-typed program is one that calls on types may be asked of

pub has_types : (program : Program) → IsWellTyped program → HasTypes program
has_types program typed = record {
  hierarchy = record { each = λ number c here. (typed.first.each number c here).0 };
  layout = record { each = λ number c here. (typed.first.each number c here).1.0 };
}

-- Which group of forms an instruction belongs to, and what it says there. After ECMA-335, Partition III.
use Rattle.std.specs.Prelude.{ℕ, Bool, true, false, List, [], ◌∷◌}
use Rattle.type_tree.specs.declared.tree.TExpr.{TExpr}
use Rattle.il_model.specs.declared.member.MRef.{MRef}
use Rattle.il_model.specs.declared.member.FRef.{FRef}
use Rattle.il_model.specs.declared.op.Op.{Op}
use Rattle.il_model.specs.declared.op.Op.TheVariants as op
use Rattle.store_object.specs.declared.request.Form.{Form}
use Rattle.store_object.specs.declared.request.Form.TheVariants as printed
use Rattle.cil_meaning.specs.Words.{int32_word, int64_word}
use Rattle.cil_meaning.specs.Naming.{literal_word}
use Rattle.cil_meaning.specs.Values.{Kind, Int32, Int64, Reference, Value, Plain}

-- values on the stack alone
pub data StackForm : Type 0 where
  Rests : StackForm
  Copies : StackForm
  Drops : StackForm
  Pushes : Value → StackForm

-- an argument or a local, by its number
pub data Slot : Type 0 where
  Argument : ℕ → Slot
  Local : ℕ → Slot

pub data PlaceForm : Type 0 where
  Reads : Slot → PlaceForm
  Points : Slot → PlaceForm
  Writes : Slot → PlaceForm

-- arithmetic that wraps
pub data Wrapping : Type 0 where
  Sum : Wrapping
  Difference : Wrapping
  Product : Wrapping
  Conjunction : Wrapping
  Disjunction : Wrapping
  Exclusive : Wrapping

-- arithmetic whose result has to fit, as signed numbers or not
pub data Checked : Type 0 where
  CheckedSum : (is_signed : Bool) → Checked
  CheckedDifference : (is_signed : Bool) → Checked
  CheckedProduct : (is_signed : Bool) → Checked

pub data Division : Type 0 where
  Quotient : (is_signed : Bool) → Division
  Remainder : (is_signed : Bool) → Division

pub data Shift : Type 0 where
  Leftwards : Shift
  Rightwards : (is_signed : Bool) → Shift

pub data Unary : Type 0 where
  Negative : Unary
  Complement : Unary

pub data Conversion : Type 0 where
  ToInt32 : Conversion
  ToInt64 : Conversion
  ToUnsigned64 : Conversion
  ToInt32Checked : Conversion

pub data Comparison : Type 0 where
  Equal : Comparison
  Unequal : Comparison
  Less : (is_signed : Bool) → Comparison
  LessOrEqual : (is_signed : Bool) → Comparison
  Greater : (is_signed : Bool) → Comparison
  GreaterOrEqual : (is_signed : Bool) → Comparison

pub data NumberForm : Type 0 where
  Wraps : Wrapping → NumberForm
  Checks : Checked → NumberForm
  Divides : Division → NumberForm
  Shifts : Shift → NumberForm
  Turns : Unary → NumberForm
  Converts : Conversion → NumberForm
  Compares : Comparison → NumberForm

pub data BranchForm : Type 0 where
  Jumps : ℕ → BranchForm
  JumpsWhere : (is_true : Bool) → ℕ → BranchForm
  JumpsBy : Comparison → ℕ → BranchForm
  Chooses : List ℕ → BranchForm
  Leaves : ℕ → BranchForm

pub data CallForm : Type 0 where
  Calls : MRef → CallForm
  CallsSlot : MRef → CallForm
  CallsConstrained : TExpr → MRef → CallForm
  Creates : MRef → CallForm
  Returns : CallForm

pub data MemberForm : Type 0 where
  ReadsField : FRef → MemberForm
  WritesField : FRef → MemberForm
  PointsField : FRef → MemberForm
  ReadsStatic : FRef → MemberForm
  WritesStatic : FRef → MemberForm
  PointsStatic : FRef → MemberForm
  ReadsAt : TExpr → MemberForm
  WritesAt : TExpr → MemberForm
  ClearsAt : TExpr → MemberForm

pub data ArrayForm : Type 0 where
  Allocates : TExpr → ArrayForm
  Measures : ArrayForm
  ReadsElement : TExpr → ArrayForm
  WritesElement : TExpr → ArrayForm

pub data BoxForm : Type 0 where
  Boxes : TExpr → BoxForm
  Unboxes : TExpr → BoxForm
  Casts : TExpr → BoxForm
  Tests : TExpr → BoxForm

-- one word read and written at once: what it does, and the type of the word
pub data Swapping : Type 0 where
  Exchanging : Swapping
  Comparing : Swapping
  Adding : Swapping

pub data LibraryForm : Type 0 where
  Prints : Form → Kind → LibraryForm
  Swaps : Swapping → Kind → LibraryForm
  Names : LibraryForm
  Starts : LibraryForm
  Joins : LibraryForm

pub data Group : Type 0 where
  OnStack : StackForm → Group
  OnPlaces : PlaceForm → Group
  OnNumbers : NumberForm → Group
  OnBranches : BranchForm → Group
  OnCalls : CallForm → Group
  OnMembers : MemberForm → Group
  OnArrays : ArrayForm → Group
  OnBoxes : BoxForm → Group
  OnThrow : Group
  OnLibrary : LibraryForm → Group
  Excluded : Group

-- One equation a form, in the order of the table of instructions. The last four are in no verified program.
abbrev pub group_of : Op → Group
group_of op.Nop = OnStack Rests
group_of op.Dup = OnStack Copies
group_of op.Pop = OnStack Drops
group_of (op.LdcI4 n) = OnStack (Pushes (Plain Int32 (int32_word n ∷ [])))
group_of (op.LdcI8 n) = OnStack (Pushes (Plain Int64 (int64_word n ∷ [])))
group_of op.Ldnull = OnStack (Pushes (Plain Reference (0 ∷ [])))
group_of (op.Ldstr n) = OnStack (Pushes (Plain Reference (literal_word n ∷ [])))
group_of (op.Ldarg n) = OnPlaces (Reads (Argument n))
group_of (op.Ldloc n) = OnPlaces (Reads (Local n))
group_of (op.Ldarga n) = OnPlaces (Points (Argument n))
group_of (op.Ldloca n) = OnPlaces (Points (Local n))
group_of (op.Starg n) = OnPlaces (Writes (Argument n))
group_of (op.Stloc n) = OnPlaces (Writes (Local n))
group_of op.Add = OnNumbers (Wraps Sum)
group_of op.Sub = OnNumbers (Wraps Difference)
group_of op.Mul = OnNumbers (Wraps Product)
group_of op.And = OnNumbers (Wraps Conjunction)
group_of op.Or = OnNumbers (Wraps Disjunction)
group_of op.Xor = OnNumbers (Wraps Exclusive)
group_of op.AddOvf = OnNumbers (Checks (CheckedSum true))
group_of op.SubOvf = OnNumbers (Checks (CheckedDifference true))
group_of op.MulOvf = OnNumbers (Checks (CheckedProduct true))
group_of op.AddOvfUn = OnNumbers (Checks (CheckedSum false))
group_of op.SubOvfUn = OnNumbers (Checks (CheckedDifference false))
group_of op.MulOvfUn = OnNumbers (Checks (CheckedProduct false))
group_of op.Div = OnNumbers (Divides (Quotient true))
group_of op.Rem = OnNumbers (Divides (Remainder true))
group_of op.DivUn = OnNumbers (Divides (Quotient false))
group_of op.RemUn = OnNumbers (Divides (Remainder false))
group_of op.Shl = OnNumbers (Shifts Leftwards)
group_of op.Shr = OnNumbers (Shifts (Rightwards true))
group_of op.ShrUn = OnNumbers (Shifts (Rightwards false))
group_of op.Neg = OnNumbers (Turns Negative)
group_of op.Not = OnNumbers (Turns Complement)
group_of op.ConvI4 = OnNumbers (Converts ToInt32)
group_of op.ConvI8 = OnNumbers (Converts ToInt64)
group_of op.ConvU8 = OnNumbers (Converts ToUnsigned64)
group_of op.ConvOvfI4 = OnNumbers (Converts ToInt32Checked)
group_of op.Ceq = OnNumbers (Compares Equal)
group_of op.Cgt = OnNumbers (Compares (Greater true))
group_of op.CgtUn = OnNumbers (Compares (Greater false))
group_of op.Clt = OnNumbers (Compares (Less true))
group_of op.CltUn = OnNumbers (Compares (Less false))
group_of (op.Br to) = OnBranches (Jumps to)
group_of (op.Brtrue to) = OnBranches (JumpsWhere true to)
group_of (op.Brfalse to) = OnBranches (JumpsWhere false to)
group_of (op.Beq to) = OnBranches (JumpsBy Equal to)
group_of (op.BneUn to) = OnBranches (JumpsBy Unequal to)
group_of (op.Bge to) = OnBranches (JumpsBy (GreaterOrEqual true) to)
group_of (op.Bgt to) = OnBranches (JumpsBy (Greater true) to)
group_of (op.Ble to) = OnBranches (JumpsBy (LessOrEqual true) to)
group_of (op.Blt to) = OnBranches (JumpsBy (Less true) to)
group_of (op.BgeUn to) = OnBranches (JumpsBy (GreaterOrEqual false) to)
group_of (op.BgtUn to) = OnBranches (JumpsBy (Greater false) to)
group_of (op.BleUn to) = OnBranches (JumpsBy (LessOrEqual false) to)
group_of (op.BltUn to) = OnBranches (JumpsBy (Less false) to)
group_of (op.Switch to) = OnBranches (Chooses to)
group_of (op.Leave to) = OnBranches (Leaves to)
group_of (op.Call m) = OnCalls (Calls m)
group_of (op.Callvirt m) = OnCalls (CallsSlot m)
group_of (op.Constrained t m) = OnCalls (CallsConstrained t m)
group_of (op.Newobj m) = OnCalls (Creates m)
group_of op.Ret = OnCalls Returns
group_of (op.Ldfld f) = OnMembers (ReadsField f)
group_of (op.Stfld f) = OnMembers (WritesField f)
group_of (op.Ldflda f) = OnMembers (PointsField f)
group_of (op.Ldsfld f) = OnMembers (ReadsStatic f)
group_of (op.Stsfld f) = OnMembers (WritesStatic f)
group_of (op.Ldsflda f) = OnMembers (PointsStatic f)
group_of (op.Ldobj t) = OnMembers (ReadsAt t)
group_of (op.Stobj t) = OnMembers (WritesAt t)
group_of (op.Initobj t) = OnMembers (ClearsAt t)
group_of (op.Newarr t) = OnArrays (Allocates t)
group_of op.Ldlen = OnArrays Measures
group_of (op.Ldelem t) = OnArrays (ReadsElement t)
group_of (op.Stelem t) = OnArrays (WritesElement t)
group_of (op.Box t) = OnBoxes (Boxes t)
group_of (op.UnboxAny t) = OnBoxes (Unboxes t)
group_of (op.Castclass t) = OnBoxes (Casts t)
group_of (op.Isinst t) = OnBoxes (Tests t)
group_of op.Throw = OnThrow
group_of op.WriteLineInt32 = OnLibrary (Prints printed.Number Int32)
group_of op.WriteLineInt64 = OnLibrary (Prints printed.Number Int64)
group_of op.WriteLineString = OnLibrary (Prints printed.String Reference)
group_of op.CompareExchangeInt32 = OnLibrary (Swaps Comparing Int32)
group_of op.CompareExchangeInt64 = OnLibrary (Swaps Comparing Int64)
group_of op.CompareExchangeObject = OnLibrary (Swaps Comparing Reference)
group_of op.ExchangeInt32 = OnLibrary (Swaps Exchanging Int32)
group_of op.ExchangeInt64 = OnLibrary (Swaps Exchanging Int64)
group_of op.ExchangeObject = OnLibrary (Swaps Exchanging Reference)
group_of op.AddInt32 = OnLibrary (Swaps Adding Int32)
group_of op.AddInt64 = OnLibrary (Swaps Adding Int64)
group_of (op.NameOf t) = OnLibrary Names
group_of op.Start = OnLibrary Starts
group_of op.Join = OnLibrary Joins
group_of op.Endfinally = Excluded
group_of op.Rethrow = Excluded
group_of (op.Ldftn m) = Excluded
group_of (op.Ldvirtftn m) = Excluded

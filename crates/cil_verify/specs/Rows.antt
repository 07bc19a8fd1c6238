-- The rows of the instruction table, as the pass reads them: which forms take and leave values alike. After ECMA-335, Partition III.
use Rattle.std.specs.Prelude.{ℕ, []}
use Rattle.type_tree.specs.declared.tree.TExpr.{TExpr}
use Rattle.type_tree.specs.declared.tree.Head.{Head}
use Rattle.type_tree.specs.declared.tree.Head.TheVariants as head
use Rattle.type_tree.specs.Tree.{node}
use Rattle.il_model.specs.declared.member.MRef.{MRef}
use Rattle.il_model.specs.declared.member.FRef.{FRef}
use Rattle.il_model.specs.declared.op.Op.{Op}
use Rattle.il_model.specs.declared.op.Op.TheVariants as op
use Rattle.il_model.specs.Library.{plain}
use Rattle.cil_flow.specs.declared.state.StackType.{StackType}
use Rattle.cil_flow.specs.declared.state.StackType.TheVariants as stack

-- the arguments or the locals
pub data Bank : Type 0 where
  arguments : Bank
  locals : Bank

-- what may be compared: two numbers of one type; two references as well; or a reference with null
pub data Comparison : Type 0 where
  numbers_alone : Comparison
  also_references : Comparison
  also_with_null : Comparison

-- one row of the table, or several that are alike
pub data Row : Type 0 where
  leaves_all : Row
  copies : Row
  drops : Row
  pushes : StackType → Row
  loads : Bank → ℕ → Row
  addresses : Bank → ℕ → Row
  stores : Bank → ℕ → Row
  combines : Row
  shifts : Row
  changes : Row
  converts : StackType → Row
  compares : Comparison → Row
  tests : Row
  branches : Comparison → Row
  chooses : Row
  empties : Row
  calls : MRef → Row
  calls_on : MRef → Row
  calls_through : TExpr → MRef → Row
  makes : MRef → Row
  returns : Row
  loads_field : FRef → Row
  stores_field : FRef → Row
  addresses_field : FRef → Row
  loads_static : FRef → Row
  stores_static : FRef → Row
  addresses_static : FRef → Row
  loads_through : TExpr → Row
  stores_through : TExpr → Row
  clears : TExpr → Row
  makes_vector : TExpr → Row
  takes_length : Row
  loads_element : TExpr → Row
  stores_element : TExpr → Row
  boxes : TExpr → Row
  unboxes : TExpr → Row
  casts : TExpr → Row
  throws : Row
  prints : TExpr → Row
  exchanges : TExpr → ℕ → Row
  starts : Row
  joins : Row
  admits_none : Row

-- a type of this head without arguments
abbrev pub plain_head : Head → TExpr
plain_head h = node h []

-- the row of a form. An exchange has the type of its word, and how many words it takes besides the pointer
abbrev pub row_of : Op → Row
row_of op.Nop = leaves_all
row_of op.Dup = copies
row_of op.Pop = drops
row_of (op.LdcI4 n) = pushes stack.Int32
row_of (op.LdcI8 n) = pushes stack.Int64
row_of op.Ldnull = pushes stack.Null
row_of (op.Ldstr n) = pushes (stack.Kind (plain 1))
row_of (op.Ldarg n) = loads arguments n
row_of (op.Ldloc n) = loads locals n
row_of (op.Ldarga n) = addresses arguments n
row_of (op.Ldloca n) = addresses locals n
row_of (op.Starg n) = stores arguments n
row_of (op.Stloc n) = stores locals n
row_of op.Add = combines
row_of op.Sub = combines
row_of op.Mul = combines
row_of op.And = combines
row_of op.Or = combines
row_of op.Xor = combines
row_of op.AddOvf = combines
row_of op.SubOvf = combines
row_of op.MulOvf = combines
row_of op.AddOvfUn = combines
row_of op.SubOvfUn = combines
row_of op.MulOvfUn = combines
row_of op.Div = combines
row_of op.Rem = combines
row_of op.DivUn = combines
row_of op.RemUn = combines
row_of op.Shl = shifts
row_of op.Shr = shifts
row_of op.ShrUn = shifts
row_of op.Neg = changes
row_of op.Not = changes
row_of op.ConvI4 = converts stack.Int32
row_of op.ConvI8 = converts stack.Int64
row_of op.ConvU8 = converts stack.Int64
row_of op.ConvOvfI4 = converts stack.Int32
row_of op.Ceq = compares also_references
row_of op.Cgt = compares numbers_alone
row_of op.CgtUn = compares also_with_null
row_of op.Clt = compares numbers_alone
row_of op.CltUn = compares numbers_alone
row_of (op.Br to) = leaves_all
row_of (op.Brtrue to) = tests
row_of (op.Brfalse to) = tests
row_of (op.Beq to) = branches also_references
row_of (op.BneUn to) = branches also_references
row_of (op.Bge to) = branches numbers_alone
row_of (op.Bgt to) = branches numbers_alone
row_of (op.Ble to) = branches numbers_alone
row_of (op.Blt to) = branches numbers_alone
row_of (op.BgeUn to) = branches numbers_alone
row_of (op.BgtUn to) = branches numbers_alone
row_of (op.BleUn to) = branches numbers_alone
row_of (op.BltUn to) = branches numbers_alone
row_of (op.Switch to) = chooses
row_of (op.Leave to) = empties
row_of (op.Call m) = calls m
row_of (op.Callvirt m) = calls_on m
row_of (op.Constrained t m) = calls_through t m
row_of (op.Newobj m) = makes m
row_of op.Ret = returns
row_of (op.Ldfld f) = loads_field f
row_of (op.Stfld f) = stores_field f
row_of (op.Ldflda f) = addresses_field f
row_of (op.Ldsfld f) = loads_static f
row_of (op.Stsfld f) = stores_static f
row_of (op.Ldsflda f) = addresses_static f
row_of (op.Ldobj t) = loads_through t
row_of (op.Stobj t) = stores_through t
row_of (op.Initobj t) = clears t
row_of (op.Newarr t) = makes_vector t
row_of op.Ldlen = takes_length
row_of (op.Ldelem t) = loads_element t
row_of (op.Stelem t) = stores_element t
row_of (op.Box t) = boxes t
row_of (op.UnboxAny t) = unboxes t
row_of (op.Castclass t) = casts t
row_of (op.Isinst t) = casts t
row_of op.Throw = throws
row_of op.WriteLineInt32 = prints (plain_head head.Int32)
row_of op.WriteLineInt64 = prints (plain_head head.Int64)
row_of op.WriteLineString = prints (plain 1)
row_of op.CompareExchangeInt32 = exchanges (plain_head head.Int32) 2
row_of op.CompareExchangeInt64 = exchanges (plain_head head.Int64) 2
row_of op.CompareExchangeObject = exchanges (plain 0) 2
row_of op.ExchangeInt32 = exchanges (plain_head head.Int32) 1
row_of op.ExchangeInt64 = exchanges (plain_head head.Int64) 1
row_of op.ExchangeObject = exchanges (plain 0) 1
row_of op.AddInt32 = exchanges (plain_head head.Int32) 1
row_of op.AddInt64 = exchanges (plain_head head.Int64) 1
row_of (op.NameOf t) = pushes (stack.Kind (plain 1))
row_of op.Start = starts
row_of op.Join = joins
row_of op.Endfinally = admits_none
row_of op.Rethrow = admits_none
row_of (op.Ldftn m) = admits_none
row_of (op.Ldvirtftn m) = admits_none

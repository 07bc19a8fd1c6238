-- The rows of the table of instructions as the code has them. Only private contracts cite it.
use Rattle.std.specs.Prelude.{ℕ}
use Rattle.type_tree.specs.declared.tree.TExpr.{TExpr}
use Rattle.type_tree.specs.declared.tree.Head.TheVariants as head
use Rattle.il_model.specs.declared.member.MRef.{MRef}
use Rattle.il_model.specs.declared.member.FRef.{FRef}
use Rattle.il_model.specs.Library.{plain}
use Rattle.cil_flow.specs.declared.state.StackType.{StackType}
use Rattle.cil_flow.specs.declared.state.StackType.TheVariants as stack
use Rattle.cil_verify.specs.declared.step.Plain.{Plain}
use Rattle.cil_verify.specs.declared.step.Plain.TheVariants as simple
use Rattle.cil_verify.specs.declared.step.Constant.{Constant}
use Rattle.cil_verify.specs.declared.step.Constant.TheVariants as constant
use Rattle.cil_verify.specs.declared.step.Arithmetic.{Arithmetic}
use Rattle.cil_verify.specs.declared.step.Arithmetic.TheVariants as arithmetic
use Rattle.cil_verify.specs.declared.step.Compared.{Compared}
use Rattle.cil_verify.specs.declared.step.Compared.TheVariants as compared
use Rattle.cil_verify.specs.declared.step.Access.{Access}
use Rattle.cil_verify.specs.declared.step.Access.TheVariants as access
use Rattle.cil_verify.specs.declared.step.Calling.{Calling}
use Rattle.cil_verify.specs.declared.step.Calling.TheVariants as calling
use Rattle.cil_verify.specs.declared.step.FieldAccess.{FieldAccess}
use Rattle.cil_verify.specs.declared.step.FieldAccess.TheVariants as on_field
use Rattle.cil_verify.specs.declared.step.TypeAccess.{TypeAccess}
use Rattle.cil_verify.specs.declared.step.TypeAccess.TheVariants as on_type
use Rattle.cil_verify.specs.declared.step.Printed.{Printed}
use Rattle.cil_verify.specs.declared.step.Printed.TheVariants as printed
use Rattle.cil_verify.specs.declared.step.Word.{Word}
use Rattle.cil_verify.specs.declared.step.Word.TheVariants as word
use Rattle.cil_verify.specs.declared.step.Step.{Step}
use Rattle.cil_verify.specs.declared.step.Step.TheVariants as step
use Rattle.cil_verify.specs.Rows.{Bank, arguments, locals, Comparison, numbers_alone, also_references, also_with_null, Row, leaves_all, copies, drops, pushes, loads, addresses, stores, combines, shifts, changes, converts, compares, tests, branches, chooses, empties, calls, calls_on, calls_through, makes, returns, loads_field, stores_field, addresses_field, loads_static, stores_static, addresses_static, loads_through, stores_through, clears, makes_vector, takes_length, loads_element, stores_element, boxes, unboxes, casts, throws, prints, exchanges, starts, joins, admits_none, plain_head}

abbrev pub row_of_plain : Plain → Row
row_of_plain simple.Keep = leaves_all
row_of_plain simple.Copy = copies
row_of_plain simple.Discard = drops
row_of_plain simple.Empty = empties
row_of_plain simple.Refuse = admits_none
row_of_plain simple.Test = tests
row_of_plain simple.Choose = chooses
row_of_plain simple.Return = returns
row_of_plain simple.Throw = throws
row_of_plain simple.Length = takes_length
row_of_plain simple.Start = starts
row_of_plain simple.Join = joins

abbrev pub value_of : Constant → StackType
value_of constant.Int32 = stack.Int32
value_of constant.Int64 = stack.Int64
value_of constant.Null = stack.Null
value_of constant.Text = stack.Kind (plain 1)

abbrev pub row_of_arithmetic : Arithmetic → Row
row_of_arithmetic arithmetic.Combine = combines
row_of_arithmetic arithmetic.Shift = shifts
row_of_arithmetic arithmetic.Change = changes
row_of_arithmetic arithmetic.ToInt32 = converts stack.Int32
row_of_arithmetic arithmetic.ToInt64 = converts stack.Int64

abbrev pub comparison_of : Compared → Comparison
comparison_of compared.Ordered = numbers_alone
comparison_of compared.Equal = also_references
comparison_of compared.Exceeding = also_with_null

abbrev pub row_of_access : Access → Bank → ℕ → Row
row_of_access access.Load bank n = loads bank n
row_of_access access.Address bank n = addresses bank n
row_of_access access.Store bank n = stores bank n

abbrev pub row_of_call : Calling → MRef → Row
row_of_call calling.Direct m = calls m
row_of_call calling.Virtual m = calls_on m
row_of_call calling.Make m = makes m

abbrev pub row_of_field : FieldAccess → FRef → Row
row_of_field on_field.Load f = loads_field f
row_of_field on_field.Store f = stores_field f
row_of_field on_field.Address f = addresses_field f
row_of_field on_field.LoadStatic f = loads_static f
row_of_field on_field.StoreStatic f = stores_static f
row_of_field on_field.AddressStatic f = addresses_static f

abbrev pub row_of_type : TypeAccess → TExpr → Row
row_of_type on_type.LoadThrough t = loads_through t
row_of_type on_type.StoreThrough t = stores_through t
row_of_type on_type.Clear t = clears t
row_of_type on_type.MakeVector t = makes_vector t
row_of_type on_type.LoadElement t = loads_element t
row_of_type on_type.StoreElement t = stores_element t
row_of_type on_type.Box t = boxes t
row_of_type on_type.Unbox t = unboxes t
row_of_type on_type.Cast t = casts t

abbrev pub type_printed : Printed → TExpr
type_printed printed.Int32 = plain_head head.Int32
type_printed printed.Int64 = plain_head head.Int64
type_printed printed.Text = plain 1

abbrev pub type_of_word : Word → TExpr
type_of_word word.Int32 = plain_head head.Int32
type_of_word word.Int64 = plain_head head.Int64
type_of_word word.Object = plain 0

abbrev pub row_of_step : Step → Row
row_of_step (step.Plain p) = row_of_plain p
row_of_step (step.Constant c) = pushes (value_of c)
row_of_step (step.Arithmetic a) = row_of_arithmetic a
row_of_step (step.Comparison c) = compares (comparison_of c)
row_of_step (step.Branch c) = branches (comparison_of c)
row_of_step (step.Argument a n) = row_of_access a arguments n
row_of_step (step.Local a n) = row_of_access a locals n
row_of_step (step.Call c m) = row_of_call c m.now
row_of_step (step.CallThrough t m) = calls_through t.now m.now
row_of_step (step.Field a f) = row_of_field a f.now
row_of_step (step.OfType a t) = row_of_type a t.now
row_of_step (step.Print p) = prints (type_printed p)
row_of_step (step.Exchange w) = exchanges (type_of_word w) 1
row_of_step (step.CompareExchange w) = exchanges (type_of_word w) 2

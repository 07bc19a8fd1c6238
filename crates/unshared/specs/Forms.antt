-- The forms and values of the code, as those of the meaning.
use Rattle.std.specs.Prelude.{◌≡◌, ℕ, ℤ, ◌+ℤ◌, ◌-ℤ◌, ◌*ℤ◌, Bool, [], ◌∷◌, ⊤}
use Rattle.unshared.specs.declared.value.Kind.{Kind as KindHere}
use Rattle.unshared.specs.declared.value.Kind.TheVariants as kind
use Rattle.unshared.specs.declared.value.Pointer.{Pointer as PointerHere}
use Rattle.unshared.specs.declared.value.Pointer.TheVariants as pointer
use Rattle.unshared.specs.declared.value.Value.{Value as ValueHere}
use Rattle.unshared.specs.declared.value.Value.TheVariants as value
use Rattle.unshared.specs.declared.numbers.Width.{Width as WidthHere}
use Rattle.unshared.specs.declared.numbers.Width.TheVariants as width
use Rattle.unshared.specs.declared.numbers.Wrapping.{Wrapping as WrappingHere}
use Rattle.unshared.specs.declared.numbers.Wrapping.TheVariants as wrapping
use Rattle.unshared.specs.declared.numbers.Checked.{Checked as CheckedHere}
use Rattle.unshared.specs.declared.numbers.Checked.TheVariants as checked
use Rattle.unshared.specs.declared.numbers.Division.{Division as DivisionHere}
use Rattle.unshared.specs.declared.numbers.Division.TheVariants as division
use Rattle.unshared.specs.declared.numbers.Shift.{Shift as ShiftHere}
use Rattle.unshared.specs.declared.numbers.Shift.TheVariants as shift
use Rattle.unshared.specs.declared.numbers.Unary.{Unary as UnaryHere}
use Rattle.unshared.specs.declared.numbers.Unary.TheVariants as unary
use Rattle.unshared.specs.declared.numbers.Conversion.{Conversion as ConversionHere}
use Rattle.unshared.specs.declared.numbers.Conversion.TheVariants as conversion
use Rattle.unshared.specs.declared.numbers.Comparison.{Comparison as ComparisonHere}
use Rattle.unshared.specs.declared.numbers.Comparison.TheVariants as comparison
use Rattle.cil_meaning.specs.Values.{Kind, Int32, Int64, Native, Reference, Struct, Pointer, Null, InFrame, InFresh, InObject, InStatic, Value, Plain, Managed}
use Rattle.cil_meaning.specs.Words.{narrow}
use Rattle.cil_meaning.specs.Arithmetic.{Width, Narrow, Wide}
use Rattle.cil_meaning.specs.Groups.{Wrapping, Sum, Difference, Product, Conjunction, Disjunction, Exclusive, Checked, CheckedSum, CheckedDifference, CheckedProduct, Division, Quotient, Remainder, Shift, Leftwards, Rightwards, Unary, Negative, Complement, Conversion, ToInt32, ToInt64, ToUnsigned64, ToInt32Checked, Comparison, Equal, Unequal, Less, LessOrEqual, Greater, GreaterOrEqual}

-- Values ------------------------------------------------------------------

abbrev pub the_kind : KindHere → Kind
the_kind kind.Int32 = Int32
the_kind kind.Int64 = Int64
the_kind kind.Native = Native
the_kind kind.Reference = Reference
the_kind kind.Struct = Struct

abbrev pub the_pointer : PointerHere → Pointer
the_pointer pointer.Null = Null
the_pointer (pointer.InFrame level place word) = InFrame level place word
the_pointer (pointer.InFresh level word) = InFresh level word
the_pointer (pointer.InObject object index) = InObject object index
the_pointer (pointer.InStatic number index) = InStatic number index

abbrev pub the_value : ValueHere → Value
the_value (value.Word k w) = Plain (the_kind k) (w ∷ [])
the_value (value.Words k ws) = Plain (the_kind k) ws.items
the_value (value.Managed q) = Managed (the_pointer q)

-- Forms on numbers --------------------------------------------------------

abbrev pub the_width : WidthHere → Width
the_width width.Narrow = Narrow
the_width width.Wide = Wide

-- an int32 stands sign-extended
abbrev pub IsExtended : WidthHere → ℕ → Type 0
IsExtended width.Narrow w = narrow w ≡ w
IsExtended width.Wide w = ⊤

-- the exact result of checked arithmetic
abbrev pub exact_int : CheckedHere → ℤ → ℤ → ℤ
exact_int checked.Sum a b = a +ℤ b
exact_int checked.Difference a b = a -ℤ b
exact_int checked.Product a b = a *ℤ b

abbrev pub the_wrapping : WrappingHere → Wrapping
the_wrapping wrapping.Sum = Sum
the_wrapping wrapping.Difference = Difference
the_wrapping wrapping.Product = Product
the_wrapping wrapping.Conjunction = Conjunction
the_wrapping wrapping.Disjunction = Disjunction
the_wrapping wrapping.Exclusive = Exclusive

abbrev pub the_checked : CheckedHere → Bool → Checked
the_checked checked.Sum is_signed = CheckedSum is_signed
the_checked checked.Difference is_signed = CheckedDifference is_signed
the_checked checked.Product is_signed = CheckedProduct is_signed

abbrev pub the_division : DivisionHere → Bool → Division
the_division division.Quotient is_signed = Quotient is_signed
the_division division.Remainder is_signed = Remainder is_signed

abbrev pub the_shift : ShiftHere → Shift
the_shift shift.Leftwards = Leftwards
the_shift (shift.Rightwards is_signed) = Rightwards is_signed

abbrev pub the_unary : UnaryHere → Unary
the_unary unary.Negative = Negative
the_unary unary.Complement = Complement

abbrev pub the_conversion : ConversionHere → Conversion
the_conversion conversion.ToInt32 = ToInt32
the_conversion conversion.ToInt64 = ToInt64
the_conversion conversion.ToUnsigned64 = ToUnsigned64
the_conversion conversion.ToInt32Checked = ToInt32Checked

abbrev pub the_comparison : ComparisonHere → Comparison
the_comparison comparison.Equal = Equal
the_comparison comparison.Unequal = Unequal
the_comparison (comparison.Less is_signed) = Less is_signed
the_comparison (comparison.LessOrEqual is_signed) = LessOrEqual is_signed
the_comparison (comparison.Greater is_signed) = Greater is_signed
the_comparison (comparison.GreaterOrEqual is_signed) = GreaterOrEqual is_signed

-- The exceptions that instructions throw, by the numbers of their classes.
use Rattle.std.specs.Prelude.{ℕ}
use Rattle.cil_meaning.specs.Search.{divide_by_zero, overflow, null_reference, index_out_of_range, invalid_cast, array_type_mismatch}
use Rattle.unshared.specs.declared.fault.Fault.{Fault}
use Rattle.unshared.specs.declared.fault.Fault.TheVariants as fault

-- the number of the class of an exception
abbrev pub the_fault : Fault → ℕ
the_fault fault.DivideByZero = divide_by_zero
the_fault fault.Overflow = overflow
the_fault fault.NullReference = null_reference
the_fault fault.IndexOutOfRange = index_out_of_range
the_fault fault.InvalidCast = invalid_cast
the_fault fault.ArrayTypeMismatch = array_type_mismatch

-- Arithmetic, shifts, conversions and comparisons on words. ECMA-335, Partition III; shift counts modulo 32 or 64, and Overflow for the least number by -1 in `div` and `rem`, are this project's own.
use Rattle.std.specs.Prelude.{ℕ, ◌+◌, ◌-◌, ◌*◌, ◌/◌, ◌%◌, ◌^◌, ◌==◌, nat_lt, Bool, true, false, not, ◌&&◌, ◌||◌, if◌then◌else◌, List, [], ◌∷◌, ℤ, pos, neg_ℤ, ◌+ℤ◌, ◌-ℤ◌, ◌*ℤ◌, int_lt, int_le, int_div, int_rem, bit_and, bit_or, bit_xor}
use Rattle.std.specs.Int.{int_shr}
use Rattle.il_model.specs.declared.program.Program.{Program}
use Rattle.interaction.specs.Process.{Stuck}
use Rattle.cil_meaning.specs.Words.{low_32, narrow, signed, int32_word, int64_word}
use Rattle.cil_meaning.specs.Values.{Kind, Int32, Int64, Native, Reference, Struct, Value, Plain, same_kind, is_int32, is_int64, is_reference_word}
use Rattle.cil_meaning.specs.Replies.{Left}
use Rattle.cil_meaning.specs.Search.{divide_by_zero, overflow}
use Rattle.cil_meaning.specs.Site.{Site, goes, throws}
use Rattle.cil_meaning.specs.Pieces.{pops, as_word}
use Rattle.cil_meaning.specs.Groups.{Wrapping, Sum, Difference, Product, Conjunction, Disjunction, Exclusive, Checked, CheckedSum, CheckedDifference, CheckedProduct, Division, Quotient, Remainder, Shift, Leftwards, Rightwards, Unary, Negative, Complement, Conversion, ToInt32, ToInt64, ToUnsigned64, ToInt32Checked, Comparison, Equal, Unequal, Less, LessOrEqual, Greater, GreaterOrEqual, NumberForm, Wraps, Checks, Divides, Shifts, Turns, Converts, Compares}

-- The width of two operands: 32 bits or 64.
pub data Width : Type 0 where
  Narrow : Width
  Wide : Width

abbrev pub bits_of : Width → ℕ
bits_of Narrow = 32
bits_of Wide = 64

abbrev pub kind_at : Width → Kind
kind_at Narrow = Int32
kind_at Wide = Int64

-- the number that a word is at a width, without sign
abbrev pub unsigned_at : Width → ℕ → ℕ
unsigned_at Narrow w = low_32 w
unsigned_at Wide w = w

-- a number modulo 2 ^ 32 or 2 ^ 64, as a word
abbrev pub wrapped : Width → ℕ → ℕ
wrapped Narrow n = narrow n
wrapped Wide n = n % 2 ^ 64

abbrev pub wrapped_int : Width → ℤ → ℕ
wrapped_int Narrow z = int32_word z
wrapped_int Wide z = int64_word z

-- whether a number lies from the least to the greatest of the width, with sign or without
abbrev pub fits_signed : Width → ℤ → Bool
fits_signed width z = int_le (neg_ℤ (pos (2 ^ (bits_of width - 1)))) z && int_lt z (pos (2 ^ (bits_of width - 1)))

abbrev pub fits_unsigned : Width → ℤ → Bool
fits_unsigned width z = int_le (pos 0) z && int_lt z (pos (2 ^ bits_of width))

-- Results -----------------------------------------------------------------

abbrev pub wrapping_of : Wrapping → Width → ℕ → ℕ → ℕ
wrapping_of Sum width a b = wrapped width (a + b)
wrapping_of Difference width a b = wrapped width (a + (2 ^ 64 - b))
wrapping_of Product width a b = wrapped width (a * b)
wrapping_of Conjunction width a b = bit_and a b
wrapping_of Disjunction width a b = bit_or a b
wrapping_of Exclusive width a b = bit_xor a b

-- the numbers that two words are, with sign or without
abbrev pub number_of : (is_signed : Bool) → Width → ℕ → ℤ
number_of true width w = signed w
number_of false width w = pos (unsigned_at width w)

abbrev pub fits : (is_signed : Bool) → Width → ℤ → Bool
fits true width z = fits_signed width z
fits false width z = fits_unsigned width z

abbrev pub is_signed_of : Checked → Bool
is_signed_of (CheckedSum is_signed) = is_signed
is_signed_of (CheckedDifference is_signed) = is_signed
is_signed_of (CheckedProduct is_signed) = is_signed

-- the exact result
abbrev pub exact_of : Checked → Width → ℕ → ℕ → ℤ
exact_of (CheckedSum is_signed) width a b = number_of is_signed width a +ℤ number_of is_signed width b
exact_of (CheckedDifference is_signed) width a b = number_of is_signed width a -ℤ number_of is_signed width b
exact_of (CheckedProduct is_signed) width a b = number_of is_signed width a *ℤ number_of is_signed width b

-- the least number by -1
abbrev pub passes_least : Width → ℕ → ℕ → Bool
passes_least width a b = (a == 2 ^ 64 - 2 ^ (bits_of width - 1)) && (b == 2 ^ 64 - 1)

abbrev pub divides_past : Division → Width → ℕ → ℕ → Bool
divides_past (Quotient true) width a b = passes_least width a b
divides_past (Quotient false) width a b = false
divides_past (Remainder true) width a b = passes_least width a b
divides_past (Remainder false) width a b = false

-- division rounds toward zero, and the remainder has the sign of the dividend
abbrev pub divided : Division → Width → ℕ → ℕ → ℕ
divided (Quotient true) width a b = wrapped_int width (int_div (signed a) (signed b))
divided (Quotient false) width a b = wrapped width (unsigned_at width a / unsigned_at width b)
divided (Remainder true) width a b = wrapped_int width (int_rem (signed a) (signed b))
divided (Remainder false) width a b = wrapped width (unsigned_at width a % unsigned_at width b)

-- the count is taken modulo the width
abbrev pub shifted_by : Shift → Width → ℕ → ℕ → ℕ
shifted_by Leftwards width a count = wrapped width (a * 2 ^ (count % bits_of width))
shifted_by (Rightwards true) width a count = wrapped_int width (int_shr (signed a) (count % bits_of width))
shifted_by (Rightwards false) width a count = wrapped width (unsigned_at width a / 2 ^ (count % bits_of width))

abbrev pub turned : Unary → Width → ℕ → ℕ
turned Negative width a = wrapped width (2 ^ 64 - a)
turned Complement width a = 2 ^ 64 - 1 - a

-- Comparisons -------------------------------------------------------------

abbrev pub is_below : (is_signed : Bool) → ℕ → ℕ → Bool
is_below true a b = int_lt (signed a) (signed b)
is_below false a b = nat_lt a b

-- words that stand sign-extended compare alike at both widths
abbrev pub holds : Comparison → ℕ → ℕ → Bool
holds Equal a b = a == b
holds Unequal a b = not (a == b)
holds (Less is_signed) a b = is_below is_signed a b
holds (LessOrEqual is_signed) a b = not (is_below is_signed b a)
holds (Greater is_signed) a b = is_below is_signed b a
holds (GreaterOrEqual is_signed) a b = not (is_below is_signed a b)

-- the comparisons that two references admit: equal or not, and greater as unsigned, of which the second is null
abbrev pub admits_references : Comparison → Bool
admits_references Equal = true
admits_references Unequal = true
admits_references (Less is_signed) = false
admits_references (LessOrEqual is_signed) = false
admits_references (Greater is_signed) = not is_signed
admits_references (GreaterOrEqual is_signed) = false

abbrev pub bit_of : Bool → ℕ
bit_of true = 1
bit_of false = 0

-- Operands ----------------------------------------------------------------

-- the width of a number; an int32 stands sign-extended
abbrev pub at_width : Kind → ℕ → (Width → Left) → Left
at_width Int32 w k = if narrow w == w then k Narrow else Stuck
at_width Int64 w k = k Wide
at_width Native w k = Stuck
at_width Reference w k = Stuck
at_width Struct w k = Stuck

abbrev pub same_width : Width → Width → Left → Left
same_width Narrow Narrow left = left
same_width Narrow Wide left = Stuck
same_width Wide Narrow left = Stuck
same_width Wide Wide left = left

-- two words with their kinds, the second of them on top
abbrev pub two_words : List Value → (Kind → ℕ → Kind → ℕ → List Value → Left) → Left
two_words stack k = pops stack (λ v us. as_word v (λ kb b. pops us (λ u vs. as_word u (λ ka a. k ka a kb b vs))))

-- two numbers of one width
abbrev pub two_numbers : List Value → (Width → ℕ → ℕ → List Value → Left) → Left
two_numbers stack k = two_words stack (λ ka a kb b vs. at_width ka a (λ width. at_width kb b (λ other. same_width width other (k width a b vs))))

-- two values that a comparison admits: two numbers of one kind, or two references
abbrev pub are_compared : Comparison → Kind → Kind → Bool
are_compared c a b = same_kind a b && (is_int32 a || is_int64 a || (is_reference_word a && admits_references c))

-- what a comparison of the two values on top says
abbrev pub compares : Comparison → List Value → (Bool → List Value → Left) → Left
compares c stack k = two_words stack (λ ka a kb b vs. if are_compared c ka kb then k (holds c a b) vs else Stuck)

-- a conversion of a word of a kind: the kind and the word that it gives, and whether it has to fit 32 bits
abbrev pub to_int64 : Kind → ℕ → Left → (ℕ → Left) → Left
to_int64 Int32 w bad k = k w
to_int64 Int64 w bad k = k w
to_int64 Native w bad k = k w
to_int64 Reference w bad k = bad
to_int64 Struct w bad k = bad

-- the same without sign: an int32 is filled with zeros
abbrev pub to_unsigned64 : Kind → ℕ → ℕ
to_unsigned64 Int32 w = low_32 w
to_unsigned64 Int64 w = w
to_unsigned64 Native w = w
to_unsigned64 Reference w = w
to_unsigned64 Struct w = w

module _ (p : Program) (s : Site) where
  abbrev pub converts : Conversion → Kind → ℕ → List Value → Left
  converts ToInt32 kind w vs = to_int64 kind w Stuck (λ a. goes s (Plain Int32 (narrow a ∷ []) ∷ vs))
  converts ToInt64 kind w vs = to_int64 kind w Stuck (λ a. goes s (Plain Int64 (a ∷ []) ∷ vs))
  converts ToUnsigned64 kind w vs = to_int64 kind w Stuck (λ a. goes s (Plain Int64 (to_unsigned64 kind a ∷ []) ∷ vs))
  converts ToInt32Checked kind w vs = to_int64 kind w Stuck (λ a. if fits_signed Narrow (signed a) then goes s (Plain Int32 (a ∷ []) ∷ vs) else throws p s overflow)

  -- each form on numbers, from the stack
  abbrev pub calculates : NumberForm → List Value → Left
  calculates (Wraps f) stack = two_numbers stack (λ width a b vs. goes s (Plain (kind_at width) (wrapping_of f width a b ∷ []) ∷ vs))
  calculates (Checks f) stack = two_numbers stack (λ width a b vs.
      if fits (is_signed_of f) width (exact_of f width a b) then goes s (Plain (kind_at width) (wrapped_int width (exact_of f width a b) ∷ []) ∷ vs)
      else throws p s overflow)
  calculates (Divides f) stack = two_numbers stack (λ width a b vs.
      if b == 0 then throws p s divide_by_zero
      else (if divides_past f width a b then throws p s overflow
      else goes s (Plain (kind_at width) (divided f width a b ∷ []) ∷ vs)))
  calculates (Shifts f) stack = two_words stack (λ ka a kb b vs. at_width ka a (λ width. at_width kb b (λ other.
      same_width other Narrow (goes s (Plain (kind_at width) (shifted_by f width a b ∷ []) ∷ vs)))))
  calculates (Turns f) stack = pops stack (λ v vs. as_word v (λ kind w. at_width kind w (λ width. goes s (Plain (kind_at width) (turned f width w ∷ []) ∷ vs))))
  calculates (Converts f) stack = pops stack (λ v vs. as_word v (λ kind w. converts f kind w vs))
  calculates (Compares f) stack = compares f stack (λ is_so vs. goes s (Plain Int32 (bit_of is_so ∷ []) ∷ vs))

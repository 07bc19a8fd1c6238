-- What instructions on numbers come to. Only private contracts cite it.
use Rattle.std.specs.Prelude.{ℕ, ◌==◌, Bool, true, false, if◌then◌else◌, List, [], ◌∷◌, Ok}
use Rattle.cil_meaning.specs.Words.{narrow, signed}
use Rattle.cil_meaning.specs.Values.{Kind, Int32, Int64, Native, Reference, Struct, Value, Plain}
use Rattle.cil_meaning.specs.Search.{divide_by_zero, overflow}
use Rattle.cil_meaning.specs.Groups.{Wrapping, Checked, Division, Shift, Unary, Conversion, ToInt32, ToInt64, ToUnsigned64, ToInt32Checked, Comparison}
use Rattle.cil_meaning.specs.Arithmetic.{Width, Narrow, Wide, kind_at, wrapping_of, fits, is_signed_of, exact_of, wrapped_int, divides_past, divided, shifted_by, turned, to_unsigned64, fits_signed, are_compared, holds, bit_of}
use Rattle.unshared.specs.declared.frames.Frames.{Frames as FramesHere}
use Rattle.unshared.specs.Going.{Did, Throws, goes_on}
use Rattle.unshared.specs.Operands.{value_at, word_of}
use Rattle.unshared.specs.Silent.{Silent, ◌>>=◌, stuck, where_so}

-- the width of a number; an int32 stands sign-extended
unfoldable pub width_of : Kind → ℕ → Silent Width
width_of Int32 w = where_so (narrow w == w) (Ok Narrow)
width_of Int64 w = Ok Wide
width_of Native w = stuck
width_of Reference w = stuck
width_of Struct w = stuck

abbrev pub is_width : Width → Width → Bool
is_width Narrow Narrow = true
is_width Narrow Wide = false
is_width Wide Narrow = false
is_width Wide Wide = true

-- the word on top with its kind, and two of them, the second on top
unfoldable pub one_word : FramesHere → Silent (Kind × ℕ)
one_word f = do
  v ← value_at f 0
  word_of v

unfoldable pub two_words : FramesHere → Silent (Kind × ℕ × Kind × ℕ)
two_words f = do
  v ← value_at f 0
  b ← word_of v
  u ← value_at f 1
  a ← word_of u
  Ok (a.0, a.1, b.0, b.1)

unfoldable pub two_numbers : FramesHere → Silent (Width × ℕ × ℕ)
two_numbers f = do
  t ← two_words f
  width ← width_of t.0 t.1
  other ← width_of t.2 t.3
  where_so (is_width width other) (Ok (width, t.1, t.3))

abbrev pub number_at : Width → ℕ → List Value
number_at width w = Plain (kind_at width) (w ∷ []) ∷ []

-- Each form. --------------------------------------------------------------

unfoldable pub wraps : Wrapping → FramesHere → Silent Did
wraps form f = do
  t ← two_numbers f
  Ok (goes_on f 2 (number_at t.0 (wrapping_of form t.0 t.1 t.2)))

abbrev pub fits_exactly : Checked → Width → ℕ → ℕ → Bool
fits_exactly form width a b = fits (is_signed_of form) width (exact_of form width a b)

unfoldable pub checks : Checked → FramesHere → Silent Did
checks form f = do
  t ← two_numbers f
  Ok (if fits_exactly form t.0 t.1 t.2 then goes_on f 2 (number_at t.0 (wrapped_int t.0 (exact_of form t.0 t.1 t.2))) else Throws overflow)

unfoldable pub divides : Division → FramesHere → Silent Did
divides form f = do
  t ← two_numbers f
  Ok (if t.2 == 0 then Throws divide_by_zero else (if divides_past form t.0 t.1 t.2 then Throws overflow else goes_on f 2 (number_at t.0 (divided form t.0 t.1 t.2))))

unfoldable pub shifts : Shift → FramesHere → Silent Did
shifts form f = do
  t ← two_words f
  width ← width_of t.0 t.1
  other ← width_of t.2 t.3
  where_so (is_width other Narrow) (Ok (goes_on f 2 (number_at width (shifted_by form width t.1 t.3))))

unfoldable pub turns : Unary → FramesHere → Silent Did
turns form f = do
  t ← one_word f
  width ← width_of t.0 t.1
  Ok (goes_on f 1 (number_at width (turned form width t.1)))

-- a word of a number, a native int among them
abbrev pub is_number : Kind → Bool
is_number Int32 = true
is_number Int64 = true
is_number Native = true
is_number Reference = false
is_number Struct = false

abbrev pub converted : Conversion → FramesHere → Kind → ℕ → Did
converted ToInt32 f kind w = goes_on f 1 (Plain Int32 (narrow w ∷ []) ∷ [])
converted ToInt64 f kind w = goes_on f 1 (Plain Int64 (w ∷ []) ∷ [])
converted ToUnsigned64 f kind w = goes_on f 1 (Plain Int64 (to_unsigned64 kind w ∷ []) ∷ [])
converted ToInt32Checked f kind w = if fits_signed Narrow (signed w) then goes_on f 1 (Plain Int32 (w ∷ []) ∷ []) else Throws overflow

unfoldable pub converts : Conversion → FramesHere → Silent Did
converts form f = do
  t ← one_word f
  where_so (is_number t.0) (Ok (converted form f t.0 t.1))

-- what a comparison of the two values on top says
unfoldable pub compares : Comparison → FramesHere → Silent Bool
compares form f = do
  t ← two_words f
  where_so (are_compared form t.0 t.2) (Ok (holds form t.1 t.3))

unfoldable pub compared : Comparison → FramesHere → Silent Did
compared form f = do
  is_so ← compares form f
  Ok (goes_on f 2 (Plain Int32 (bit_of is_so ∷ []) ∷ []))

-- Arithmetic on words of 64 bits, after the RISC-V unprivileged ISA.
use Rattle.std.specs.Prelude.{ℕ, ◌+◌, ◌-◌, ◌*◌, ◌/◌, ◌%◌, ◌^◌, ◌==◌, ◌&&◌, nat_lt, if◌then◌else◌, ℤ, pos, ◌*ℤ◌, int_lt, int_div, int_rem}
use Rattle.std.specs.Int.{w32, w64, w128, cast_signed, cast_unsigned, int_shr}

-- the low k bits of a number, with bit k - 1 extended to 64 bits
abbrev pub extended : ℕ → ℕ → ℕ
extended k n = if nat_lt (n % 2 ^ k) (2 ^ (k - 1)) then n % 2 ^ k else n % 2 ^ k + (2 ^ 64 - 2 ^ k)

-- the number that a word is in two's complement, and that its low 32 bits are
abbrev pub signed : ℕ → ℤ
signed a = cast_signed w64 a

abbrev pub signed_32 : ℕ → ℤ
signed_32 a = cast_signed w32 (a % 2 ^ 32)

-- the word of a number in two's complement
abbrev pub word_of_int : ℤ → ℕ
word_of_int z = cast_unsigned w64 z

-- sums and differences are modulo 2 ^ 64
abbrev pub sum_of : ℕ → ℕ → ℕ
sum_of a b = (a + b) % 2 ^ 64

abbrev pub difference_of : ℕ → ℕ → ℕ
difference_of a b = (a + (2 ^ 64 - b)) % 2 ^ 64

-- shifts take the six low bits of the count
abbrev pub left_shift_of : ℕ → ℕ → ℕ
left_shift_of a b = (a * 2 ^ (b % 64)) % 2 ^ 64

abbrev pub right_shift_of : ℕ → ℕ → ℕ
right_shift_of a b = a / 2 ^ (b % 64)

abbrev pub signed_right_shift_of : ℕ → ℕ → ℕ
signed_right_shift_of a b = word_of_int (int_shr (signed a) (b % 64))

abbrev pub signed_less_of : ℕ → ℕ → ℕ
signed_less_of a b = if int_lt (signed a) (signed b) then 1 else 0

abbrev pub less_of : ℕ → ℕ → ℕ
less_of a b = if nat_lt a b then 1 else 0

-- the low half of the product, and the high half with both factors signed, one, or none
abbrev pub product_of : ℕ → ℕ → ℕ
product_of a b = (a * b) % 2 ^ 64

abbrev pub signed_high_product_of : ℕ → ℕ → ℕ
signed_high_product_of a b = cast_unsigned w128 (signed a *ℤ signed b) / 2 ^ 64

abbrev pub mixed_high_product_of : ℕ → ℕ → ℕ
mixed_high_product_of a b = cast_unsigned w128 (signed a *ℤ pos b) / 2 ^ 64

abbrev pub high_product_of : ℕ → ℕ → ℕ
high_product_of a b = a * b / 2 ^ 64

-- division rounds toward zero; by zero it gives all ones and the dividend as the remainder;
-- where the least number is divided by -1, it gives the dividend and the remainder 0
abbrev pub signed_quotient_of : ℕ → ℕ → ℕ
signed_quotient_of a b =
    if b == 0 then 2 ^ 64 - 1
    else (if (a == 2 ^ 63) && (b == 2 ^ 64 - 1) then a
    else word_of_int (int_div (signed a) (signed b)))

abbrev pub quotient_of : ℕ → ℕ → ℕ
quotient_of a b = if b == 0 then 2 ^ 64 - 1 else a / b

abbrev pub signed_remainder_of : ℕ → ℕ → ℕ
signed_remainder_of a b =
    if b == 0 then a
    else (if (a == 2 ^ 63) && (b == 2 ^ 64 - 1) then 0
    else word_of_int (int_rem (signed a) (signed b)))

abbrev pub remainder_of : ℕ → ℕ → ℕ
remainder_of a b = if b == 0 then a else a % b

-- the same on the low 32 bits, with bit 31 of what they give extended; shifts take five bits of the count
abbrev pub sum_32_of : ℕ → ℕ → ℕ
sum_32_of a b = extended 32 (a + b)

abbrev pub difference_32_of : ℕ → ℕ → ℕ
difference_32_of a b = extended 32 (a + (2 ^ 64 - b))

abbrev pub left_shift_32_of : ℕ → ℕ → ℕ
left_shift_32_of a b = extended 32 (a * 2 ^ (b % 32))

abbrev pub right_shift_32_of : ℕ → ℕ → ℕ
right_shift_32_of a b = extended 32 (a % 2 ^ 32 / 2 ^ (b % 32))

abbrev pub signed_right_shift_32_of : ℕ → ℕ → ℕ
signed_right_shift_32_of a b = word_of_int (int_shr (signed_32 a) (b % 32))

abbrev pub product_32_of : ℕ → ℕ → ℕ
product_32_of a b = extended 32 (a * b)

abbrev pub signed_quotient_32_of : ℕ → ℕ → ℕ
signed_quotient_32_of a b =
    if b % 2 ^ 32 == 0 then 2 ^ 64 - 1
    else (if (a % 2 ^ 32 == 2 ^ 31) && (b % 2 ^ 32 == 2 ^ 32 - 1) then extended 32 a
    else word_of_int (int_div (signed_32 a) (signed_32 b)))

abbrev pub quotient_32_of : ℕ → ℕ → ℕ
quotient_32_of a b = if b % 2 ^ 32 == 0 then 2 ^ 64 - 1 else extended 32 (a % 2 ^ 32 / (b % 2 ^ 32))

abbrev pub signed_remainder_32_of : ℕ → ℕ → ℕ
signed_remainder_32_of a b =
    if b % 2 ^ 32 == 0 then extended 32 a
    else (if (a % 2 ^ 32 == 2 ^ 31) && (b % 2 ^ 32 == 2 ^ 32 - 1) then 0
    else word_of_int (int_rem (signed_32 a) (signed_32 b)))

abbrev pub remainder_32_of : ℕ → ℕ → ℕ
remainder_32_of a b = if b % 2 ^ 32 == 0 then extended 32 a else extended 32 (a % 2 ^ 32 % (b % 2 ^ 32))

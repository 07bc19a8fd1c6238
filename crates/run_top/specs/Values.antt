-- Words of 64 bits, and int32 numbers in them.
use Rattle.std.specs.Prelude.{ℕ, ℤ, ◌+◌, ◌%◌, nat_lt, if◌then◌else◌}
use Rattle.std.specs.Int.{w32, cast_unsigned}

-- 32 bits as a word, whose high bits repeat bit 31
abbrev pub sign_extended : ℕ → ℕ
sign_extended n = if nat_lt n 2147483648 then n else n + 18446744069414584320

-- the 32 bits of a number
abbrev pub low_32 : ℤ → ℕ
low_32 n = cast_unsigned w32 n % 4294967296

-- the word of an int32
abbrev pub int32_word : ℤ → ℕ
int32_word n = sign_extended (low_32 n)

-- the word of the sum of two int32, which wraps
abbrev pub int32_sum : ℕ → ℕ → ℕ
int32_sum x y = sign_extended ((x + y) % 4294967296)

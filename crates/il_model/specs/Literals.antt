-- The values of numbers and literals. This project's own.
use Rattle.std.specs.Prelude.{ℕ, ◌-◌, ◌^◌, Bool, true, false, ℤ, pos, neg_ℤ, List, [], ◌∷◌, Option, Some, None, if◌then◌else◌, ◌==◌, nat_le, nat_lt, take, drop, length}
use Rattle.std.specs.Int.{Width, w32, w64, cast_signed}
use Rattle.il_text.specs.Spelling.{is_negative, is_hexadecimal, magnitude_of}

-- a number in the range of so many bits; hexadecimal digits without a sign are the bits themselves
abbrev pub signed_literal : Width → ℕ → List ℕ → Option ℤ
signed_literal width bits bytes =
    if is_negative bytes then (if nat_le (magnitude_of bytes) (2 ^ (bits - 1)) then Some (neg_ℤ (pos (magnitude_of bytes))) else None)
    else (if is_hexadecimal bytes
    then (if nat_lt (magnitude_of bytes) (2 ^ bits) then Some (cast_signed width (magnitude_of bytes)) else None)
    else (if nat_lt (magnitude_of bytes) (2 ^ (bits - 1)) then Some (pos (magnitude_of bytes)) else None))

abbrev pub int32_value : List ℕ → Option ℤ
int32_value = signed_literal w32 32

abbrev pub int64_value : List ℕ → Option ℤ
int64_value = signed_literal w64 64

-- the number of an argument or a local has no sign
abbrev pub place_value : List ℕ → Option ℕ
place_value bytes = if is_negative bytes then None else Some (magnitude_of bytes)

-- the byte that stands for the one behind `\`
abbrev pub escaped_byte : ℕ → ℕ
escaped_byte b = if b == 110 then 10 else (if b == 116 then 9 else b)

-- the bytes that these spell, behind `\` or not
abbrev pub unescaped : Bool → List ℕ → List ℕ
unescaped behind [] = []
unescaped true (b ∷ bs) = escaped_byte b ∷ unescaped false bs
unescaped false (b ∷ bs) = if b == 92 then unescaped true bs else b ∷ unescaped false bs

-- what a literal holds, without its quotes
abbrev pub text_value : List ℕ → List ℕ
text_value bytes = unescaped false (take (length bytes - 2) (drop 1 bytes))

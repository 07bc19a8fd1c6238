-- The bytes of an assembly text, by their use. This project's own.
use Rattle.std.specs.Prelude.{ℕ, Bool, nat_lt, nat_le, ◌==◌, ◌&&◌, ◌||◌, not}

-- space, tab, `\r` or `\n`
abbrev pub is_blank : ℕ → Bool
is_blank b = (b == 32) || ((b == 9) || ((b == 13) || (b == 10)))

abbrev pub is_digit : ℕ → Bool
is_digit b = nat_le 48 b && nat_le b 57

-- a digit, or a letter from a to f, small or large
abbrev pub is_hex_digit : ℕ → Bool
is_hex_digit b = is_digit b || ((nat_le 65 b && nat_le b 70) || (nat_le 97 b && nat_le b 102))

-- a letter, `_` or `.`
abbrev pub is_word_start : ℕ → Bool
is_word_start b = (nat_le 65 b && nat_le b 90) || ((nat_le 97 b && nat_le b 122) || ((b == 95) || (b == 46)))

-- a letter, a digit, `_` or `.`
abbrev pub is_word_byte : ℕ → Bool
is_word_byte b = is_word_start b || is_digit b

-- ASCII, and not the end of a line
abbrev pub is_comment_byte : ℕ → Bool
is_comment_byte b = nat_lt b 128 && not (b == 10)

-- printable, and neither `"` nor `\`
abbrev pub is_plain : ℕ → Bool
is_plain b = nat_le 32 b && (nat_le b 126 && (not (b == 34) && not (b == 92)))

-- what may follow `\` in a literal: `n`, `t`, `"` or `\`
abbrev pub is_escape : ℕ → Bool
is_escape b = (b == 110) || ((b == 116) || ((b == 34) || (b == 92)))

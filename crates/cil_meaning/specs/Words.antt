-- Words of 64 bits and the numbers that they are. Two's complement is that of ECMA-335, Partition III; that an int32 stands sign-extended is this project's own.
use Rattle.std.specs.Prelude.{ℕ, zero, suc, ◌%◌, ◌^◌, List, [], ◌∷◌, ℤ}
use Rattle.std.specs.Int.{w32, w64, cast_signed, cast_unsigned}
use Rattle.store_object.specs.Store.{sign_extended}

-- the low 32 bits of a word, and the int32 that they are, as a word
abbrev pub low_32 : ℕ → ℕ
low_32 w = w % 2 ^ 32

abbrev pub narrow : ℕ → ℕ
narrow w = sign_extended (low_32 w)

-- the number that a word is
abbrev pub signed : ℕ → ℤ
signed w = cast_signed w64 w

-- the words of an int32 and of an int64
abbrev pub int32_word : ℤ → ℕ
int32_word z = sign_extended (cast_unsigned w32 z)

abbrev pub int64_word : ℤ → ℕ
int64_word z = cast_unsigned w64 z

-- so many words from the index i on
abbrev pub cut : List ℕ → ℕ → ℕ → List ℕ
cut [] i n = []
cut (w ∷ ws) zero zero = []
cut (w ∷ ws) zero (suc n) = w ∷ cut ws zero n
cut (w ∷ ws) (suc i) n = cut ws i n

-- the words, with others in place of those from the index i on
abbrev pub spliced : List ℕ → ℕ → List ℕ → List ℕ
spliced [] i us = []
spliced (w ∷ ws) zero [] = w ∷ ws
spliced (w ∷ ws) zero (u ∷ us) = u ∷ spliced ws zero us
spliced (w ∷ ws) (suc i) us = w ∷ spliced ws i us

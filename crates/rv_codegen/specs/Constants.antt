-- The instructions that put a constant into a register. This project's own.
use Rattle.std.specs.Prelude.{ℕ, ◌+◌, ◌/◌, ◌%◌, ◌^◌, ◌==◌, if◌then◌else◌, List, [], ◌∷◌, ◌++◌}
use Rattle.cil_meaning.specs.Words.{narrow}
use Rattle.rv_isa.specs.declared.instr.Instr.{Instr}
use Rattle.rv_isa.specs.declared.instr.Instr.TheVariants.{Lui, Addiw, Slli, Addi}

-- 32 bits with their sign extended: the upper twenty, for lower twelve that count as a signed number, and these
abbrev pub sets_narrow : (rd bits : ℕ) → List Instr
sets_narrow rd bits = Lui rd ((bits + 2048) / 4096 % 1048576) ∷ Addiw rd rd (bits % 4096) ∷ []

-- 64 bits: the upper 32, then 11, 11 and 10 more from below
abbrev pub sets_wide : (rd word : ℕ) → List Instr
sets_wide rd word =
    sets_narrow rd (word / 2 ^ 32)
    ++ Slli rd rd 11 ∷ Addi rd rd (word / 2 ^ 21 % 2048)
    ∷ Slli rd rd 11 ∷ Addi rd rd (word / 2 ^ 10 % 2048)
    ∷ Slli rd rd 10 ∷ Addi rd rd (word % 1024) ∷ []

-- the short way where the word is that of an int32
abbrev pub sets_word : (rd word : ℕ) → List Instr
sets_word rd word = if narrow word == word then sets_narrow rd (word % 2 ^ 32) else sets_wide rd word

-- Registers and the pc. x0 reads as zero whatever the core holds there, and nothing writes it.
use Rattle.std.specs.Prelude.{ℕ, ◌+◌, ◌%◌, ◌^◌, ◌==◌, if◌then◌else◌, slice_index, slice_set}
use Rattle.rv_machine.specs.declared.registers.Core.{Core}

-- the word in a register
abbrev pub register_of : Core → ℕ → ℕ
register_of c n = if n == 0 then 0 else slice_index c.x n

-- a core after a write to a register
abbrev pub with_register : Core → ℕ → ℕ → Core
with_register c n word = if n == 0 then c else record c { x = slice_set c.x n word }

-- the address of the next code word
abbrev pub next_pc : Core → ℕ
next_pc c = (c.pc + 4) % 2 ^ 64

-- a core at another address
abbrev pub at_pc : Core → ℕ → Core
at_pc c pc = record c { pc = pc }

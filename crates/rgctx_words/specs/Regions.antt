-- How many context words there are, their regions, and where they lie in memory. This project's own.
use Rattle.std.specs.Prelude.{ℕ, ◌+◌, ◌-◌, ◌*◌, ◌/◌, ◌%◌, ◌&&◌, ◌==◌, nat_lt, nat_le, Option, Some, None, if◌then◌else◌}

abbrev pub word_count : ℕ
word_count = 81920

-- node words come first; the number 0 names no node
abbrev pub node_count : ℕ
node_count = 4096

abbrev pub row_count : ℕ
row_count = 8192

-- the words of a row: a link, and seven entries
abbrev pub row_words : ℕ
row_words = 8

abbrev pub directory_at : ℕ
directory_at = 4096

abbrev pub roots_at : ℕ
roots_at = 12288

abbrev pub rows_at : ℕ
rows_at = 16384

-- the address of context word 0
abbrev pub context_at : ℕ
context_at = 0x20000000

-- the address of row 0
abbrev pub rows_address : ℕ
rows_address = 0x20020000

-- the directory word of a row
abbrev pub directory_index : ℕ → ℕ
directory_index row = directory_at + row

-- the root of a node
abbrev pub root_index : ℕ → ℕ
root_index node = roots_at + node

-- word k of a row
abbrev pub row_index : ℕ → ℕ → ℕ
row_index row k = rows_at + row_words * row + k

-- the address of a context word
abbrev pub context_address : ℕ → ℕ
context_address i = context_at + 8 * i

-- the address of a row, which is that of its word 0
abbrev pub row_address : ℕ → ℕ
row_address row = rows_address + 64 * row

-- what lies at an address, in units of so many bytes from a start, of which there are so many
abbrev pub unit_at : (start bytes many : ℕ) → ℕ → Option ℕ
unit_at start bytes many address = if nat_le start address && (nat_lt ((address - start) / bytes) many && ((address - start) % bytes == 0)) then Some ((address - start) / bytes) else None

-- the context word that begins at an address
abbrev pub context_index : ℕ → Option ℕ
context_index address = unit_at context_at 8 word_count address

-- the row that begins at an address
abbrev pub row_at : ℕ → Option ℕ
row_at address = unit_at rows_address 64 row_count address

-- The accesses of a bus.
use Rattle.std.specs.Prelude.{◌≡◌, ◌⊎◌, ℕ, ◌%◌}

-- a size of 1, 2, 4 or 8 bytes
abbrev pub IsSize : ℕ → Type 0
IsSize size = (size ≡ 1) ⊎ ((size ≡ 2) ⊎ ((size ≡ 4) ⊎ (size ≡ 8)))

-- an access at a multiple of its size
abbrev pub IsAccess : ℕ → ℕ → Type 0
IsAccess address size = IsSize size × (address % size ≡ 0)

-- Words of memory as functions from their indexes, and how such functions change. This project's own.
use Rattle.std.specs.Prelude.{◌≡◌, ◌⊎◌, ℕ, ◌+◌, ◌-◌, ◌≤◌, ◌<◌, ◌==◌, nat_lt, if◌then◌else◌}

-- a function, changed at one number
abbrev pub put : {X : Type 0} → ℕ → X → (ℕ → X) → ℕ → X
put i v f j = if j == i then v else f j

-- other words from an index on
abbrev pub beyond : ℕ → (ℕ → ℕ) → (ℕ → ℕ) → ℕ → ℕ
beyond end more mem i = if nat_lt i end then mem i else more (i - end)

-- the memories differ in these words alone
abbrev pub Only : (ℕ → ℕ) → (ℕ → ℕ) → ℕ → ℕ → Type 0
Only before after at many = (i : ℕ) → (i < at) ⊎ (at + many ≤ i) → after i ≡ before i

-- The numbers by which a run chooses its threads. This project's own.
use Rattle.std.specs.Prelude.{ℕ, zero, suc, ◌+◌, ◌*◌, ◌/◌, ◌%◌, ◌^◌, ◌≤◌, List, [], ◌∷◌, length, take, ⊤}
use Rattle.store_object.specs.declared.ending.Chooser.{Chooser}
use Rattle.store_object.specs.declared.ending.Chooser.TheVariants as by

abbrev pub next_seed : ℕ → ℕ
next_seed s = (s * 6364136223846793005 + 1442695040888963407) % 2 ^ 64

-- so many numbers, drawn from a seed one after another
abbrev pub drawn : ℕ → ℕ → List ℕ
drawn zero s = []
drawn (suc n) s = next_seed s / 2 ^ 33 ∷ drawn n (next_seed s)

-- the first so many numbers of a chooser
abbrev pub numbers : Chooser → ℕ → List ℕ
numbers (by.Seed s) n = drawn n s
numbers (by.List xs) n = take n xs.items

-- a list has as many numbers as there are turns
abbrev pub HasNumbers : Chooser → ℕ → Type 0
HasNumbers (by.Seed s) n = ⊤
HasNumbers (by.List xs) n = n ≤ length xs.items

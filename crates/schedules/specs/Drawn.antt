-- The numbers that are left to a run.
use Rattle.std.specs.Prelude.{ℕ, ◌+◌, ◌≤◌, List, length, take, drop, ⊤}
use Rattle.store_object.specs.declared.ending.Chooser.{Chooser}
use Rattle.store_object.specs.declared.ending.Chooser.TheVariants as by
use Rattle.schedules.specs.declared.drawing.Drawing.{Drawing}
use Rattle.schedules.specs.Numbers.{drawn}

-- the next so many numbers
abbrev pub left : Chooser → Drawing → ℕ → List ℕ
left (by.Seed s) d n = drawn n d.seed
left (by.List xs) d n = take n (drop d.at xs.items)

-- there are as many
abbrev pub HasLeft : Chooser → Drawing → ℕ → Type 0
HasLeft (by.Seed s) d n = ⊤
HasLeft (by.List xs) d n = d.at + n ≤ length xs.items

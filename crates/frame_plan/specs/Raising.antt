-- One place made wider: only private contracts cite it. This project's own.
use Rattle.std.specs.Prelude.{ℕ, zero, suc, max, List, [], ◌∷◌}

-- the widths with the place of this number so wide at least; the place past the last is new
abbrev pub raised : List ℕ → ℕ → ℕ → List ℕ
raised [] place width = width ∷ []
raised (x ∷ xs) zero width = max x width ∷ xs
raised (x ∷ xs) (suc place) width = x ∷ raised xs place width

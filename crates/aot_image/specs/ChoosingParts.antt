-- A text in parts: its lines, and the words of a line. This project's own.
use Rattle.std.specs.Prelude.{ℕ, ◌==◌, if◌then◌else◌, List, [], ◌∷◌}

abbrev pub with_first : ℕ → List (List ℕ) → List (List ℕ)
with_first b [] = (b ∷ []) ∷ []
with_first b (part ∷ parts) = (b ∷ part) ∷ parts

-- the parts of a text between the bytes that are this mark, one more than there are marks
abbrev pub parts_at : ℕ → List ℕ → List (List ℕ)
parts_at mark [] = [] ∷ []
parts_at mark (b ∷ bs) = if b == mark then [] ∷ parts_at mark bs else with_first b (parts_at mark bs)

-- the lines, each of which ends with `\n` or the end of the text. Behind a last `\n` there is an empty one, which says nothing
abbrev pub lines_of : List ℕ → List (List ℕ)
lines_of text = parts_at 10 text

-- the words of a line, with a single space between each two
abbrev pub words_of : List ℕ → List (List ℕ)
words_of line = parts_at 32 line

-- the parts behind the first, of what stands behind it: nothing, or a mark and more parts
abbrev pub parts_behind : ℕ → List ℕ → List (List ℕ)
parts_behind mark [] = []
parts_behind mark (b ∷ bs) = parts_at mark bs

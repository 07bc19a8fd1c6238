-- An assembly as it grows from one that is kept in mind. This project's own.
use Rattle.std.specs.Prelude.{ℕ, ◌+◌, ◌<◌, List, [], ◌∷◌, ◌++◌, length, Option, None}
use Rattle.rv_isa.specs.declared.item.Item.{Item}
use Rattle.rv_isa.specs.Assembly.{Assembly, IsPlaced}
use Rattle.got_plt.specs.declared.emitting.Labels.{Labels}
use Rattle.got_plt.specs.Fetches.{label}

-- the assembly with these items and these labels' places put at the ends
abbrev pub grown : Assembly → List Item → List (Option ℕ) → Assembly
grown asm items places = record { items = asm.items ++ items; places = asm.places ++ places }

-- four labels without places
abbrev pub four_labels : List (Option ℕ)
four_labels = None ∷ None ∷ None ∷ None ∷ []

-- the four labels from a number on
abbrev pub labels_from : ℕ → Labels
labels_from n = record { first = label n; second = label (n + 1); missing = label (n + 2); done = label (n + 3) }

-- a label that was made and has no place
pub record CanPut (asm : Assembly) (number : ℕ) : Type 0 where
  pub made : number < length asm.places
  pub fresh : ¬ (IsPlaced asm number)

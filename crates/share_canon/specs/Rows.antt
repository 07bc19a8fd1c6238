-- Which compiled body serves a method at given types: the best match. This project's own.
use Rattle.std.specs.Prelude.{◌≡◌, ℕ, ◌<◌, List, slice_get, Option, Some, None}
use Rattle.type_tree.specs.declared.tree.TExpr.{TExpr}
use Rattle.il_model.specs.declared.program.Program.{Program}
use Rattle.il_model.specs.declared.key.BodyRow.{BodyRow}
use Rattle.share_canon.specs.Keys.{Serves, IsCloser}

-- the row is one of the method, and its key serves the types
pub record ServesAt (program : Program) (method : ℕ) (types : List TExpr) (row : BodyRow) : Type 0 where
  pub is_of : row.method ≡ method
  pub by_key : Serves program row.key.parts types

-- none of the first so many rows serves
pub record NoneServes (program : Program) (rows : List BodyRow) (method : ℕ) (types : List TExpr) (many : ℕ) : Type 0 where
  pub none : (j : ℕ) (other : BodyRow) → j < many → slice_get rows j ≡ Some other → ¬ (ServesAt program method types other)

-- of the first so many rows the one at this place is the best match: it serves, none that serves is closer, and it is closer than each that serves before it
pub record IsBest (program : Program) (rows : List BodyRow) (method : ℕ) (types : List TExpr) (many place : ℕ) : Type 0 where
  pub row : BodyRow
  pub is : slice_get rows place ≡ Some row
  pub among : place < many
  pub serves : ServesAt program method types row
  pub closest : (j : ℕ) (other : BodyRow) → j < many → slice_get rows j ≡ Some other → ServesAt program method types other → ¬ (IsCloser other.key.parts row.key.parts)
  pub first : (j : ℕ) (other : BodyRow) → j < place → slice_get rows j ≡ Some other → ServesAt program method types other → IsCloser row.key.parts other.key.parts

-- the place of the best match among the first so many rows, or none where no row serves
abbrev pub Picks : Program → List BodyRow → ℕ → List TExpr → ℕ → Option ℕ → Type 0
Picks program rows method types many None = NoneServes program rows method types many
Picks program rows method types many (Some place) = IsBest program rows method types many place

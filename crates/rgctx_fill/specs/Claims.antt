-- What one who holds given words may claim, which words are always there, and which others held words show. This project's own.
use Rattle.std.specs.Prelude.{◌≡◌, ◌≢◌, ◌⊎◌, ℕ, ◌≤◌, ◌<◌}
use Rattle.rgctx_words.specs.declared.place.ContextPlace.{ContextPlace}
use Rattle.rgctx_words.specs.declared.place.ContextPlace.TheVariants as place
use Rattle.rgctx_words.specs.Regions.{row_count, directory_at, directory_index, row_address}
use Rattle.rgctx_words.specs.Places.{place_of}
use Rattle.rgctx_words.specs.Directory.{directory_read}
use Rattle.rgctx_words.specs.Held.{Grows}
use Rattle.rgctx_template.specs.Catalogue.{CatData}
use Rattle.rgctx_fill.specs.Spelled.{spelled_below, spelled_from}
use Rattle.rgctx_fill.specs.Leaves.{IsLeaf, last_leaf}
use Rattle.rgctx_fill.specs.Nodes.{MayStand}
use Rattle.rgctx_fill.specs.Fitting.{directory, IsRow, IsRowOf, IsNext, IsEntry, AreFitting}

-- all words of a list from a number on, up to a place, are held, and each is another
pub record ArePassed (word : ℕ → ℕ) (first place new : ℕ) : Type 0 where
  pub held : (j : ℕ) → first ≤ j → j < place → word j ≢ 0
  pub other : (j : ℕ) → first ≤ j → j < place → word j ≢ new

-- a node is claimed for a type or a method that is admitted, once the nodes before it are held
pub record MayNode (cat : CatData) (held : ℕ → ℕ) (i word : ℕ) : Type 0 where
  pub later : last_leaf < i
  pub passed : ArePassed held 1 i word
  pub stands : MayStand cat.program i (spelled_from (spelled_below held i) i word)

-- a row is claimed for a node that is held, once the directory words before it are held
pub record MayRow (cat : CatData) (held : ℕ → ℕ) (row word : ℕ) : Type 0 where
  pub passed : ArePassed (directory held) 0 row word
  pub rightly : IsRow cat held (directory_read word)

-- all words that fit and have what is held are so
abbrev pub IsSure : CatData → (ℕ → ℕ) → ((ℕ → ℕ) → Type 0) → Type 0
IsSure cat held P = (at : ℕ → ℕ) → AreFitting cat at → Grows held at → P at

-- what may be claimed at a place. A link or an entry is claimed in a row of which the held words show whose it is, be it by a root or a link that leads to it
abbrev pub MayClaim : CatData → (ℕ → ℕ) → ℕ → ContextPlace → Type 0
MayClaim cat held word (place.Node i) = MayNode cat held i word
MayClaim cat held word (place.Directory row) = MayRow cat held row word
MayClaim cat held word (place.Root i) = IsRowOf held i 0 word
MayClaim cat held word (place.Link row) = IsSure cat held (λ at. IsNext at row word)
MayClaim cat held word (place.Entry row slot) = IsSure cat held (λ at. IsEntry cat at row slot word)

-- one who holds these words may claim the word at the index
abbrev pub Allows : CatData → (ℕ → ℕ) → ℕ → ℕ → Type 0
Allows cat held i word = MayClaim cat held word (place_of i)

-- the index always holds a word
abbrev pub Always : ℕ → Type 0
Always i = IsLeaf i

-- the index is that of the directory word of the row with this address
pub record IsOfRow (address i : ℕ) : Type 0 where
  pub row : ℕ
  pub low : row < row_count
  pub is : address ≡ row_address row
  pub at : i ≡ directory_index row

-- which indexes a word at a place names: a node names all nodes before it, its arguments among them; a row those before it, and its node; a root, a link and an entry their row
abbrev pub NamesFrom : ContextPlace → ℕ → ℕ → Type 0
NamesFrom (place.Node i) word j = (0 < j) × (j < i)
NamesFrom (place.Directory row) word j = ((directory_at ≤ j) × (j < directory_index row)) ⊎ (j ≡ (directory_read word).node)
NamesFrom (place.Root i) word j = (j ≡ i) ⊎ IsOfRow word j
NamesFrom (place.Link row) word j = (j ≡ directory_index row) ⊎ IsOfRow word j
NamesFrom (place.Entry row slot) word j = j ≡ directory_index row

-- the word at the index names the other index
abbrev pub Names : ℕ → ℕ → ℕ → Type 0
Names i word j = NamesFrom (place_of i) word j

-- what is held shows that the index holds a word
abbrev pub Shows : CatData → (ℕ → ℕ) → ℕ → Type 0
Shows cat held i = IsSure cat held (λ at. at i ≢ 0)

-- Which context words may stand together. This project's own.
use Rattle.std.specs.Prelude.{◌≡◌, ◌≢◌, ℕ, ◌+◌, ◌*◌, ◌≤◌, ◌<◌, length}
use Rattle.rgctx_words.specs.declared.directory.DirectoryWord.{DirectoryWord}
use Rattle.rgctx_words.specs.Regions.{node_count, row_count, row_words, directory_index, root_index, row_index, row_address}
use Rattle.rgctx_words.specs.Places.{row_entries, entry_of}
use Rattle.rgctx_words.specs.Directory.{directory_read}
use Rattle.rgctx_template.specs.Catalogue.{CatData}
use Rattle.rgctx_fill.specs.Spelled.{spelled}
use Rattle.rgctx_fill.specs.Leaves.{IsLeaf, opening}
use Rattle.rgctx_fill.specs.Nodes.{MayStand}
use Rattle.rgctx_fill.specs.Templates.{template_at}
use Rattle.rgctx_fill.specs.NamedValues.{IsNamed}

-- words from a number on that are not 0 up to some point and 0 after it, and that differ
pub record AreListed (word : ℕ → ℕ) (first count : ℕ) : Type 0 where
  pub packed : (i j : ℕ) → first ≤ i → i < j → j < count → word j ≢ 0 → word i ≢ 0
  pub different : (i j : ℕ) → first ≤ i → i < j → j < count → word j ≢ 0 → word i ≢ word j

-- the directory word of a row
abbrev pub directory : (ℕ → ℕ) → ℕ → ℕ
directory at row = at (directory_index row)

-- for which node a row is in use, and at which depth
abbrev pub use_of : (ℕ → ℕ) → ℕ → DirectoryWord
use_of at row = directory_read (directory at row)

-- a row is in use for a node in use whose template comes to its depth
pub record IsRow (cat : CatData) (at : ℕ → ℕ) (word : DirectoryWord) : Type 0 where
  pub number : (0 < word.node) × (word.node < node_count)
  pub used : at word.node ≢ 0
  pub within : row_entries * word.depth < length (template_at cat at word.node)

-- the address is that of the row that a node has at a depth
pub record IsRowOf (at : ℕ → ℕ) (node depth address : ℕ) : Type 0 where
  pub row : ℕ
  pub low : row < row_count
  pub is : address ≡ row_address row
  pub used : directory at row ≢ 0
  pub of : use_of at row ≡ record { node = node; depth = depth }

-- the address is that of the row of the next depth, behind a row in use
pub record IsNext (at : ℕ → ℕ) (row address : ℕ) : Type 0 where
  pub used : directory at row ≢ 0
  pub next : IsRowOf at (use_of at row).node ((use_of at row).depth + 1) address

-- the word is the value of the entry that stands at this word of a row in use
pub record IsEntry (cat : CatData) (at : ℕ → ℕ) (row slot value : ℕ) : Type 0 where
  pub used : directory at row ≢ 0
  pub named : IsNamed cat at (use_of at row).node (entry_of (use_of at row).depth slot) value

-- the words fit
pub record AreFitting (cat : CatData) (at : ℕ → ℕ) : Type 0 where
  -- each node word is the image's or spells an admitted type or method; its argument nodes are in use and have smaller numbers
  pub nodes : (i : ℕ) → 0 < i → i < node_count → at i ≢ 0 → MayStand cat.program i (spelled at i)
  -- the leaves are there; nodes and rows are in use up to some number, and no two are the same
  pub leaves : (i : ℕ) → IsLeaf i → at i ≡ opening cat.program i
  pub nodes_listed : AreListed at 1 node_count
  pub rows_listed : AreListed (directory at) 0 row_count
  -- each row in use is one of a node in use, within its template
  pub rows : (row : ℕ) → row < row_count → directory at row ≢ 0 → IsRow cat at (use_of at row)
  -- a root or link is 0 or the address of its node's row of depth 0, or of the next depth
  pub roots : (i : ℕ) → i < node_count → at (root_index i) ≢ 0 → IsRowOf at i 0 (at (root_index i))
  pub links : (row : ℕ) → row < row_count → at (row_index row 0) ≢ 0 → IsNext at row (at (row_index row 0))
  -- an entry is 0 or the value that it names
  pub entries : (row slot : ℕ) → row < row_count → 0 < slot → slot < row_words → at (row_index row slot) ≢ 0 → IsEntry cat at row slot (at (row_index row slot))
  -- the number 0 names no node; of rows that are not in use, and past a template, the conditions above leave 0 alone
  pub unused : at 0 ≡ 0

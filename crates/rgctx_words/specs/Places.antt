-- What stands at each index of the context words, and in which row an entry stands. This project's own.
use Rattle.std.specs.Prelude.{ℕ, zero, suc, ◌+◌, ◌-◌, ◌*◌, ◌/◌, ◌%◌, ◌<◌, nat_lt, if◌then◌else◌}
use Rattle.rgctx_words.specs.declared.place.ContextPlace.{ContextPlace}
use Rattle.rgctx_words.specs.declared.place.ContextPlace.TheVariants.{Node, Directory, Root, Link, Entry}
use Rattle.rgctx_words.specs.Regions.{node_count, row_count, row_words, directory_at, roots_at, rows_at, directory_index, root_index, row_index}

-- the index of a place
abbrev pub index_of : ContextPlace → ℕ
index_of (Node node) = node
index_of (Directory row) = directory_index row
index_of (Root node) = root_index node
index_of (Link row) = row_index row 0
index_of (Entry row slot) = row_index row slot

-- the place is one of the words
abbrev pub IsPlace : ContextPlace → Type 0
IsPlace (Node node) = node < node_count
IsPlace (Directory row) = row < row_count
IsPlace (Root node) = node < node_count
IsPlace (Link row) = row < row_count
IsPlace (Entry row slot) = (row < row_count) × (0 < slot) × (slot < row_words)

-- word k of a row
abbrev pub in_row : ℕ → ℕ → ContextPlace
in_row row zero = Link row
in_row row (suc k) = Entry row (suc k)

-- what stands at an index
abbrev pub place_of : ℕ → ContextPlace
place_of i = if nat_lt i directory_at then Node i else (if nat_lt i roots_at then Directory (i - directory_at) else (if nat_lt i rows_at then Root (i - roots_at) else in_row ((i - rows_at) / row_words) ((i - rows_at) % row_words)))

-- the entries of a row
abbrev pub row_entries : ℕ
row_entries = 7

-- the depth of the row in which an entry of a template stands, and its word there
abbrev pub depth_of : ℕ → ℕ
depth_of entry = entry / row_entries

abbrev pub slot_of : ℕ → ℕ
slot_of entry = entry % row_entries + 1

-- the entry at a word of the row of a depth
abbrev pub entry_of : ℕ → ℕ → ℕ
entry_of depth slot = row_entries * depth + slot - 1

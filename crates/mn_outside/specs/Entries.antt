-- Files in memory: a list of names with their bytes. This project's own.
use Rattle.std.specs.Prelude.{ℕ, zero, suc, List, [], ◌∷◌, Option, Some, None, if◌then◌else◌, unwrap_or}
use Rattle.std.specs.Str.{bytes_eq}

abbrev pub Entries : Type 0
Entries = List (List ℕ × List ℕ)

-- the bytes of the first entry of a name
abbrev pub entry_of : Entries → List ℕ → Option (List ℕ)
entry_of [] name = None
entry_of (e ∷ es) name = if bytes_eq e.0 name then Some e.1 else entry_of es name

-- a name without an entry holds the empty file
abbrev pub entry_or_empty : Entries → List ℕ → Option (List ℕ)
entry_or_empty es name = Some (unwrap_or (entry_of es name) [])

-- the entries after a write: the first entry of the name has the bytes, or there is one more at the end
abbrev pub with_entry : Entries → List ℕ → List ℕ → Entries
with_entry [] name bytes = (name, bytes) ∷ []
with_entry (e ∷ es) name bytes = if bytes_eq e.0 name then (e.0, bytes) ∷ es else e ∷ with_entry es name bytes

-- the entries with other bytes in the one at a place
abbrev pub with_bytes_at : Entries → ℕ → List ℕ → Entries
with_bytes_at [] at bytes = []
with_bytes_at (e ∷ es) zero bytes = (e.0, bytes) ∷ es
with_bytes_at (e ∷ es) (suc at) bytes = e ∷ with_bytes_at es at bytes
